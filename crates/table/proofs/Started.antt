-- A started table: what its words are. Assumes nothing.
--   start-written       the header and the zeros written are `start_words`
--   start-length        as long as before
--   start-header, start-zero   a word of the header, and another word used
use Prim.Native.Nat.{ℕ, ◌+◌, ◌-◌, ◌<◌, ◌≤◌}
use mathlib.Core.Path.{◌≡◌, refl, ◌∙◌, ap}
use mathlib.Core.List.{List, ◌++◌}
use native.Mathlib.Omega.{arith}
use lib.ListN.{length, get_or, take, drop, replicate, length-append, length-drop, length-replicate, get_or-replicate, get_or-append}
use lib.Seq.{get_or-append-add}
use borrow.Rule.Slice.PartMut.{put_mid}
use Rattle.std.proofs.lemmas.List.{take_at, drop_at, drop-drop, length-take-le}
use Rattle.job.specs.Job.{Job}
use Rattle.table.specs.Layout.{used, fixed_words, header}
use Rattle.table.specs.Start.{start_words}

-- how many words follow those of the header that never change
abbrev rest : Job → ℕ
rest j = used j - fixed_words

fixed : (j : Job) → length (header j) ≡ fixed_words
unfolding header
fixed j = refl

pub header-length : (j : Job) {h : List ℕ} → h ≡ header j → length h ≡ fixed_words
header-length j e = ap length e ∙ fixed j

module _ (j : Job) (t : List ℕ) where
  -- the header h at the front, then zeros z in place of the other words used
  pub start-written : {h z : List ℕ} {n : ℕ} → h ≡ header j → n ≡ used j → let l = h ++ drop fixed_words t in let m = n - fixed_words in z ≡ replicate (length (take m (drop fixed_words l))) 0 → used j ≤ length t → put_mid fixed_words m l z ≡ start_words j t
  unfolding start_words header
  start-written {h} {z} {n} e u q r =
      let x = drop fixed_words t in
      let k : length h ≡ fixed_words = header-length j e in
      let f : take fixed_words (h ++ x) ≡ h = take_at h x fixed_words k in
      let b : drop fixed_words (h ++ x) ≡ x = drop_at h x fixed_words k in
      let m : length (take (rest j) x) ≡ rest j = length-take-le (rest j) x (omega (arith, length-drop fixed_words t)) in
      let d : drop (rest j) x ≡ drop (used j) t = drop-drop (rest j) fixed_words t ∙ ap (λ (i : ℕ). drop i t) (omega arith) in
      rw (q, u, f, b, m, d, e) refl

  pub start-length : used j ≤ length t → length (start_words j t) ≡ length t
  unfolding start_words header
  start-length h = simp (length-append, length-replicate, length-drop) (omega arith)

  pub start-header : (i : ℕ) → i < fixed_words → get_or (start_words j t) i 0 ≡ get_or (header j) i 0
  unfolding start_words header
  start-header i h = get_or-append (header j) (replicate (rest j) 0 ++ drop (used j) t) 0 i (omega (arith, fixed j))

  -- past the header
  after : (i : ℕ) → fixed_words ≤ i → get_or (start_words j t) i 0 ≡ get_or (replicate (rest j) 0 ++ drop (used j) t) (i - fixed_words) 0
  unfolding start_words header
  after i h =
      let e : i ≡ length (header j) + (i - fixed_words) = omega (arith, fixed j) in
      ap (λ (x : ℕ). get_or (header j ++ (replicate (rest j) 0 ++ drop (used j) t)) x 0) e
      ∙ get_or-append-add (header j) (replicate (rest j) 0 ++ drop (used j) t) (i - fixed_words) 0

  pub start-zero : (i : ℕ) → fixed_words ≤ i → i < used j → get_or (start_words j t) i 0 ≡ 0
  start-zero i h l =
      after i h
      ∙ (get_or-append (replicate (rest j) 0) (drop (used j) t) 0 (i - fixed_words) (omega (arith, length-replicate {A = ℕ} (rest j) 0))
      ∙ get_or-replicate (rest j) (i - fixed_words) 0 0 (omega arith))
