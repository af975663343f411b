-- Every worker's third word is right where a claim was opened or a set of claims completed, and after each store that touches no mark and no number.
-- Assumes nothing.
--   kept_most, kept_low  a right third word is a claim of the job + 1, or 0
--   await-kept, ..       stores at other words
--   open_kept            a fresh claim is opened, and the worker's word is the newer of it and the claim before
--   complete-kept        claims of a worker are completed, and its word is sought
use mathlib.Core.Path.{◌≡◌, refl, sym, ◌∙◌, ap, subst, subst⁻¹}
use mathlib.Core.Logic.{by_cases, inl, inr}
use mathlib.Core.List.{List}
use Prim.Native.Nat.{ℕ, ◌+◌, ◌≤◌, ◌<◌}
use native.Mathlib.Omega.{arith}
use native.Mathlib.Decide.{ℕ_discrete}
use lib.ListN.{length, get_or, set}
use Rattle.base.proofs.Lists.{In}
use Rattle.job.specs.Job.{Job}
use Rattle.job.specs.Format.{claims, workers, job_of}
use Rattle.table.specs.Layout as W
use Rattle.table.specs.Newest.{newer, sought, NewestKept, NewestOf, none, some, Owns}
use Rattle.table.proofs.NewestOf.{newest_like, newer_of, sought_of, sought_is}
use Rattle.table.proofs.Keeping.{sought_same, kept_store}
use Rattle.turn.specs.Turn.{open_claim, mark_all}
use Rattle.turn.proofs.Words as X
use Rattle.turn.proofs.Lengths.{open-length, mark-length}

module _ {j : Job} {t : List ℕ} (K : NewestKept j t) where
  pub kept_most : (w : ℕ) → w < j.workers → W.kept j t w ≤ j.claims
  kept_most w l = omega (arith, K.is w l, go (sought_of j.claims t w))
    where
      go : {r : ℕ} → NewestOf t (Owns j.claims t w) r → r ≤ j.claims
      go (none e f) = omega arith
      go (some c e o f) = omega (arith, o.0)

  module _ (w v : ℕ) where
    pub await-kept : NewestKept j (set t (W.awaited_word j w) v)
    await-kept = kept_store j K (W.awaited_word j w) v (λ c l e. omega arith) (λ c l e. omega arith) (λ u l e. omega arith)

    pub answered-kept : NewestKept j (set t (W.answered_word j w) v)
    answered-kept = kept_store j K (W.answered_word j w) v (λ c l e. omega arith) (λ c l e. omega arith) (λ u l e. omega arith)

  pub answer-kept : (k v : ℕ) → NewestKept j (set t (W.answer_word j k) v)
  answer-kept k v = kept_store j K (W.answer_word j k) v (λ c l e. omega arith) (λ c l e. omega arith) (λ u l e. omega arith)

  pub cursor-kept : (c v : ℕ) → c < j.claims → NewestKept j (set t (W.cursor_word c) v)
  cursor-kept c v h = kept_store j K (W.cursor_word c) v (λ d l e. omega arith) (λ d l e. omega arith) (λ u l e. omega arith)

-- by the count of claims that was read
pub kept_low : (s t : List ℕ) → NewestKept (job_of s) t → (w : ℕ) → w < workers s → {n : ℕ} → n ≡ claims s → get_or t (W.newest_at n w) 0 ≤ n
unfolding job_of
kept_low s t K w l e = subst⁻¹ (λ (x : ℕ). get_or t (W.newest_at x w) 0 ≤ x) e (kept_most K w l)

-- a third word stored: the others stay, and a search finds what it found
module _ (j : Job) (t : List ℕ) (w v : ℕ) where
  abbrev t' : List ℕ
  t' = set t (W.newest_word j w) v

  stored-sought : (u : ℕ) → sought j.claims t' u ≡ sought j.claims t u
  stored-sought =
      sought_same j.claims t t' (λ c l. X.other t (W.newest_word j w) v (W.mark_word c) (λ e. omega arith))
      (λ c l. X.other t (W.newest_word j w) v (W.number_word c) (λ e. omega arith))

  stored-kept : W.newest_word j w < length t → v ≡ sought j.claims t w → ((u : ℕ) → u < j.workers → (u ≡ w → ⊥) → W.kept j t u ≡ sought j.claims t u) → NewestKept j t'
  stored-kept h e f =
      record {
        is = λ u l.
            by_cases (ℕ_discrete u w)
            (λ q. subst (λ (x : ℕ). W.kept j t' x ≡ sought j.claims t' x) (sym q) (X.same t (W.newest_word j w) v h ∙ e ∙ sym (stored-sought w)))
            (λ d. X.other t (W.newest_word j w) v (W.newest_word j u) (λ q. d (omega arith)) ∙ f u l d ∙ sym (stored-sought u));
      }

-- a fresh claim is opened
module _ {j : Job} {t : List ℕ} (K : NewestKept j t) {w b : ℕ} (small : w < j.workers) (low : b < j.claims) (fresh : W.mark t b ≡ 0) (room : W.used j ≤ length t) where
  abbrev u : List ℕ
  u = open_claim t w b

  there : W.number_word b < length t
  there = omega arith

  its : W.mark u b ≡ w + 1
  its = X.open-mark t w b there

  mark_was : (d : ℕ) → (d ≡ b → ⊥) → W.mark u d ≡ W.mark t d
  mark_was d n = X.open-marks t w b d n

  number_was : (d : ℕ) → (d ≡ b → ⊥) → W.number u d ≡ W.number t d
  number_was d n = X.open-numbers t w b d n

  -- what some worker owned before isn't b
  apart : (v d : ℕ) → W.mark t d ≡ v + 1 → d ≡ b → ⊥
  apart v d m e = omega (arith, ap (W.mark t) e)

  -- what another owns
  others : (v : ℕ) → (v ≡ w → ⊥) → sought j.claims u v ≡ sought j.claims t v
  others v n =
      sym
      (sought_is j.claims u v
      (newest_like (λ d o. (o.0, mark_was d (apart v d o.1) ∙ o.1)) (λ d o. (o.0, sym (mark_was d (not_b d o.1)) ∙ o.1)) (λ d o. number_was d (apart v d o.1))
      (sought_of j.claims t v)))
    where
      not_b : (d : ℕ) → W.mark u d ≡ v + 1 → d ≡ b → ⊥
      not_b d m e = n (omega (arith, its, ap (W.mark u) e))

  own : newer u b (W.kept j t w) ≡ sought j.claims u w
  own =
      sought_is j.claims u w
      (newer_of b
      (λ d o. by_cases (ℕ_discrete d b) (λ e. inr e) (λ n. inl (o.0, sym (mark_was d n) ∙ o.1)))
      (λ d o. (o.0, mark_was d (apart w d o.1) ∙ o.1)) (low, its) before)
    where
      before : NewestOf u (Owns j.claims t w) (W.kept j t w)
      before =
          subst (NewestOf u (Owns j.claims t w)) (sym (K.is w small))
          (newest_like (λ d o. o) (λ d o. o) (λ d o. number_was d (apart w d o.1)) (sought_of j.claims t w))

  pub open_kept : NewestKept j (set u (W.newest_word j w) (newer u b (W.kept j t w)))
  open_kept =
      stored-kept j u w (newer u b (W.kept j t w)) (omega (arith, open-length t w b)) own
      (λ v l n. X.open-other t w b (W.newest_word j v) (λ e. omega arith) (λ e. omega arith) (λ e. omega arith) (λ e. omega arith) ∙ K.is v l ∙ sym (others v n))

-- claims of a worker are completed
module _ {j : Job} {t : List ℕ} (K : NewestKept j t) {w : ℕ} (small : w < j.workers) (f : ℕ → ℕ) (cs : List ℕ) (low : (d : ℕ) → In d cs → d < j.claims) (mine : (d : ℕ) → In d cs → W.mark t d ≡ w + 1) (past : (d : ℕ) → j.workers < f d) (room : W.used j ≤ length t) where
  abbrev m : List ℕ
  m = mark_all f cs t

  pub complete-kept : NewestKept j (set m (W.newest_word j w) (sought j.claims m w))
  complete-kept =
      stored-kept j m w (sought j.claims m w) (omega (arith, mark-length f cs t)) refl
      (λ v l n. X.marks-other f cs t (W.newest_word j v) (λ d i e. omega (arith, low d i)) ∙ K.is v l ∙ sym (others v l n))
    where
      others : (v : ℕ) → v < j.workers → (v ≡ w → ⊥) → sought j.claims m v ≡ sought j.claims t v
      others v l n =
          sym
          (sought_is j.claims m v
          (newest_like (λ d o. (o.0, X.marks_out j f cs t low d (λ i. n (omega (arith, mine d i, o.1))) ∙ o.1))
          (λ d o. (o.0, sym (X.marks_out j f cs t low d (λ i. omega (arith, past d, X.marks_in f cs t d (omega (arith, low d i)) i, o.1))) ∙ o.1))
          (λ d o. X.marks-number j f cs t low d) (sought_of j.claims t v)))
