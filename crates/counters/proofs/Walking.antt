-- A key's places, walked from the first on: the positions that have the key, from the last down (specs/Positions: Placed). Assumes nothing.
--   Found s occ key x j   the position at place j of a key of whose positions those from x on are done
--   found                 it is there
--   Walk R s q i t key j  the key at place i of a queue, walked up to its place j: of its positions those from x on are done, by which R x holds
--   Skips R s q i         positions that don't have the key make no difference to R
--   Next R s q i key j r  the position at place j, of rule r, next to be done
--   place-read            a place of a part of a list
--   Places, places        where a key's places are; Owners, owners_at   the rules there
--   walk_start, _end, -next, -on
use Prim.Native.Nat.{ℕ, ◌+◌, ◌-◌, ◌<◌, ◌≤◌}
use mathlib.Core.Path.{◌≡◌, sym, ◌∙◌, ap, subst⁻¹}
use mathlib.Core.List.{List}
use native.Mathlib.Omega.{arith}
use lib.ListN.{length, get_or, take, drop, length-take, length-drop}
use Rattle.std.proofs.lemmas.List.{get_or-take, get_or-drop}
use Rattle.job.specs.Accepted.{WellFormed}
use Rattle.job.specs.Format.{rules, literals}
use Rattle.counters.specs.Positions.{key_at, keys, tally, start_of, owners, Placed}
use Rattle.counters.proofs.Occurring.{occ_first, occ-next, occ_done, start_mono, start_most}
use Rattle.counters.proofs.Owning.{owners-owned}

pub record Found (s occ : List ℕ) (key x j : ℕ) : Type 0 where
  pub p : ℕ
  pub below : p < x
  pub inside : p < literals s
  pub has : key_at s p ≡ key
  pub past : (i : ℕ) → p + 1 ≤ i → i < x → key_at s i ≡ key → ⊥
  pub rule : (r : ℕ) → r ≡ get_or occ j 0 → r ≡ get_or (owners s) p 0
  pub small : (r : ℕ) → r ≡ get_or occ j 0 → r < rules s
  pub left : j + 1 + tally s key p ≡ start_of s (key + 1)

pub found :
    (s start occ : List ℕ) (key x j : ℕ) → WellFormed s → Placed s start occ → x ≤ literals s → j + tally s key x ≡ start_of s (key + 1)
    → j < start_of s (key + 1) → Found s occ key x j
found s start occ key x j good placed l e more =
    let m = occ-next s key x j l placed e more in
    let inside : m.0 < literals s = omega (arith, m.1) in
    record {
      p = m.0;
      below = m.1;
      inside = inside;
      has = m.2;
      past = λ i a b. m.3 i (omega arith) b;
      rule = λ r f. f ∙ m.4;
      small = λ r f. subst⁻¹ (λ (y : ℕ). y < rules s) (f ∙ m.4) ((owners-owned s good).owner m.0 inside).below;
      left = m.5;
    }

-- a part of a list, read at one of its places
pub place-read :
    (occ : List ℕ) (from end i r : ℕ) → i < end - from → r ≡ get_or (take (end - from) (drop from occ)) i 0 → r ≡ get_or occ (from + i) 0
place-read occ from end i r l e = e ∙ get_or-take (end - from) (drop from occ) i 0 l ∙ get_or-drop from occ i 0

-- the places of a key, and the rules that stand there
pub record Places (start occ : List ℕ) (key : ℕ) : Type 0 where
  pub rising : get_or start key 0 ≤ get_or start (key + 1) 0
  pub within : get_or start (key + 1) 0 ≤ length occ

pub record Owners (s occ here : List ℕ) (key : ℕ) : Type 0 where
  pub ends : start_of s key + length here ≡ start_of s (key + 1)
  pub read : (i r : ℕ) → i < length here → r ≡ get_or here i 0 → r ≡ get_or occ (start_of s key + i) 0

module _ (s start occ : List ℕ) (placed : Placed s start occ) (key : ℕ) (small : key < keys s) where
  first : get_or start key 0 ≡ start_of s key
  first = placed.starts key (omega arith)

  past : get_or start (key + 1) 0 ≡ start_of s (key + 1)
  past = placed.starts (key + 1) (omega arith)

  pub places : Places start occ key
  places =
      record {
        rising = omega (arith, first, past, start_mono s key (key + 1) (omega arith));
        within = omega (arith, past, start_most s (key + 1), placed.occ_long);
      }

  pub owners_at :
      (here : List ℕ) → here ≡ take (get_or start (key + 1) 0 - get_or start key 0) (drop (get_or start key 0) occ) → Owners s occ here key
  owners_at here e =
      let from = get_or start key 0 in
      let n = get_or start (key + 1) 0 - from in
      let long : length here ≡ n = rw e (omega (arith, length-take n (drop from occ), length-drop from occ, places)) in
      record {
        ends = omega (arith, first, past, places);
        read = λ i r l f.
            rw (← first) (place-read occ from (get_or start (key + 1) 0) i r (omega arith) (f ∙ ap (λ (x : List ℕ). get_or x i 0) e));
      }

pub record Walk (R : ℕ → Type 0) (s q : List ℕ) (i t key j : ℕ) : Type 0 where
  pub x : ℕ
  pub state : R x
  pub inside : i < t
  pub low : x ≤ literals s
  pub is : get_or q i 0 ≡ key
  pub left : j + tally s key x ≡ start_of s (key + 1)

abbrev pub Skips : (ℕ → Type 0) → List ℕ → List ℕ → ℕ → Type 0
Skips R s q i = (x y : ℕ) → y ≤ x → ((p : ℕ) → y ≤ p → p < x → key_at s p ≡ get_or q i 0 → ⊥) → R x → R y

pub record Next (R : ℕ → Type 0) (s q : List ℕ) (i key j r : ℕ) : Type 0 where
  pub p : ℕ
  pub state : R (p + 1)
  pub inside : p < literals s
  pub here : key_at s p ≡ get_or q i 0
  pub rule : r ≡ get_or (owners s) p 0
  pub small : r < rules s
  pub left : j + 1 + tally s key p ≡ start_of s (key + 1)

pub walk_start :
    {R : ℕ → Type 0} {s q : List ℕ} {i t key j : ℕ} → R (literals s) → i < t → key ≡ get_or q i 0 → j ≡ start_of s key → Walk R s q i t key j
walk_start {R} {s} {q} {i} {t} {key} {j} a l e f =
    record { x = literals s; state = a; inside = l; low = omega arith; is = sym e; left = omega (arith, f, occ_first s key) }

module _ {R : ℕ → Type 0} {s q : List ℕ} {i t key j : ℕ} (now : Walk R s q i t key j) where
  pub walk_end : Skips R s q i → start_of s (key + 1) ≤ j → R 0
  walk_end skip l = skip now.x 0 (omega arith) (λ p a b e. occ_done s key now.x j now.left l p b (e ∙ now.is)) now.state

  pub walk-next :
      {start occ : List ℕ} → WellFormed s → Placed s start occ → Skips R s q i → j < start_of s (key + 1) → (r : ℕ) → r ≡ get_or occ j 0
      → Next R s q i key j r
  walk-next {start} {occ} good placed skip more r read =
      let at = found s start occ key now.x j good placed now.low now.left more in
      record {
        p = at.p;
        state = skip now.x (at.p + 1) (omega (arith, at.below)) (λ k a b e. at.past k a b (e ∙ now.is)) now.state;
        inside = at.inside;
        here = at.has ∙ sym now.is;
        rule = at.rule r read;
        small = at.small r read;
        left = at.left;
      }

  -- it is done: then the state is another, and the queue may have more keys
  pub walk-on :
      {R' : ℕ → Type 0} {q' : List ℕ} {t' r : ℕ} (next : Next R s q i key j r) → R' next.p → i < t' → get_or q' i 0 ≡ get_or q i 0
      → (k : ℕ) → k ≡ j + 1 → Walk R' s q' i t' key k
  walk-on next a l e k f =
      record { x = next.p; state = a; inside = l; low = omega (arith, next.inside); is = e ∙ now.is; left = omega (arith, next.left) }
