-- Lists of doubted claims (specs/Doubts: Doubted). Assumes nothing.
--   doubted-place   where a doubted claim is
--   doubted_key     the key at a place is twice its half
--   doubted-small   the claim at a place is one of the claims
--   doubted-again   it is not on the list before
--   Read, doubted-read   the key at a place, as it is read of a part of the list
--   doubted_all, listed_all   the list of all claims
use Prim.Native.Nat.{ℕ, ◌+◌, ◌-◌, ◌*◌, ◌/◌, ◌<◌, ◌≤◌}
use mathlib.Core.Path.{◌≡◌, ◌∙◌, subst}
use mathlib.Core.Bool.{false}
use mathlib.Core.List.{List}
use mathlib.Core.Logic.{by_cases}
use native.Mathlib.Omega.{arith}
use native.Mathlib.Decide.{ℕ_discrete, dec_lt}
use lib.Dec.{T}
use lib.ListN.{length, get_or, set, take, drop}
use lib.Seq.{get_or-set_same, get_or-set_other}
use Rattle.base.proofs.Bools.{is-not}
use Rattle.counters.specs.Queues.{seen}
use Rattle.counters.specs.Doubts.{Doubted}
use Rattle.counters.proofs.Walking.{place-read}
use Rattle.counters.proofs.Queues.{seen_none, seen_at, seen-place, seen-not}

module _ {A : ℕ} {l : List ℕ} {from end : ℕ} (now : Doubted A l from end) where
  pub doubted-place : (c : ℕ) → T (seen l end (2 * c)) → (j : ℕ) × (from ≤ j) × (j < end) × (get_or l j 0 ≡ 2 * c)
  doubted-place c s =
      let p = seen-place l end (2 * c) s in
      by_cases (dec_lt p.0 from)
      (λ m. absurd (is-not (seen l from (2 * c)) (now.before c) (subst (λ (k : ℕ). T (seen l from k)) p.2 (seen_at l p.0 from m))))
      (λ m. (p.0, omega arith, p.1, p.2))

  module _ (i : ℕ) (a : from ≤ i) (b : i < end) where
    pub doubted_key : (c : ℕ) → c ≡ get_or l i 0 / 2 → get_or l i 0 ≡ 2 * c
    doubted_key c e = let x = now.evens i a b in omega (arith, x.1)

    pub doubted-small : (c : ℕ) → get_or l i 0 ≡ 2 * c → c < A
    doubted-small c e = omega (arith, now.queue.small i b)

    pub doubted-again : (c : ℕ) → get_or l i 0 ≡ 2 * c → seen l i (2 * c) ≡ false
    doubted-again c e = subst (λ (k : ℕ). seen l i k ≡ false) e (now.queue.fresh i b)

-- a key of the doubted claims, as a loop over their part of the list reads it
pub record Read (A : ℕ) (l : List ℕ) (i key : ℕ) : Type 0 where
  pub is : get_or l i 0 ≡ 2 * (key / 2)
  pub even : key ≡ 2 * (key / 2)
  pub small : key / 2 < A

pub doubted-read :
    {A : ℕ} {l : List ℕ} {from end : ℕ} → Doubted A l from end → (i key : ℕ) → i < end - from
    → key ≡ get_or (take (end - from) (drop from l)) i 0 → Read A l (from + i) key
doubted-read {A} {l} {from} {end} now i key m e =
    let k : key ≡ get_or l (from + i) 0 = place-read l from end i key m e in
    let is : get_or l (from + i) 0 ≡ 2 * (key / 2) = doubted_key now (from + i) (omega arith) (omega arith) (key / 2) (omega arith) in
    record { is = is; even = k ∙ is; small = doubted-small now (from + i) (omega arith) (omega arith) (key / 2) is }

-- the list of all claims
pub listed_more :
    (l : List ℕ) (i : ℕ) → i < length l → ((j : ℕ) → j < i → get_or l j 0 ≡ 2 * j) → (j : ℕ) → j < i + 1 → get_or (set l i (2 * i)) j 0 ≡ 2 * j
listed_more l i h f j m =
    by_cases (ℕ_discrete j i) (λ e. rw (e, get_or-set_same l i (2 * i) 0 h)) (λ n. get_or-set_other l i j (2 * i) 0 n ∙ f j (omega arith))

module _ (A : ℕ) (l : List ℕ) (f : (j : ℕ) → j < A → get_or l j 0 ≡ 2 * j) where
  pub doubted_all : 2 * A ≤ length l → Doubted A l 0 A
  doubted_all h =
      record {
        queue = record {
          long = h;
          fresh = λ j m. seen-not l j (get_or l j 0) (λ k n e. omega (arith, f j m, f k (omega arith)));
          small = λ j m. omega (arith, f j m);
        };
        ordered = omega arith;
        before = λ c. seen_none l (2 * c);
        evens = λ j a m. (j, f j m);
      }

  pub listed_all : (c : ℕ) → c < A → T (seen l A (2 * c))
  listed_all c m = subst (λ (k : ℕ). T (seen l A k)) (f c m) (seen_at l c A m)
