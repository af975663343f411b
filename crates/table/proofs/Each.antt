-- Laws of `each`, and of a row by itself. Assumes nothing.
use Prim.Native.Nat.{ℕ, zero, suc, ◌<◌}
use mathlib.Core.Path.{◌≡◌, refl}
use mathlib.Core.Bool.{Bool, true, false}
use native.Mathlib.Omega.{arith}
use Rattle.std.specs.Prelude.{Err}
use Rattle.std.specs.Result.{IsErrAnd}
use Rattle.job.specs.declared.Refusal.{Refusal}
use Rattle.job.specs.Rows.{row}
use Rattle.job.proofs.Rows.{both, join, onward, exit}
use Rattle.job.specs.Check.{Check}
use Rattle.job.specs.Check.{Accepted, Refused}
use Rattle.table.specs.Ranges.{each}

pub each_none : (f : ℕ → Check) (n : ℕ) → ((k : ℕ) → k < n → Accepted ≡ f k) → Accepted ≡ each f n
unfolding each
each_none f zero h = refl
each_none f (suc n) h = join _ _ (h 0 (omega arith)) (each_none (λ k. f (suc k)) n (λ k l. h (suc k) (omega arith)))

-- the first refusal, at i, that `?` hands on
pub each_exit : (f : ℕ → Check) (n i : ℕ) {r : Check} {e : Refusal} → i < n → ((k : ℕ) → k < i → Accepted ≡ f k) → IsErrAnd r (λ y. y ≡ e) → Err e ≡ f i → r ≡ each f n
unfolding each
each_exit f zero i l h e q = absurd (omega arith)
each_exit f (suc n) zero l h e q = exit _ _ e q
each_exit f (suc n) (suc i) l h e q =
    onward _ _ (h 0 (omega arith)) (each_exit (λ k. f (suc k)) n i (omega arith) (λ k m. h (suc k) (omega arith)) e q)

pub each_all : (f : ℕ → Check) (n : ℕ) → Accepted ≡ each f n → (k : ℕ) → k < n → Accepted ≡ f k
unfolding each
each_all f zero e k l = absurd (omega arith)
each_all f (suc n) e zero l = (both _ _ e).0
each_all f (suc n) e (suc k) l = each_all (λ i. f (suc i)) n (both _ _ e).1 k (omega arith)

pub row-yes : (b : Bool) (n p : ℕ) → b ≡ true → Refused n p ≡ row b n p
unfolding row
row-yes b n p e = rw e

pub row_pass : (b : Bool) (n p : ℕ) → b ≡ false → Accepted ≡ row b n p
unfolding row
row_pass b n p e = rw e
