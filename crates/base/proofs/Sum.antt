-- Sums compared term by term, and the sum of a linear term. Assumes nothing.
use mathlib.Core.Path.{◌≡◌}
use Prim.Native.Nat.{ℕ, zero, suc, ◌+◌, ◌*◌, ◌≤◌, ◌<◌}
use native.Mathlib.Omega.{arith}
use native.Mathlib.Nat.{mul-zero, mul-add}
use native.Mathlib.Decide.{ℕ_discrete}
use Rattle.base.specs.Sum.{sum}

pub sum-least : (f : ℕ → ℕ) (n : ℕ) → ((i : ℕ) → i < n → 1 ≤ f i) → n ≤ sum f n
sum-least f zero h = omega arith
sum-least f (suc n) h = omega (arith, sum-least f n (λ i l. h i (omega arith)), h n (omega arith))

pub sum-line : (k : ℕ) (f : ℕ → ℕ) (n : ℕ) → sum (λ i. k * f i + 1) n ≡ k * sum f n + n
sum-line k f zero = omega (arith, mul-zero k)
sum-line k f (suc n) = omega (arith, mul-add k (sum f n) (f n), sum-line k f n)

module _ (f g : ℕ → ℕ) where
  pub sum_le : (n : ℕ) → ((i : ℕ) → i < n → f i ≤ g i) → sum f n ≤ sum g n
  sum_le zero h = omega arith
  sum_le (suc n) h = omega (arith, sum_le n (λ i l. h i (omega arith)), h n (omega arith))

  module _ (b : ℕ) (h : (i : ℕ) → (i ≡ b → ⊥) → f i ≤ g i) where
    -- every term but one rises or stays, and that one falls by k at most
    pub sum_fall : (k n : ℕ) → f b ≤ g b + k → sum f n ≤ sum g n + k
    sum_fall k zero l = omega arith
    sum_fall k (suc n) l = go (sum_fall k n l) (ℕ_discrete n b)
      where
        go : sum f n ≤ sum g n + k → Dec (n ≡ b) → sum f (suc n) ≤ sum g (suc n) + k
        go r (yes e) =
            let p : sum f n ≤ sum g n = sum_le n (λ i m. h i (λ d. omega arith)) in
            let q : f n ≤ g n + k = rw e l in
            omega arith
        go r (no d) = omega (arith, h n d)

    -- every term but one rises or stays, and that one rises by k
    pub sum-rise : (k n : ℕ) → b < n → f b + k ≤ g b → sum f n + k ≤ sum g n
    sum-rise k zero m l = absurd (omega arith)
    sum-rise k (suc n) m l = go (λ m. sum-rise k n m l) (ℕ_discrete n b)
      where
        go : (b < n → sum f n + k ≤ sum g n) → Dec (n ≡ b) → sum f (suc n) + k ≤ sum g (suc n)
        go r (yes e) =
            let p : sum f n ≤ sum g n = sum_le n (λ i m. h i (λ d. omega arith)) in
            let q : f n + k ≤ g n = rw e l in
            omega arith
        go r (no d) = omega (arith, h n d, r (omega arith))
