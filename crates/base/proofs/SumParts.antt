-- Sums of equal terms, of two functions, of nothing, and of a function that is 0 but at one number. Assumes nothing.
use mathlib.Core.Path.{◌≡◌, refl, ap₂}
use mathlib.Core.Bool.{cond}
use mathlib.Core.Logic.{by_cases}
use Prim.Native.Nat.{ℕ, zero, suc, ◌+◌, ◌≤◌, ◌<◌}
use native.Mathlib.Omega.{arith}
use native.Mathlib.Decide.{ℕ_discrete}
use borrow.Author.Tests.{eq-eqb, ne_eqb}
use lib.Dec.{eqb}
use Rattle.base.specs.Sum.{sum}

pub sum_same : (f g : ℕ → ℕ) (n : ℕ) → ((i : ℕ) → i < n → f i ≡ g i) → sum f n ≡ sum g n
sum_same f g zero h = refl
sum_same f g (suc n) h = ap₂ (λ (a b : ℕ). a + b) (sum_same f g n (λ i l. h i (omega arith))) (h n (omega arith))

pub sum_add : (f g : ℕ → ℕ) (n : ℕ) → sum (λ i. f i + g i) n ≡ sum f n + sum g n
sum_add f g zero = refl
sum_add f g (suc n) = omega (arith, sum_add f g n)

pub sum_none : (n : ℕ) → sum (λ i. 0) n ≡ 0
sum_none zero = refl
sum_none (suc n) = omega (arith, sum_none n)

module _ (h v : ℕ) where
  abbrev point : ℕ → ℕ
  point i = cond (eqb h i) v 0

  point_at : (i : ℕ) → h ≡ i → point i ≡ v
  point_at i e = rw (eq-eqb h i e)

  point_off : (i : ℕ) → (h ≡ i → ⊥) → point i ≡ 0
  point_off i n = rw (ne_eqb h i n)

  past : (n : ℕ) → n ≤ h → sum point n ≡ 0
  past zero l = refl
  past (suc n) l = omega (arith, past n (omega arith), point_off n (λ e. omega arith))

  pub sum_point : (n : ℕ) → h < n → sum (λ i. cond (eqb h i) v 0) n ≡ v
  sum_point zero l = absurd (omega arith)
  sum_point (suc n) l =
      by_cases (ℕ_discrete h n) (λ e. omega (arith, past n (omega arith), point_at n e))
      (λ d. omega (arith, sum_point n (omega arith), point_off n d))
