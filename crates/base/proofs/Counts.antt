-- Counts of two sets that agree, everywhere or but for one number. Assumes nothing.
use Prim.Native.Nat.{ℕ, zero, suc, ◌+◌, ◌<◌}
use mathlib.Core.Path.{◌≡◌, refl, ap, ap₂}
use mathlib.Core.Bool.{true, false}
use mathlib.Core.Logic.{by_cases}
use native.Mathlib.Omega.{arith}
use native.Mathlib.Decide.{ℕ_discrete}
use Rattle.base.specs.Sets.{Claims, one, count}

pub count_same : (S W : Claims) (n : ℕ) → ((c : ℕ) → c < n → W c ≡ S c) → count W n ≡ count S n
unfolding count
count_same S W zero f = refl
count_same S W (suc n) f = ap₂ (λ (a b : ℕ). a + b) (count_same S W n (λ c l. f c (omega arith))) (ap one (f n (omega arith)))

pub count_more : (S W : Claims) (b n : ℕ) → b < n → ((c : ℕ) → c < n → (c ≡ b → ⊥) → W c ≡ S c) → S b ≡ false → W b ≡ true → count W n ≡ suc (count S n)
unfolding count one
count_more S W b zero l f x y = absurd (omega arith)
count_more S W b (suc n) l f x y =
    by_cases (ℕ_discrete n b)
    (λ e.
    let p : one (W n) ≡ 1 = rw (e, y) refl in
    let q : one (S n) ≡ 0 = rw (e, x) refl in
    omega (arith, count_same S W n (λ c m. f c (omega arith) (λ d. omega arith))))
    (λ d.
    let p : one (W n) ≡ one (S n) = ap one (f n (omega arith) d) in
    omega (arith, count_more S W b n (omega arith) (λ c m. f c (omega arith)) x y))
