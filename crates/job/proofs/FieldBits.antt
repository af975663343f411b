-- Bit j of a number is x / 2 ^ j % 2. One bit is set by `or` with its power of two. Assumes nothing.
--   bit-set, bit_kept   the bit itself, and all others
use Prim.Native.Nat.{ℕ, suc, ◌+◌, ◌-◌, ◌/◌, ◌%◌, ◌^◌, ◌<◌}
use mathlib.Core.Path.{◌≡◌, sym, ◌∙◌, ap}
use mathlib.Core.Logic.{by_cases}
use native.Mathlib.Omega.{arith}
use native.Mathlib.Decide.{ℕ_discrete, dec_lt}
use native.Mathlib.Nat.{one-mul, mod-lt, div-eq_of_lt}
use lib.Bits.{bit_or, or_shr, or_mod, or_zero_r, shifted_even}
use lib.Pow.{pow-lt, pow-add, shl-shr}

power_same : (k : ℕ) → 2 ^ k / 2 ^ k ≡ 1
power_same k = ap (λ (x : ℕ). x / 2 ^ k) (sym (one-mul (2 ^ k))) ∙ shl-shr 1 k

power-other : (k j : ℕ) → (j ≡ k → ⊥) → 2 ^ k / 2 ^ j % 2 ≡ 0
power-other k j n =
    by_cases (dec_lt k j) (λ l. ap (λ (x : ℕ). x % 2) (div-eq_of_lt (pow-lt l)))
    (λ l.
    let d = k - j - 1 in
    let z : k ≡ suc (k - j - 1) + j = omega (arith, n) in
    ap (λ (x : ℕ). 2 ^ x / 2 ^ j % 2) z
    ∙ (ap (λ (x : ℕ). x / 2 ^ j % 2) (pow-add 2 (suc d) j)
    ∙ (ap (λ (x : ℕ). x % 2) (shl-shr (2 ^ suc d) j) ∙ (ap (λ (x : ℕ). x % 2) (sym (one-mul (2 ^ suc d))) ∙ shifted_even 1 d))))

bit-or : (x y j : ℕ) → bit_or x y / 2 ^ j % 2 ≡ bit_or (x / 2 ^ j % 2) (y / 2 ^ j % 2)
bit-or x y j = ap (λ (z : ℕ). z % 2) (or_shr x y j) ∙ or_mod (x / 2 ^ j) (y / 2 ^ j) 1

or_one : (b : ℕ) → b < 2 → bit_or b 1 ≡ 1
or_one b l =
    by_cases (ℕ_discrete b 0) (λ e. ap (λ (x : ℕ). bit_or x 1) e)
    (λ n. let z : b ≡ 1 = omega arith in ap (λ (x : ℕ). bit_or x 1) z)

pub bit-set : (x k : ℕ) → bit_or x (2 ^ k) / 2 ^ k % 2 ≡ 1
bit-set x k =
    bit-or x (2 ^ k) k ∙ (ap (λ (y : ℕ). bit_or (x / 2 ^ k % 2) (y % 2)) (power_same k) ∙ or_one (x / 2 ^ k % 2) (mod-lt (x / 2 ^ k) (omega arith)))

pub bit_kept : (x k j : ℕ) → (j ≡ k → ⊥) → bit_or x (2 ^ k) / 2 ^ j % 2 ≡ x / 2 ^ j % 2
bit_kept x k j n = bit-or x (2 ^ k) j ∙ (ap (bit_or (x / 2 ^ j % 2)) (power-other k j n) ∙ or_zero_r (x / 2 ^ j % 2))
