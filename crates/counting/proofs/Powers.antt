-- Small powers, and digits by division. Assumes nothing.
--   power-low                b to the power of k is small, where b is at most 28 and k at most 3
--   some_power               a power is not 0
--   choice-by, sign-by       the digits that are a choice of set k, a sign of body x
use Prim.Native.Nat.{ℕ, zero, suc, ◌-◌, ◌*◌, ◌^◌, ◌/◌, ◌%◌, ◌<◌, ◌≤◌}
use mathlib.Core.Path.{◌≡◌, ◌∙◌, ap, ap₂}
use native.Mathlib.Nat.{pow-suc, pow-zero, mul-le-mul_right, one-le-pow, mod-lt}
use native.Mathlib.Omega.{arith}
use lib.ListN.{get_or}
use Rattle.base.specs.Number.{Number}
use Rattle.rulesets.specs.Sets.{absent, sign_number, no_rule, body_no, set_no, choice_number, choice_count, set_count}
use Rattle.rulesets.proofs.Listed.{set_choice, body_sign}

square-low : (b : ℕ) → b ≤ 28 → b * b ≤ 784
square-low b h = omega (arith, mul-le-mul_right b h)

cube-low : (b : ℕ) → b ≤ 28 → b * b * b ≤ 21952
cube-low b h = omega (arith, mul-le-mul_right b (square-low b h))

power_of_one : (b : ℕ) → b ^ 1 ≡ b
power_of_one b = pow-suc b 0 ∙ ap (λ (x : ℕ). x * b) (pow-zero b) ∙ omega arith

power_of-two : (b : ℕ) → b ^ 2 ≡ b * b
power_of-two b = pow-suc b 1 ∙ ap (λ (x : ℕ). x * b) (power_of_one b)

power_of-three : (b : ℕ) → b ^ 3 ≡ b * b * b
power_of-three b = pow-suc b 2 ∙ ap (λ (x : ℕ). x * b) (power_of-two b)

pub power-low : (b k : ℕ) → b ≤ 28 → k ≤ 3 → b ^ k < 21953
power-low b zero h l = omega (arith, pow-zero b)
power-low b (suc zero) h l = omega (arith, power_of_one b)
power-low b (suc (suc zero)) h l = omega (arith, power_of-two b, square-low b h)
power-low b (suc (suc (suc zero))) h l = omega (arith, power_of-three b, cube-low b h)
power-low b (suc (suc (suc (suc k)))) h l = absurd (omega arith)

pub some_power : {p : ℕ} (b k : ℕ) → 0 < b → p ≡ b ^ k → 0 < p
some_power b k h e = omega (arith, one-le-pow k b h, e)

-- at most 28 choices, as there are at most 27 bodies
pub base-low : (n : ℕ) → n ≤ 3 → {p : ℕ} → p ≡ 3 ^ n → p ≤ 27
base-low n h e = omega (arith, e, pow_low n h)
  where
    pow_low : (n : ℕ) → n ≤ 3 → 3 ^ n ≤ 27
    pow_low zero h = omega arith
    pow_low (suc zero) h = omega arith
    pow_low (suc (suc zero)) h = omega arith
    pow_low (suc (suc (suc zero))) h = omega arith
    pow_low (suc (suc (suc (suc n)))) h = absurd (omega arith)

module _ (n k c : ℕ) (h : c < n) where
  pub choice-by : k < set_count n → {b p : ℕ} → b ≡ choice_count n → p ≡ b ^ (n - 1 - c) → Number (k / p % b) (choice_number (get_or (set_no n k) c no_rule)) (choice_count n)
  choice-by low {b} {p} e q =
      record {
        value = ap₂ (λ (x y : ℕ). k / x % y) (q ∙ ap (λ (x : ℕ). x ^ (n - 1 - c)) e) e ∙ set_choice n k low c h;
        small = omega (arith, mod-lt (k / p) {m = b} (omega (arith, e)), e);
      }

  pub sign-by : k < 3 ^ n → {p : ℕ} → p ≡ 3 ^ (n - 1 - c) → Number (k / p % 3) (sign_number (get_or (body_no n k) c absent)) 3
  sign-by low {p} q = record { value = ap (λ (x : ℕ). k / x % 3) q ∙ body_sign n k low c h; small = mod-lt (k / p) {m = 3} (omega arith) }
