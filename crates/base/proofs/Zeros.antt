-- A list of zeros, as a new array is, and a front part of it. Assumes nothing.
--   zeros-long, zeros_at      how long it is; each number of it, and past it
--   front_long, front_zeros   the same of its first n
use Prim.Native.Nat.{ℕ, ◌≤◌}
use mathlib.Core.Path.{◌≡◌, ◌∙◌, ap}
use mathlib.Core.List.{List}
use mathlib.Core.Logic.{by_cases}
use native.Mathlib.Omega.{arith}
use native.Mathlib.Decide.{dec_lt}
use lib.ListN.{length, get_or, take, replicate, length-replicate, get_or-replicate, get_or-eq_default}
use lib.Seq.{length-take-le, get_or-take}

module _ {xs : List ℕ} (m : ℕ) (e : xs ≡ replicate m 0) where
  pub zeros-long : length xs ≡ m
  zeros-long = ap length e ∙ length-replicate m 0

  pub zeros_at : (c : ℕ) → get_or xs c 0 ≡ 0
  zeros_at c =
      by_cases (dec_lt c m) (λ l. ap (λ (x : List ℕ). get_or x c 0) e ∙ get_or-replicate m c 0 0 l)
      (λ l. get_or-eq_default xs 0 (omega (arith, zeros-long)))

  module _ {n : ℕ} (l : n ≤ m) where
    pub front_long : length (take n xs) ≡ n
    front_long = length-take-le n xs (omega (arith, zeros-long))

    pub front_zeros : (c : ℕ) → get_or (take n xs) c 0 ≡ 0
    front_zeros c = by_cases (dec_lt c n) (λ h. get_or-take n xs c 0 h ∙ zeros_at c) (λ h. get_or-eq_default (take n xs) 0 (omega (arith, front_long)))
