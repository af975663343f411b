-- Sums over the numbers below a bound.
--   sum f n   f 0 + .. + f (n - 1)
use Rattle.std.specs.Prelude.{ℕ, zero, suc, ◌+◌}

abbrev pub sum : (ℕ → ℕ) → ℕ → ℕ
sum f zero = 0
sum f (suc n) = sum f n + f n
