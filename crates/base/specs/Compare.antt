-- Tests of two numbers, as the check table words them. Each is shut: proofs go by its laws (proofs/Compare).
--   under x y       x is under y
--   over x y        x is over y
--   not_below x y   x is not below y
--   differs x y     x is not y
use Rattle.std.specs.Prelude.{ℕ, Bool, not, leb, ltb, eqb}

unfoldable pub under : ℕ → ℕ → Bool
under x y = ltb x y

unfoldable pub over : ℕ → ℕ → Bool
over x y = ltb y x

unfoldable pub not_below : ℕ → ℕ → Bool
not_below x y = leb y x

unfoldable pub differs : ℕ → ℕ → Bool
differs x y = not (eqb x y)
