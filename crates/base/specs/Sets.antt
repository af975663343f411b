-- Sets of numbers (claims, workers), as tests.
--   S ⊆ W         inclusion
--   nothing       the empty set
--   count W n     how many numbers below n are in W
--   iterate f n   f applied n times, from the empty set on
--   set_of w      the numbers whose byte in w is not 0
use Rattle.std.specs.Prelude.{ℕ, zero, suc, ◌+◌, Bool, true, false, not, List, T, eqb, get_or}

abbrev pub Claims : Type 0
Claims = ℕ → Bool

infix 4 ◌⊆◌
abbrev pub ◌⊆◌ : Claims → Claims → Type 0
S ⊆ W = (c : ℕ) → T (S c) → T (W c)

abbrev pub nothing : Claims
nothing c = false

unfoldable pub one : Bool → ℕ
one true = 1
one false = 0

unfoldable pub count : Claims → ℕ → ℕ
count W zero = 0
count W (suc n) = count W n + one (W n)

unfoldable pub iterate : (Claims → Claims) → ℕ → Claims
iterate f zero = nothing
iterate f (suc n) = f (iterate f n)

unfoldable pub set_of : List ℕ → Claims
set_of w c = not (eqb (get_or w c 0) 0)
