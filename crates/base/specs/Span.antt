-- Lists made by an index.
--   span f a n   f a, f (a + 1), .., f (a + n - 1)
use Rattle.std.specs.Prelude.{ℕ, zero, suc, List, [], ◌∷◌}

unfoldable pub span : {A : Type 0} → (ℕ → A) → ℕ → ℕ → List A
span f a zero = []
span f a (suc n) = f a ∷ span f (suc a) n
