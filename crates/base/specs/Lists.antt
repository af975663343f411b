-- Lists of numbers as a computed set (01's "all of them", "the newest of").
--   upto n       0, 1, .., n - 1
--   keep p xs    the elements of xs for which p holds, in order
--   every p xs   p holds of every element
--   is_in d xs   d stands in xs
--   Within xs n  every element is below n
use Rattle.std.specs.Prelude.{ℕ, ◌<◌, Bool, true, false, ◌&&◌, List, [], ◌∷◌, eqb, length, get_or}
use Rattle.base.specs.Choose.{pick}
use Rattle.base.specs.Span.{span}

abbrev pub upto : ℕ → List ℕ
upto n = span (λ k. k) 0 n

unfoldable pub keep : (ℕ → Bool) → List ℕ → List ℕ
unfolding pick
keep p [] = []
keep p (x ∷ xs) = pick (p x) (x ∷ keep p xs) (keep p xs)

unfoldable pub every : (ℕ → Bool) → List ℕ → Bool
every p [] = true
every p (x ∷ xs) = p x && every p xs

unfoldable pub is_in : ℕ → List ℕ → Bool
unfolding pick
is_in d [] = false
is_in d (x ∷ xs) = pick (eqb d x) true (is_in d xs)

pub record Within (xs : List ℕ) (n : ℕ) : Type 0 where
  pub below : (k : ℕ) → k < length xs → get_or xs k 0 < n
