-- Relations between numbers as graphs (01, 'A turn of worker w': "reached"; 'Lists of calls': "lead ... any number of times").
--   Reach E x y    y is reached from x along E, in any number of steps, none included
--   steps p        how many steps the path p has
--   Plus E c b     the edges of E, and one more, from c to b
use Rattle.std.specs.Prelude.{ℕ, suc}

pub data Reach (E : ℕ → ℕ → Type 0) : ℕ → ℕ → Type 0 where
  here : {x : ℕ} → Reach E x x
  step : {x y z : ℕ} → E x y → Reach E y z → Reach E x z

abbrev pub steps : {E : ℕ → ℕ → Type 0} {x y : ℕ} → Reach E x y → ℕ
steps here = 0
steps (step e p) = suc (steps p)

pub data Plus (E : ℕ → ℕ → Type 0) (c b : ℕ) : ℕ → ℕ → Type 0 where
  old : {x y : ℕ} → E x y → Plus E c b x y
  new : Plus E c b c b
