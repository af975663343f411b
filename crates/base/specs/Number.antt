-- What a reading function ensures of the number that it gives.
--   Number r v bound   r is the value v, and below a bound
use Rattle.std.specs.Prelude.{ℕ, ◌<◌, ◌≡◌}

pub record Number (r v bound : ℕ) : Type 0 where
  pub value : r ≡ v
  pub small : r < bound
