-- Checks in order: what "In this order", "first" and "the scan ends at the first fault" mean (01, 'Checks by place').
--   x ⨾ y                      the first refusal of two checks
--   row b number place         one test of the table: refused where it holds
--   scan bad n number place    a test of the items 0 to n - 1 in turn: refused at the place of the first at which it holds
use Rattle.std.specs.Prelude.{ℕ, zero, suc, Bool, true, false, Err}
use Rattle.job.specs.Check.{Check}
use Rattle.job.specs.Check.{Accepted, Refused}

infixr 20 ◌⨾◌
unfoldable pub ◌⨾◌ : Check → Check → Check
Accepted ⨾ later = later
Err refusal ⨾ later = Err refusal

unfoldable pub row : Bool → ℕ → ℕ → Check
row true number place = Refused number place
row false number place = Accepted

unfoldable pub scan : (ℕ → Bool) → ℕ → ℕ → (ℕ → ℕ) → Check
scan bad zero number place = Accepted
scan bad (suc n) number place = row (bad 0) number (place 0) ⨾ scan (λ k. bad (suc k)) n number (λ k. place (suc k))
