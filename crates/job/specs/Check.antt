-- What a check answers: accepted, or refused with a number of the check table and a place.
use Rattle.std.specs.Prelude.{ℕ, Result, Ok, Err}
use Rattle.job.specs.declared.Refusal.{Refusal}

-- the type `Check`, since antt has no name for an alias
abbrev pub Check : Type 0
Check = Result (Unit {0}) Refusal

pattern abbrev pub Accepted : Check
Accepted = Ok tt

abbrev pub Refused : ℕ → ℕ → Check
Refused number place = Err (record { number = number; place = place })
