-- What the call answers: the five numbers of a size, or a refusal with a number of the check table and a place.
use Rattle.std.specs.Prelude.{ℕ, Result, Ok, Err}
use Rattle.job.specs.declared.Refusal.{Refusal}
use Rattle.rulesets.specs.declared.Counts.{Counts}

-- the type `CensusAnswer`, since antt has no name for an alias
abbrev pub CensusAnswer : Type 0
CensusAnswer = Result Counts Refusal

abbrev pub Counted : Counts → CensusAnswer
Counted c = Ok c

abbrev pub Refused : ℕ → ℕ → CensusAnswer
Refused number place = Err (record { number = number; place = place })
