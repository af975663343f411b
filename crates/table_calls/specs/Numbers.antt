-- The answers of the table's calls as numbers. A refusal is `in_halves` (codes/specs/Numbers): 2^63 + place for number 1, else number · 2^32 + place.
--   of_check c       0 where accepted
--   of_turn a        the kind's number
--   of_reading r     0 fresh, 1 true, 2 false, 3 undefined, 4 open
--   of_read a        what is read
--   copied ns l      the eight counts at the front of a tally that has room for them
use Rattle.std.specs.Prelude.{ℕ, cond, List, ◌++◌, ltb, length, get_or, drop, Result, Ok, Err}
use Rattle.base.specs.Span.{span}
use Rattle.job.specs.Check.{Check, Accepted}
use Rattle.job.specs.declared.Refusal.{Refusal}
use Rattle.table.specs.declared.Reading.{Reading}
use Rattle.table.specs.declared.Reading.TheVariants.{Fresh, Open, True, False, Undefined}
use Rattle.turn.specs.Turn.{kind_number}
use Rattle.turn.specs.declared.Kind.{Kind}
use Rattle.codes.specs.Numbers.{in_halves}

abbrev pub of_check : Check → ℕ
of_check Accepted = 0
of_check (Err refusal) = in_halves refusal

abbrev pub of_turn : Result Kind Refusal → ℕ
of_turn (Ok kind) = kind_number kind
of_turn (Err refusal) = in_halves refusal

abbrev pub of_reading : Reading → ℕ
of_reading Fresh = 0
of_reading True = 1
of_reading False = 2
of_reading Undefined = 3
of_reading Open = 4

abbrev pub of_read : Result Reading Refusal → ℕ
of_read (Ok reading) = of_reading reading
of_read (Err refusal) = in_halves refusal

unfoldable pub copied : List ℕ → List ℕ → List ℕ
copied counts tally = cond (ltb (length tally) 8) tally (span (λ i. get_or counts i 0) 0 8 ++ drop 8 tally)
