-- : each turn looks at one number.
use mathlib.Core.Path.{◌≡◌}
use lib.ListN.{length}
use Rattle.makejob.specs.Pieces.{past_from, first_past}
use Rattle.makejob.proofs.digits.first_past.Given as goal

abbrev pub invariant-loop-rest : goal.invariant-loop-rest
invariant-loop-rest l = past_from (length l.rest) l.rest l.bound ≡ first_past l.line l.bound

abbrev pub decreases-loop-rest : goal.decreases-loop-rest
decreases-loop-rest l = length l.rest
