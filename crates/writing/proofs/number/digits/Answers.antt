use native.Mathlib.Omega.{arith}
use Rattle.writing.proofs.Decimal.{length-room, length_some, length-small, length-large}
use Rattle.writing.proofs.number.digits.Goals as goal

pub loop-rest-init : goal.loop-rest-init
loop-rest-init c = (omega arith, length-room _ (omega arith))

pub overflow_add-k : goal.overflow_add-k
overflow_add-k c = omega (arith, length_some c.loop-rest.rest)

pub loop-rest-preserved : goal.loop-rest-preserved
loop-rest-preserved c = (omega (arith, length-large c.loop-rest.rest (omega arith)), c.loop-rest.invariant.1)

pub returns : goal.returns
returns c = omega (arith, length-small c.loop-rest.rest (omega arith))
