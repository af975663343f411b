use native.Mathlib.Omega.{arith}
use Rattle.canon.proofs.Summing.{summing-room, summing_more, summing_end}
use Rattle.canon.proofs.write.count_literals.Goals as goal

pub overflow_add-n : goal.overflow_add-n
overflow_add-n c = omega (arith, summing-room c.loop-i.invariant _ _ c.from.ensures c.from-n.ensures (omega arith))

pub loop-i-preserved : goal.loop-i-preserved
loop-i-preserved c = summing_more c.loop-i.invariant _ _ c.from.ensures c.from-n.ensures (omega arith)

pub returns : goal.returns
returns c = summing_end c.loop-i.invariant (omega arith)
