use native.Mathlib.Omega.{arith}
use Rattle.counters.proofs.Queues.{same_room-by}
use Rattle.counters.proofs.Sinking.{sunk-trans, sunk-top}
use Rattle.counters.proofs.doubt.sink.Goals as goal

pub loop-i-smaller : goal.loop-i-smaller
loop-i-smaller c = omega (arith, sunk-top _ _ _ _ _ _ _ _ _ _ _ _ _ c.loop-i.invariant.1)

pub loop-i-preserved : goal.loop-i-preserved
loop-i-preserved c = (omega (arith, c.fall.ensures.sunk.0), sunk-trans _ _ _ _ _ _ _ _ _ _ _ _ _ _ _ _ _ _ _ c.loop-i.invariant.1 c.fall.ensures.sunk.1, same_room-by c.loop-i.invariant.2 c.fall.ensures.same_room)
