use native.Mathlib.Omega.{arith}
use Rattle.counters.proofs.Queues.{same_room-by, queue-top}
use Rattle.counters.proofs.Raising.{raised-trans}
use Rattle.counters.proofs.derive.rise.Goals as goal

pub loop-i-smaller : goal.loop-i-smaller
loop-i-smaller c = omega (arith, queue-top c.loop-i.invariant.1.carried.some.1.fits.queue)

pub loop-i-preserved : goal.loop-i-preserved
loop-i-preserved c = (omega (arith, c.hold.ensures.raised.0), raised-trans _ _ _ _ _ _ _ _ _ _ _ _ _ _ _ _ _ _ c.loop-i.invariant.1 c.hold.ensures.raised.1, same_room-by c.loop-i.invariant.2 c.hold.ensures.same_room)
