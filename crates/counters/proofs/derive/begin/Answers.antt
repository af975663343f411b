use native.Mathlib.Omega.{arith}
use Rattle.counters.proofs.Queues.{same_room-none, same_room-by}
use Rattle.counters.proofs.Joining.{fits-room}
use Rattle.counters.proofs.Beginning.{facting-start, facting-more}
use Rattle.counters.proofs.derive.begin.Goals as goal

pub loop-r-init : goal.loop-r-init
loop-r-init c = (facting-start _ _ _ _ c.requires.sizes.0 c.requires.sizes.1, same_room-none _)

pub fact-requires-clause-room : goal.fact-requires-clause-room
fact-requires-clause-room c = fits-room c.loop-r.invariant.0.fits _ (c.rule_count-rules.ensures.accepted.head _ (omega (arith, c.rule_count-rules.ensures.value)))

pub loop-r-preserved : goal.loop-r-preserved
loop-r-preserved c = (facting-more _ _ _ _ _ _ _ _ c.loop-r.invariant.0 c.rule_count-rules.ensures.accepted (omega (arith, c.rule_count-rules.ensures.value)) _ _ _ c.fact.ensures.joined, same_room-by c.loop-r.invariant.1 c.fact.ensures.same_room)
