-- The loop's invariant: the workers of the pairs so far are written.
use Rattle.recording.proofs.Naming.{Naming}
use Rattle.recording.proofs.named.put_schedule.Given as goal

abbrev pub invariant-loop-pair : goal.invariant-loop-pair
invariant-loop-pair l = Naming l.log l.initial.schedule l.pair-iterator.rest.now l.pair-iterator.size l.schedule
