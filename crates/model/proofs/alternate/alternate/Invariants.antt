-- The loop's invariant: U is D of the K before, the queue has what K takes next, and the list is long enough; both are where they were. The measure is the number of claims in U.
use Prim.Native.Nat.{◌≤◌}
use lib.ListN.{length}
use Rattle.base.specs.Sets.{Claims, count, set_of}
use Rattle.job.specs.Format.{claims}
use Rattle.counters.specs.Positions.{keys}
use Rattle.counters.specs.Queues.{SameRoom}
use Rattle.model.specs.Rounds.{Poised}
use Rattle.model.proofs.alternate.alternate.Given as goal

abbrev pub invariant-loop-queue : goal.invariant-loop-queue
invariant-loop-queue l = ((a : Claims) × Poised l.tables.job.now a l.need l.fail l.k l.u l.queue.keys.now l.queue.len) × (keys l.tables.job.now ≤ length l.list.keys.now) × SameRoom l.initial.queue l.queue × SameRoom l.initial.list l.list

abbrev pub decreases-loop-queue : goal.decreases-loop-queue
decreases-loop-queue l = count (set_of l.u) (claims l.tables.job.now)
