-- The loop's invariant: the keys before place `i` are taken, and the queue is where it was. The measure is how many keys can be left.
use Prim.Native.Nat.{◌-◌, ◌≤◌}
use Rattle.job.specs.Format.{literals}
use Rattle.counters.specs.Positions.{keys, owners}
use Rattle.counters.specs.Queues.{SameRoom}
use Rattle.counters.specs.Counters.{Raised}
use Rattle.counters.proofs.derive.rise.Given as goal

abbrev pub invariant-loop-i : goal.invariant-loop-i
invariant-loop-i l = (l.i ≤ l.queue.len) × Raised l.tables.job.now (owners l.tables.job.now) l.initial.count l.initial.w l.initial.queue.keys.now 0 l.initial.queue.len l.count l.w l.queue.keys.now l.i (literals l.tables.job.now) l.queue.len × SameRoom l.initial.queue l.queue

abbrev pub decreases-loop-i : goal.decreases-loop-i
decreases-loop-i l = keys l.tables.job.now - l.i
