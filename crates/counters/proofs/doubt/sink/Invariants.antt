-- The loop's invariant: the keys before place i have failed (Sunk), and the list is where it was. The measure is the keys that are left.
use Prim.Native.Nat.{◌-◌, ◌≤◌}
use Rattle.job.specs.Format.{literals}
use Rattle.counters.specs.Positions.{keys, owners}
use Rattle.counters.specs.Queues.{SameRoom}
use Rattle.counters.specs.Doubts.{Sunk}
use Rattle.counters.proofs.doubt.sink.Given as goal

abbrev pub invariant-loop-i : goal.invariant-loop-i
invariant-loop-i l = (l.i ≤ l.list.len) × Sunk l.tables.job.now l.k (owners l.tables.job.now) l.initial.fail l.initial.u l.initial.list.keys.now l.initial.list.len l.fail l.u l.list.keys.now l.i (literals l.tables.job.now) l.list.len × SameRoom l.initial.list l.list

abbrev pub decreases-loop-i : goal.decreases-loop-i
decreases-loop-i l = keys l.tables.job.now - l.i
