-- The loop's invariant: of the key's places those before the index are taken, and the queue is where it was.
use Prim.Native.Nat.{◌+◌}
use Rattle.counters.specs.Positions.{start_of}
use Rattle.counters.specs.Queues.{SameRoom}
use Rattle.counters.proofs.Raising.{Taking}
use Rattle.counters.proofs.derive.hold.Given as goal

abbrev pub invariant-loop-rule : goal.invariant-loop-rule
invariant-loop-rule l = (Taking l.tables.job.now l.initial.count l.initial.w l.initial.queue.keys.now l.i l.initial.queue.len l.count l.w l.queue.keys.now l.queue.len l.key (start_of l.tables.job.now l.key + l.rule-index)) × SameRoom l.initial.queue l.queue
