-- The loop's invariant: of the doubted claims before the index those that a rule holds up are in u (Recovering), and the queue is where it was.
use Prim.Native.Nat.{◌+◌}
use Rattle.counters.specs.Queues.{SameRoom}
use Rattle.counters.proofs.Recovering.{Recovering}
use Rattle.counters.proofs.recover.recover.Given as goal

abbrev pub invariant-loop-key : goal.invariant-loop-key
invariant-loop-key l = (Recovering l.job l.fail l.list.keys.now l.from (l.from + l.key-index) l.initial.u l.initial.queue.keys.now l.u l.queue.keys.now l.queue.len) × SameRoom l.initial.queue l.queue
