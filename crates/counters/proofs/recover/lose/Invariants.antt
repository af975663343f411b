-- The loop's invariant: the negations of the doubted claims before the index that stayed outside u are on the queue (Losing), which is where it was.
use Prim.Native.Nat.{◌+◌}
use Rattle.counters.specs.Queues.{SameRoom}
use Rattle.counters.proofs.Losing.{Losing}
use Rattle.counters.proofs.recover.lose.Given as goal

abbrev pub invariant-loop-key : goal.invariant-loop-key
invariant-loop-key l = (Losing l.u l.list.keys.now (l.from + l.key-index) l.initial.queue.keys.now l.initial.queue.len l.queue.keys.now l.queue.len) × SameRoom l.initial.queue l.queue
