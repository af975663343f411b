-- The loop's invariant: the heads of the rules below `r` that count nothing have joined, and the queue is where it was.
use Rattle.counters.specs.Queues.{SameRoom}
use Rattle.counters.proofs.Beginning.{Facting}
use Rattle.counters.proofs.derive.begin.Given as goal

abbrev pub invariant-loop-r : goal.invariant-loop-r
invariant-loop-r l = (Facting l.job l.count l.initial.w l.initial.queue.keys.now l.w l.queue.keys.now l.queue.len l.r) × SameRoom l.initial.queue l.queue
