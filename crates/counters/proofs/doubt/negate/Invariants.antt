-- The loop's invariant: the negations of the keys before the index, and the list is where it was.
use Prim.Native.Nat.{◌≤◌}
use Rattle.counters.specs.Queues.{SameRoom}
use Rattle.counters.specs.Doubts.{Negations}
use Rattle.counters.proofs.doubt.negate.Given as goal

abbrev pub invariant-loop-key : goal.invariant-loop-key
invariant-loop-key l = (l.list.len ≤ l.key-index) × Negations l.queue.keys.now l.key-index l.list.keys.now l.list.len × SameRoom l.initial.list l.list
