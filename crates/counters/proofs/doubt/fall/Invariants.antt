-- The loop's invariant: of the key's places those before the index have failed, and the list is where it was.
use Prim.Native.Nat.{◌+◌}
use Rattle.counters.specs.Positions.{start_of}
use Rattle.counters.specs.Queues.{SameRoom}
use Rattle.counters.proofs.Sinking.{Failing}
use Rattle.counters.proofs.doubt.fall.Given as goal

abbrev pub invariant-loop-rule : goal.invariant-loop-rule
invariant-loop-rule l = (Failing l.tables.job.now l.k l.initial.fail l.initial.u l.initial.list.keys.now l.i l.initial.list.len l.fail l.u l.list.keys.now l.list.len l.key (start_of l.tables.job.now l.key + l.rule-index)) × SameRoom l.initial.list l.list
