-- : a part for each claim that has a rule.
use Prim.Native.Nat.{◌-◌}
use Rattle.base.specs.Lists.{upto}
use Rattle.writing.proofs.Writing.{Along}
use Rattle.counting.proofs.Written.{record_bytes}
use Rattle.counting.proofs.write.put_records.Given as goal

abbrev pub invariant-loop-c : goal.invariant-loop-c
invariant-loop-c l = Along (record_bytes l.size l.k) l.initial.out (upto l.size) l.out l.c

abbrev pub decreases-loop-c : goal.decreases-loop-c
decreases-loop-c l = l.size - l.c
