-- : a literal for each claim that stands in the body.
use Prim.Native.Nat.{◌-◌}
use Rattle.base.specs.Lists.{upto}
use Rattle.writing.proofs.Writing.{Along}
use Rattle.counting.proofs.Written.{sign_bytes}
use Rattle.counting.proofs.write.put_body.Given as goal

abbrev pub invariant-loop-c : goal.invariant-loop-c
invariant-loop-c l = Along (sign_bytes l.size l.x) l.initial.out (upto l.size) l.out l.c

abbrev pub decreases-loop-c : goal.decreases-loop-c
decreases-loop-c l = l.size - l.c
