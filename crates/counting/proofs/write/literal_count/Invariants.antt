-- : each claim adds the literals of its rule.
use Prim.Native.Nat.{◌-◌}
use Rattle.counting.proofs.Written.{Counting, bodies_before}
use Rattle.counting.proofs.write.literal_count.Given as goal

abbrev pub invariant-loop-c : goal.invariant-loop-c
invariant-loop-c l = Counting (bodies_before l.size l.k) 3 l.size l.c l.n

abbrev pub decreases-loop-c : goal.decreases-loop-c
decreases-loop-c l = l.size - l.c
