-- : each claim adds its literal, if it stands in the body.
use Rattle.counting.proofs.Written.{Counting, signs_before}
use Rattle.counting.proofs.write.body_length.Given as goal

abbrev pub invariant-loop-c : goal.invariant-loop-c
invariant-loop-c l = Counting (signs_before l.size l.x) 1 l.size l.c l.n
