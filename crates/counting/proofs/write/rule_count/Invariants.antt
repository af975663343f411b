-- : each claim adds its rule, if its choice is one.
use Rattle.counting.proofs.Written.{Counting, rules_before}
use Rattle.counting.proofs.write.rule_count.Given as goal

abbrev pub invariant-loop-c : goal.invariant-loop-c
invariant-loop-c l = Counting (rules_before l.size l.k) 1 l.size l.c l.n
