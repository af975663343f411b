-- The loop's invariant, `Looking` (proofs/Skipping): of the literals passed, those looked at, from the last one back, are of the next one's rule, and none is false.
use Rattle.turn.proofs.Skipping.{Looking}
use Rattle.turn.proofs.failing.rule_failed.Given as goal

abbrev pub invariant-loop-at : goal.invariant-loop-at
invariant-loop-at l = Looking l.job l.index l.table l.c l.passed l.start l.at
