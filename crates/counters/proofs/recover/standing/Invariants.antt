-- The loop's invariant: no rule of c from r on counts nothing (Standing: Busy).
use Rattle.counters.proofs.Standing.{Busy}
use Rattle.counters.proofs.recover.standing.Given as goal

abbrev pub invariant-loop-r : goal.invariant-loop-r
invariant-loop-r l = Busy l.job l.fail l.c l.r
