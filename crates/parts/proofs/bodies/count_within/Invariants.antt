-- : each turn counts one literal.
use Rattle.parts.proofs.Counting.{Counting}
use Rattle.parts.proofs.bodies.count_within.Given as goal

abbrev pub invariant-loop-k : goal.invariant-loop-k
invariant-loop-k l = Counting l.part.job.now l.part.place.now l.from l.end l.n l.k
