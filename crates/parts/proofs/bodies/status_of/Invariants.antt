-- : each turn meets one literal.
use Rattle.parts.proofs.Stating.{Stating}
use Rattle.parts.proofs.bodies.status_of.Given as goal

abbrev pub invariant-loop-k : goal.invariant-loop-k
invariant-loop-k l = Stating l.part.job.now l.part.table.now l.part.place.now l.from l.end l.state l.k
