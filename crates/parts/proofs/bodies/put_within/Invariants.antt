-- : each turn writes one literal, or nothing.
use Rattle.parts.proofs.LiteralsPut.{Putting}
use Rattle.parts.proofs.bodies.put_within.Given as goal

abbrev pub invariant-loop-k : goal.invariant-loop-k
invariant-loop-k l = Putting l.part.job.now l.part.place.now l.from l.end l.initial.out l.out l.k
