-- : each turn writes one rule.
use Rattle.parts.proofs.Walking.{Walking}
use Rattle.parts.proofs.claim.put_claim.Given as goal

abbrev pub invariant-loop-r : goal.invariant-loop-r
invariant-loop-r l = Walking l.part.job.now l.part.table.now l.part.place.now l.i l.claim l.section l.initial.out l.out l.from l.r
