-- : each turn writes one claim's rules.
use Rattle.parts.proofs.Claiming.{Claiming}
use Rattle.parts.proofs.write.put_claims.Given as goal

abbrev pub invariant-loop-i : goal.invariant-loop-i
invariant-loop-i l = Claiming l.section l.part-2.job.now l.part-2.table.now l.part-2.place.now l.part-2.members.now l.initial.texts l.texts l.i
