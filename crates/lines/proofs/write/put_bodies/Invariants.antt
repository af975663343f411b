-- Each turn writes one rule's literals.
use Rattle.writing.proofs.Writing.{Along}
use Rattle.lines.specs.Placing.{body_at}
use Rattle.lines.proofs.write.put_bodies.Given as goal

abbrev pub invariant-loop-p : goal.invariant-loop-p
invariant-loop-p l = Along (body_at l.notes) l.initial.out l.order l.out l.p-index
