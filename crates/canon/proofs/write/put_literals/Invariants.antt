-- Each turn writes one literal.
use Rattle.job.specs.Encoding.{half_bytes}
use Rattle.writing.proofs.Writing.{Along}
use Rattle.canon.proofs.write.put_literals.Given as goal

abbrev pub invariant-loop-x : goal.invariant-loop-x
invariant-loop-x l = Along (λ x. half_bytes x) l.initial.out l.s l.out l.x-index
