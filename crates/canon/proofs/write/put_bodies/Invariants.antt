-- Each turn writes one rule.
use Rattle.canon.specs.Sizes.{HeldAll, kept_bytes}
use Rattle.writing.proofs.Writing.{Along}
use Rattle.canon.proofs.write.put_bodies.Given as goal

abbrev pub invariant-loop-i : goal.invariant-loop-i
invariant-loop-i l = HeldAll l.s l.starts l.sizes l.order × Along (kept_bytes l.s l.starts l.sizes) l.initial.out l.order l.out l.i-index
