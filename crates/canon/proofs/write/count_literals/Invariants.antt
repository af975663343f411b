-- Each turn adds one rule's size.
use Rattle.canon.proofs.Summing.{Summing}
use Rattle.canon.proofs.write.count_literals.Given as goal

abbrev pub invariant-loop-i : goal.invariant-loop-i
invariant-loop-i l = Summing l.sizes l.order l.n l.i-index
