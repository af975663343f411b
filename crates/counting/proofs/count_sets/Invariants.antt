-- The sets one by one.
use Rattle.counting.proofs.Meeting.{Going}
use Rattle.counting.proofs.count_sets.Given as goal

abbrev pub invariant-loop-k : goal.invariant-loop-k
invariant-loop-k l = Going l.size l.k l.counts
