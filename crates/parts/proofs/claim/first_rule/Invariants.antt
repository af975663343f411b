-- The measure is how many rules are left.
use Prim.Native.Nat.{◌-◌}
use Rattle.parts.proofs.Seeking.{Seeking}
use Rattle.parts.proofs.claim.first_rule.Given as goal

abbrev pub invariant-loop-low : goal.invariant-loop-low
invariant-loop-low l = Seeking l.job l.claim l.low l.high

abbrev pub decreases-loop-low : goal.decreases-loop-low
decreases-loop-low l = l.high - l.low
