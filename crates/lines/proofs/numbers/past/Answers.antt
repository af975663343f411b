use Rattle.base.specs.Compare.{over, not_below}
use native.Mathlib.Omega.{arith}
use Rattle.lines.proofs.numbers.past.Goals as goal

pub returns-then-limit-count : goal.returns-then-limit-count
unfolding over not_below
returns-then-limit-count c = grind arith

pub returns-else-limit-count : goal.returns-else-limit-count
unfolding over not_below
returns-else-limit-count c = grind arith
