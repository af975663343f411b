use Rattle.base.specs.Compare.{under, over}
use native.Mathlib.Omega.{arith}
use Rattle.lines.proofs.numbers.no_workers.Goals as goal

pub returns-then-number-lt1 : goal.returns-then-number-lt1
unfolding under over
returns-then-number-lt1 c = grind arith

pub returns-else-number-lt1 : goal.returns-else-number-lt1
unfolding under over
returns-else-number-lt1 c = grind arith
