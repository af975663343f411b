use native.Mathlib.Omega.{arith}
use Rattle.base.specs.Compare.{under, not_below}
use Rattle.makejob.proofs.digits.is_past.Goals as goal

pub returns-then-not-is_empty : goal.returns-then-not-is_empty
unfolding under not_below
returns-then-not-is_empty c = grind arith

pub returns-else-not-is_empty : goal.returns-else-not-is_empty
unfolding under
returns-else-not-is_empty c = grind arith
