use native.Mathlib.Omega.{arith}
use Rattle.base.specs.Choose.{pick}
use Rattle.base.specs.Compare.{under}
use Rattle.makejob.specs.Faults.{sort_at_end}
use Rattle.makejob.proofs.sort.sort_at_end.Goals as goal

pub returns-in-true-default-true : goal.returns-in-true-default-true
unfolding sort_at_end under pick
returns-in-true-default-true c = grind arith

pub returns-in-true-default-false : goal.returns-in-true-default-false
unfolding sort_at_end under pick
returns-in-true-default-false c = grind arith

pub returns-in-false-true-default : goal.returns-in-false-true-default
unfolding sort_at_end under pick
returns-in-false-true-default c = grind arith

pub returns-in-false-false-default : goal.returns-in-false-false-default
unfolding sort_at_end under pick
returns-in-false-false-default c = grind arith
