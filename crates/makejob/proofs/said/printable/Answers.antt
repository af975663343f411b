use native.Mathlib.Omega.{arith}
use Rattle.base.specs.Choose.{pick}
use Rattle.base.specs.Compare.{under, over}
use Rattle.makejob.specs.Faults.{shown}
use Rattle.makejob.proofs.said.printable.Goals as goal

pub returns-in-32-to-126 : goal.returns-in-32-to-126
unfolding shown under over pick
returns-in-32-to-126 c = grind arith

pub returns-in_default : goal.returns-in_default
unfolding shown under over pick
returns-in_default c = grind arith

pub returns-in_default-2 : goal.returns-in_default-2
unfolding shown under over pick
returns-in_default-2 c = grind arith
