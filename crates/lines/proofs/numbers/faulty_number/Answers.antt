use Rattle.base.specs.Compare.{over, not_below}
use Rattle.lines.proofs.numbers.faulty_number.Goals as goal

pub returns-in-ClaimCount : goal.returns-in-ClaimCount
unfolding over
returns-in-ClaimCount c = rw c.in-ClaimCount.is

pub returns-in-Asker : goal.returns-in-Asker
unfolding not_below
returns-in-Asker c = rw c.in-Asker.is
