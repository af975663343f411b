use Rattle.base.specs.Choose.{pick}
use Rattle.makejob.proofs.shape.start_of.Goals as goal

pub returns-then-first : goal.returns-then-first
unfolding pick
returns-then-first c = rw c.if-first.true

pub returns-else-first : goal.returns-else-first
unfolding pick
returns-else-first c = rw c.if-first.false
