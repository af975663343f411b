use Rattle.turn.proofs.Walk.{onward-yes, onward-no}
use Rattle.turn.proofs.failing.moved_on.Goals as goal

pub returns-then-failed : goal.returns-then-failed
returns-then-failed c = onward-yes _ _ _ _ c.failed.ensures c.if-failed.true c.past_rule.ensures

pub returns : goal.returns
returns c = onward-no _ _ _ _ c.failed.ensures c.if-failed.false c.advanced.ensures
