use Rattle.parts.proofs.Seeking.{seeking-up, seeking_down}
use Rattle.parts.proofs.claim.first_rule.Goals as goal

pub loop-low-preserved-then-head_at-claim : goal.loop-low-preserved-then-head_at-claim
loop-low-preserved-then-head_at-claim c = seeking-up c.rule_count-high.ensures.accepted c.loop-low.invariant c.loop-low-test.true c.head_at.ensures.value c.if-head_at-claim.true

pub loop-low-preserved : goal.loop-low-preserved
loop-low-preserved c = seeking_down c.rule_count-high.ensures.accepted c.loop-low.invariant c.loop-low-test.true c.head_at.ensures.value c.if-head_at-claim.false
