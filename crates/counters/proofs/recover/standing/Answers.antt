use mathlib.Core.Path.{◌∙◌}
use mathlib.Core.Bool.{false≢true}
use Rattle.counters.proofs.Standing.{busy-start, busy-other}
use Rattle.counters.proofs.recover.standing.Goals as goal

pub loop-r-init : goal.loop-r-init
loop-r-init c = busy-start c.claim_count.ensures.accepted _ (rw c.from-end.ensures (c.requires.ends.ends _ c.requires.claim.0))

pub returns-then-head_at-c : goal.returns-then-head_at-c
returns-then-head_at-c c = (
  λ e. absurd (false≢true e),
  λ e. busy-other c.claim_count.ensures.accepted c.loop-r.invariant c.loop-r-test.true (λ h. c.if-head_at-c.true (c.head_at.ensures.value ∙ h)),
)
