-- : a test for each way.
use mathlib.Core.Path.{sym, ◌∙◌}
use Rattle.parts.proofs.Stating.{lowered_in, lowered-failed, lowered-undecided, lowered-other}
use Rattle.parts.proofs.bodies.lowered.Goals as goal

pub returns-then-inside : goal.returns-then-inside
returns-then-inside c = lowered_in _ _ _ _ (sym c.inside.ensures ∙ c.if-inside.true)

pub returns-then-failed : goal.returns-then-failed
returns-then-failed c = lowered-failed _ _ _ _ (sym c.inside.ensures ∙ c.if-inside.false) (sym c.failed.ensures ∙ c.if-failed.true)

pub returns-then-mark_at-eq-UNDEFINED_MARK : goal.returns-then-mark_at-eq-UNDEFINED_MARK
returns-then-mark_at-eq-UNDEFINED_MARK c = lowered-undecided _ _ _ _ (sym c.inside.ensures ∙ c.if-inside.false) (sym c.failed.ensures ∙ c.if-failed.false) c.claim_of.ensures c.mark_at.ensures.value c.if-mark_at-eq-UNDEFINED_MARK.true

pub returns : goal.returns
returns c = lowered-other _ _ _ _ (sym c.inside.ensures ∙ c.if-inside.false) (sym c.failed.ensures ∙ c.if-failed.false) c.claim_of.ensures c.mark_at.ensures.value c.if-mark_at-eq-UNDEFINED_MARK.false
