use mathlib.Core.Path.{refl, ◌∙◌}
use native.Mathlib.Omega.{arith}
use Rattle.base.proofs.Compare.{differs-no, differs-yes}
use Rattle.job.proofs.Rows.{pass, stop}
use Rattle.job.specs.Checks.{check_offsets}
use Rattle.job.proofs.checks.check_offsets.Goals as goal

pub returns-then-word-ne-HEADER_BYTES : goal.returns-then-word-ne-HEADER_BYTES
unfolding check_offsets
returns-then-word-ne-HEADER_BYTES c = c.refused.ensures ∙ stop _ _ _ _ (differs-yes _ _ (omega arith))

pub returns-then-word-literals_at : goal.returns-then-word-literals_at
unfolding check_offsets
returns-then-word-literals_at c = c.refused-then-word-literals_at.ensures ∙ pass _ _ _ _ (differs-no _ _ (omega arith)) (stop _ _ _ _ (differs-yes _ _ (omega arith)))

pub returns-then-word-questions_at : goal.returns-then-word-questions_at
unfolding check_offsets
returns-then-word-questions_at c = c.refused-then-word-questions_at.ensures ∙ pass _ _ _ _ (differs-no _ _ (omega arith)) (pass _ _ _ _ (differs-no _ _ (omega arith)) (stop _ _ _ _ (differs-yes _ _ (omega arith))))

pub returns-then-word-total : goal.returns-then-word-total
unfolding check_offsets
returns-then-word-total c = c.refused-then-word-total.ensures ∙ pass _ _ _ _ (differs-no _ _ (omega arith)) (pass _ _ _ _ (differs-no _ _ (omega arith)) (pass _ _ _ _ (differs-no _ _ (omega arith)) (stop _ _ _ _ (differs-yes _ _ (omega arith)))))

pub returns : goal.returns
unfolding check_offsets
returns c = pass _ _ _ _ (differs-no _ _ (omega arith)) (pass _ _ _ _ (differs-no _ _ (omega arith)) (pass _ _ _ _ (differs-no _ _ (omega arith)) (pass _ _ _ _ (differs-no _ _ (omega arith)) refl)))
