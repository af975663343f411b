use mathlib.Core.Path.{refl, ◌∙◌}
use native.Mathlib.Omega.{arith}
use Rattle.base.proofs.Compare.{differs-no, differs-yes}
use Rattle.job.proofs.Rows.{pass, stop}
use Rattle.job.specs.Checks.{check_total}
use Rattle.job.proofs.checks.check_total.Goals as goal

pub returns-then-word-job : goal.returns-then-word-job
unfolding check_total
returns-then-word-job c = c.refused.ensures ∙ stop _ _ _ _ (differs-yes _ _ (omega arith))

pub returns : goal.returns
unfolding check_total
returns c = pass _ _ _ _ (differs-no _ _ (omega arith)) refl
