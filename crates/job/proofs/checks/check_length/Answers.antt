use mathlib.Core.Path.{refl, ◌∙◌}
use native.Mathlib.Omega.{arith}
use Rattle.base.proofs.Compare.{over_no, over_yes, under-no, under-yes}
use Rattle.job.proofs.Rows.{pass, stop}
use Rattle.job.specs.Checks.{check_length}
use Rattle.job.proofs.checks.check_length.Goals as goal

pub returns-then-n-lt-HEADER_BYTES : goal.returns-then-n-lt-HEADER_BYTES
unfolding check_length
returns-then-n-lt-HEADER_BYTES c = c.refused.ensures ∙ stop _ _ _ _ (under-yes _ _ (omega arith))

pub returns-then-n-gt-MOST_BYTES : goal.returns-then-n-gt-MOST_BYTES
unfolding check_length
returns-then-n-gt-MOST_BYTES c = c.refused-then-n-gt-MOST_BYTES.ensures ∙ pass _ _ _ _ (under-no _ _ (omega arith)) (stop _ _ _ _ (over_yes _ _ (omega arith)))

pub returns : goal.returns
unfolding check_length
returns c = pass _ _ _ _ (under-no _ _ (omega arith)) (pass _ _ _ _ (over_no _ _ (omega arith)) refl)
