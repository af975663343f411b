-- Its three ways out.
use mathlib.Core.Path.{refl}
use native.Mathlib.Omega.{arith}
use Rattle.base.proofs.Compare.{under-yes, under-no}
use Rattle.job.proofs.Rows.{pass, stop, onward, exit}
use Rattle.canon.specs.Answers.{check_form}
use Rattle.canon.proofs.canonical.check_form.Goals as goal

pub returns-in_err-check_job : goal.returns-in_err-check_job
unfolding check_form
returns-in_err-check_job c = exit _ _ c.from_residual.ensures.1 c.in_err-check_job.ensures.value

pub returns-then-room-job : goal.returns-then-room-job
unfolding check_form
returns-then-room-job c = onward _ _ c.in_ok-check_job.ensures.value (stop _ _ _ _ (under-yes _ _ (omega arith)))

pub returns : goal.returns
unfolding check_form
returns c = onward _ _ c.in_ok-check_job.ensures.value (pass _ _ _ _ (under-no _ _ (omega arith)) refl)
