use mathlib.Core.Path.{refl}
use Rattle.base.proofs.Compare.{under-yes, under-no}
use Rattle.job.proofs.Rows.{pass, stop, onward, exit}
use Rattle.records.specs.Answers.{check_buffer}
use Rattle.recording.proofs.check_record.Goals as goal

pub returns-in_err-check_schedule : goal.returns-in_err-check_schedule
returns-in_err-check_schedule c = exit _ _ c.from_residual.ensures.1 c.in_err-check_schedule.ensures

pub returns-then-buffer-needed : goal.returns-then-buffer-needed
unfolding check_buffer
returns-then-buffer-needed c = onward _ _ c.in_ok-check_schedule.ensures (stop _ _ _ _ (under-yes _ _ c.if-buffer-needed.true))

pub returns : goal.returns
unfolding check_buffer
returns c = onward _ _ c.in_ok-check_schedule.ensures (pass _ _ _ _ (under-no _ _ c.if-buffer-needed.false) refl)
