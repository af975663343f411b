use mathlib.Core.Path.{◌∙◌, ap}
use Rattle.job.proofs.Rows.{returned, onward, halt}
use Rattle.lines.specs.Answer.{check_of}
use Rattle.lines.specs.Room.{check_text}
use Rattle.lines.proofs.room.check_lines.Goals as goal

pub returns-in_err-check_fit-clause-check : goal.returns-in_err-check_fit-clause-check
unfolding check_text
returns-in_err-check_fit-clause-check c = let e = ap check_of (returned _ c.from_residual.ensures.1) in halt _ _ e (e ∙ c.in_err-check_fit.ensures)

pub returns-clause-check : goal.returns-clause-check
unfolding check_text
returns-clause-check c = onward _ _ c.in_ok-check_fit.ensures c.check_counts.ensures.check
