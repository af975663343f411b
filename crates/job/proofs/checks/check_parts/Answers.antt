use Rattle.job.proofs.Accepted.{bodies-sum}
use Rattle.job.proofs.Rows.{onward, exit}
use Rattle.job.specs.Checks.{check_parts}
use Rattle.job.proofs.checks.check_parts.Goals as goal

pub returns-in_err-check_heads : goal.returns-in_err-check_heads
unfolding check_parts
returns-in_err-check_heads c = exit _ _ c.from_residual.ensures.1 c.in_err-check_heads.ensures

pub returns-in_err-check_bodies : goal.returns-in_err-check_bodies
unfolding check_parts
returns-in_err-check_bodies c = onward _ _ c.in_ok-check_heads.ensures (exit _ _ c.from_residual-in_err-check_bodies.ensures.1 c.in_err-check_bodies.ensures)

pub check_literals-requires-clause-job_value : goal.check_literals-requires-clause-job_value
check_literals-requires-clause-job_value c = bodies-sum _ c.in_ok-check_bodies.ensures

pub returns-in_err-check_literals : goal.returns-in_err-check_literals
unfolding check_parts
returns-in_err-check_literals c = onward _ _ c.in_ok-check_heads.ensures
    (onward _ _ c.in_ok-check_bodies.ensures (exit _ _ c.from_residual-in_err-check_literals.ensures.1 c.in_err-check_literals.ensures))

pub returns : goal.returns
unfolding check_parts
returns c = onward _ _ c.in_ok-check_heads.ensures
    (onward _ _ c.in_ok-check_bodies.ensures (onward _ _ c.in_ok-check_literals.ensures c.check_questions.ensures))
