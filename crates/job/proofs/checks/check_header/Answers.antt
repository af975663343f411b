use Rattle.job.proofs.Accepted.{length-least}
use Rattle.job.proofs.Rows.{onward, exit}
use Rattle.job.specs.Checks.{check_header}
use Rattle.job.proofs.checks.check_header.Goals as goal

pub returns-in_err-check_length : goal.returns-in_err-check_length
unfolding check_header
returns-in_err-check_length c = exit _ _ c.from_residual.ensures.1 c.in_err-check_length.ensures

pub check_total-requires : goal.check_total-requires
check_total-requires c = length-least _ c.in_ok-check_length.ensures

pub returns-in_err-check_total : goal.returns-in_err-check_total
unfolding check_header
returns-in_err-check_total c = onward _ _ c.in_ok-check_length.ensures (exit _ _ c.from_residual-in_err-check_total.ensures.1 c.in_err-check_total.ensures)

pub check_counts-requires : goal.check_counts-requires
check_counts-requires c = length-least _ c.in_ok-check_length.ensures

pub returns-in_err-check_counts : goal.returns-in_err-check_counts
unfolding check_header
returns-in_err-check_counts c = onward _ _ c.in_ok-check_length.ensures
    (onward _ _ c.in_ok-check_total.ensures (exit _ _ c.from_residual-in_err-check_counts.ensures.1 c.in_err-check_counts.ensures))

pub check_offsets-requires : goal.check_offsets-requires
check_offsets-requires c = length-least _ c.in_ok-check_length.ensures

pub returns : goal.returns
unfolding check_header
returns c = onward _ _ c.in_ok-check_length.ensures
    (onward _ _ c.in_ok-check_total.ensures (onward _ _ c.in_ok-check_counts.ensures c.check_offsets.ensures))
