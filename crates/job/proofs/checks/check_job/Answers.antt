use Rattle.job.proofs.Accepted.{header-sized}
use Rattle.job.proofs.Encoding.{reading}
use Rattle.job.proofs.Rows.{onward, exit}
use Rattle.job.specs.Checks.{check_job}
use Rattle.job.proofs.checks.check_job.Goals as goal

pub returns-in_err-check_header : goal.returns-in_err-check_header
unfolding check_job
returns-in_err-check_header c = record { value = exit _ _ c.from_residual.ensures.1 c.in_err-check_header.ensures; reading = reading }

pub check_parts-requires : goal.check_parts-requires
check_parts-requires c = header-sized _ c.in_ok-check_header.ensures

pub returns : goal.returns
unfolding check_job
returns c = record { value = onward _ _ c.in_ok-check_header.ensures c.check_parts.ensures; reading = reading }
