use mathlib.Core.Path.{◌∙◌, ap}
use Prim.Native.Nat.{ℕ}
use mathlib.Core.List.{List}
use Rattle.job.proofs.Rows.{onward, exit}
use Rattle.job.proofs.Accepted.{well_formed}
use Rattle.job.specs.Format.{job_of}
use Rattle.table.specs.Ranges.{check_room}
use Rattle.calls.specs.Calls.{start_check}
use Rattle.calls.proofs.check_start.Goals as goal

pub returns-in_err-check_job : goal.returns-in_err-check_job
unfolding start_check
returns-in_err-check_job c = exit _ _ c.from_residual.ensures.1 c.in_err-check_job.ensures.value

pub of_accepted-requires : goal.of_accepted-requires
of_accepted-requires c = well_formed _ c.in_ok-check_job.ensures.value

pub returns : goal.returns
unfolding start_check
returns c = onward _ _ c.in_ok-check_job.ensures.value (c.check_room.ensures ∙ ap (λ (s : List ℕ). check_room (job_of s) c.args.table.now) c.of_accepted.ensures)
