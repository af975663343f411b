use Prim.Native.Nat.{ℕ}
use mathlib.Core.List.{List}
use mathlib.Core.Path.{◌∙◌, ap}
use Rattle.job.proofs.Accepted.{well_formed}
use Rattle.job.proofs.Rows.{onward, exit}
use Rattle.calls.specs.Calls.{check_schedule}
use Rattle.listing.proofs.input.check_parts.Goals as goal

pub returns-in_err-check_job : goal.returns-in_err-check_job
returns-in_err-check_job c = exit _ _ c.from_residual.ensures.1 c.in_err-check_job.ensures.value

pub of_accepted-requires : goal.of_accepted-requires
of_accepted-requires c = well_formed _ c.in_ok-check_job.ensures.value

pub returns : goal.returns
returns c = onward _ _ c.in_ok-check_job.ensures.value (c.check_schedule.ensures ∙ ap (λ (s : List ℕ). check_schedule s c.args.schedule.now) c.of_accepted.ensures)
