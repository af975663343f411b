use mathlib.Core.Path.{subst}
use Prim.Native.Nat.{ℕ}
use mathlib.Core.List.{List}
use Rattle.job.proofs.Accepted.{well_formed}
use Rattle.job.specs.Format.{job_of}
use Rattle.job.specs.Rows.{◌⨾◌}
use Rattle.table.specs.Ranges.{check_table}
use Rattle.calls.specs.Calls.{run_check, Ran, check_schedule}
use Rattle.calls.proofs.Answering.{ran-stop_then, ran_then}
use Rattle.calls.proofs.Worked.{worked-answer}
use Rattle.calls.proofs.run.Goals as goal

pub returns-in_err-check_job : goal.returns-in_err-check_job
unfolding run_check
returns-in_err-check_job c = let all = worked-answer _ _ _ (ran-stop_then _ _ _ _ _ c.in_err-check_job.ensures.value c.from_residual.ensures.1) in record { value = all.0; table_after = all.1; worked = all.2 }

pub of_accepted-accepted-requires : goal.of_accepted-accepted-requires
of_accepted-accepted-requires c = well_formed _ c.in_ok-check_job.ensures.value

pub run_accepted-requires : goal.run_accepted-requires
run_accepted-requires c = (c.fill_index.ensures, c.count_questions-counts.ensures)

pub returns : goal.returns
unfolding run_check
returns c = let all = worked-answer _ _ _ (ran_then _ _ _ _ _ c.in_ok-check_job.ensures.value (subst (λ (s : List ℕ). Ran (check_table (job_of s) c.args.table.now ⨾ check_schedule s c.args.schedule.now) s c.args.table.now c.args.schedule.now c.run_accepted.result c.run_accepted.new.table) c.of_accepted-accepted.ensures c.run_accepted.ensures)) in record { value = all.0; table_after = all.1; worked = all.2 }
