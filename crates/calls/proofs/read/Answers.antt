use mathlib.Core.Path.{◌∙◌, ap}
use Prim.Native.Nat.{ℕ}
use mathlib.Core.List.{List}
use Rattle.job.proofs.Accepted.{well_formed}
use Rattle.job.specs.Format.{job_of}
use Rattle.job.specs.Rows.{◌⨾◌}
use Rattle.table.specs.Ranges.{check_table}
use Rattle.calls.specs.Calls.{read_check, read_answer, check_claim_read}
use Rattle.calls.proofs.Answering.{answered_on, answered_at}
use Rattle.calls.proofs.read.Goals as goal

pub returns-in_err-check_job : goal.returns-in_err-check_job
unfolding read_check
returns-in_err-check_job c = answered_at _ _ _ c.in_err-check_job.ensures.value c.from_residual.ensures.1

pub of_accepted-accepted-requires : goal.of_accepted-accepted-requires
of_accepted-accepted-requires c = well_formed _ c.in_ok-check_job.ensures.value

pub read_accepted-requires : goal.read_accepted-requires
read_accepted-requires c = (c.fill_index.ensures, c.count_questions-counts.ensures)

pub returns : goal.returns
unfolding read_check
returns c = let t = c.args.table.now in
    let k = c.args.claim in
    answered_on _ _ _ c.in_ok-check_job.ensures.value (c.read_accepted.ensures ∙ ap (λ (s : List ℕ). read_answer (check_table (job_of s) t ⨾ check_claim_read s k) t k) c.of_accepted-accepted.ensures)
