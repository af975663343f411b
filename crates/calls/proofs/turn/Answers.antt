use mathlib.Core.Path.{refl, ◌∙◌, ap}
use Prim.Native.Nat.{ℕ}
use mathlib.Core.List.{List}
use Rattle.job.proofs.Accepted.{well_formed}
use Rattle.job.specs.Check.{Check}
use Rattle.job.specs.Format.{job_of}
use Rattle.job.specs.Rows.{◌⨾◌}
use Rattle.table.specs.Ranges.{check_table}
use Rattle.calls.specs.Calls.{turn_check, turn_table, turn_answer, check_turn_worker}
use Rattle.calls.proofs.Answering.{goes_on, stops_at, answered_on, answered_at}
use Rattle.calls.proofs.turn.Goals as goal

pub returns-in_err-check_job : goal.returns-in_err-check_job
unfolding turn_check turn_table
returns-in_err-check_job c = record {
  value = answered_at _ _ _ c.in_err-check_job.ensures.value c.from_residual.ensures.1;
  table_after = stops_at (λ (x : Check). turn_table x c.args.job.now c.args.table.now c.args.worker) _ _ c.in_err-check_job.ensures.value refl;
}

pub of_accepted-accepted-requires : goal.of_accepted-accepted-requires
of_accepted-accepted-requires c = well_formed _ c.in_ok-check_job.ensures.value

pub turn_accepted-requires : goal.turn_accepted-requires
turn_accepted-requires c = (c.fill_index.ensures, c.count_questions-counts.ensures)

pub returns : goal.returns
unfolding turn_check
returns c = let m = c.turn_accepted.ensures in
    let t = c.args.table.now in
    let w = c.args.worker in
    record {
      value = answered_on _ _ _ c.in_ok-check_job.ensures.value (m.value ∙ ap (λ (s : List ℕ). turn_answer (check_table (job_of s) t ⨾ check_turn_worker s w) s t w) c.of_accepted-accepted.ensures);
      table_after = goes_on (λ (x : Check). turn_table x c.args.job.now c.args.table.now c.args.worker) _ _ c.in_ok-check_job.ensures.value (m.table_after ∙ ap (λ (s : List ℕ). turn_table (check_table (job_of s) t ⨾ check_turn_worker s w) s t w) c.of_accepted-accepted.ensures);
    }
