use mathlib.Core.Path.{◌∙◌, ap}
use mathlib.Core.List.{List}
use Prim.Native.Nat.{ℕ}
use Rattle.job.specs.Check.{Check}
use Rattle.calls.specs.Calls.{run_check, run_tally}
use Rattle.calls.proofs.Answering.{answered-ok, answered-err}
use Rattle.table_calls.specs.Numbers.{of_check, copied}
use Rattle.table_calls.proofs.table_run.Goals as goal

pub returns-in-Ok : goal.returns-in-Ok
unfolding run_tally
returns-in-Ok c = let a = c.args in
    let x = run_check a.job.now a.table.now a.schedule.now in
    let q = answered-ok _ x c.run.ensures.value c.in-Ok.is in
    record {
      value = ap of_check q.0;
      table_after = c.run.ensures.table_after;
      tally_after = c.copy_counts.ensures ∙ ap (λ (ns : List ℕ). copied ns a.tally.now) (q.1 ∙ ap (λ (k : Check). run_tally k a.job.now a.table.now a.schedule.now) q.0);
    }

pub returns-in-Err : goal.returns-in-Err
unfolding run_tally
returns-in-Err c = let a = c.args in
    let x = run_check a.job.now a.table.now a.schedule.now in
    let q = answered-err _ x c.run.ensures.value c.in-Err.is in
    record {
      value = c.in_halves.ensures ∙ ap of_check q;
      table_after = c.run.ensures.table_after;
      tally_after = c.copy_counts-in-Err.ensures ∙ ap (λ (k : Check). copied (run_tally k a.job.now a.table.now a.schedule.now) a.tally.now) q;
    }
