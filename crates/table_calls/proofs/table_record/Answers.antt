use mathlib.Core.Path.{◌∙◌, ap}
use mathlib.Core.List.{List}
use Prim.Native.Nat.{ℕ}
use Rattle.job.specs.Check.{Check}
use Rattle.codes.specs.Numbers.{of_written}
use Rattle.records.specs.Answers.{record_check, record_tally}
use Rattle.calls.proofs.Answering.{answered-ok, answered-err}
use Rattle.table_calls.specs.Numbers.{copied}
use Rattle.table_calls.proofs.table_record.Goals as goal

pub returns-in-Ok : goal.returns-in-Ok
unfolding record_tally
returns-in-Ok c = let a = c.args in
    let m = c.record_run.ensures.recorded in
    let x = record_check a.job.now a.table.now a.schedule.now a.buffer.now in
    let q = answered-ok _ x m.answer_is c.in-Ok.is in
    record {
      value = ap (λ (k : Check). of_written k 0) q.0;
      table_after = m.table_is;
      buffer_after = m.bytes_are;
      tally_after = c.copy_counts.ensures ∙ ap (λ (ns : List ℕ). copied ns a.tally.now) (q.1 ∙ ap (λ (k : Check). record_tally k a.job.now a.table.now a.schedule.now) q.0);
    }

pub returns-in-Err : goal.returns-in-Err
unfolding record_tally
returns-in-Err c = let a = c.args in
    let m = c.record_run.ensures.recorded in
    let x = record_check a.job.now a.table.now a.schedule.now a.buffer.now in
    let q = answered-err _ x m.answer_is c.in-Err.is in
    record {
      value = c.of_refusal.ensures ∙ ap (λ (k : Check). of_written k 0) q;
      table_after = m.table_is;
      buffer_after = m.bytes_are;
      tally_after = c.copy_counts-in-Err.ensures ∙ ap (λ (k : Check). copied (record_tally k a.job.now a.table.now a.schedule.now) a.tally.now) q;
    }
