use mathlib.Core.Path.{◌∙◌, ap, subst}
use mathlib.Core.List.{List}
use Prim.Native.Nat.{ℕ}
use Rattle.job.specs.Rows.{◌⨾◌}
use Rattle.calls.specs.Calls.{check_schedule}
use Rattle.records.specs.Answers.{record_check, check_buffer, Recorded}
use Rattle.std.specs.Prelude.{Ok}
use Rattle.calls.proofs.Answering.{start-good}
use Rattle.records.proofs.Lawful.{answered, on_record}
use Rattle.recording.proofs.Answering.{record-good, recorded-stop, recorded_then, recorded_as, recorded_last}
use Rattle.recording.proofs.record_run.Goals as goal

pub returns-in_err-check_start : goal.returns-in_err-check_start
unfolding record_check
returns-in_err-check_start c = record { recorded = recorded-stop _ _ _ _ _ _ c.in_err-check_start.ensures c.from_residual.ensures.1; answered = answered _; on_record = on_record _ }

pub of_accepted-accepted-requires : goal.of_accepted-accepted-requires
of_accepted-accepted-requires c = (start-good _ _ c.in_ok-check_start.ensures).0

pub returns-in_err-check_record : goal.returns-in_err-check_record
unfolding record_check
returns-in_err-check_record c = record { recorded = recorded_then _ _ _ _ _ _ c.in_ok-check_start.ensures (recorded_last _ _ _ _ _ (c.in_err-check_record.ensures ∙ ap (λ (s : List ℕ). check_schedule s c.args.schedule.now ⨾ check_buffer c.args.schedule.now c.args.buffer.now) c.of_accepted-accepted.ensures) c.from_residual-in_err-check_record.ensures.1); answered = answered _; on_record = on_record _ }

pub record_accepted-requires : goal.record_accepted-requires
record_accepted-requires c = let b = record-good _ _ _ c.in_ok-check_record.ensures in record { long = rw c.of_accepted-accepted.ensures (start-good _ _ c.in_ok-check_start.ensures).1; named = b.0; room = b.1 }

pub returns : goal.returns
unfolding record_check
returns c = let all = recorded_as _ _ _ _ _ c.in_ok-check_record.ensures c.record_accepted.ensures in
    let same = subst (λ (s : List ℕ). Recorded (check_schedule s c.args.schedule.now ⨾ check_buffer c.args.schedule.now c.args.buffer.now) s c.args.table.now c.args.schedule.now c.args.buffer.now (Ok c.record_accepted.result) c.record_accepted.new.table c.record_accepted.new.buffer) c.of_accepted-accepted.ensures all in
    record { recorded = recorded_then _ _ _ _ _ _ c.in_ok-check_start.ensures same; answered = answered _; on_record = on_record _ }
