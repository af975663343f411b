use mathlib.Core.Path.{refl, ap, subst}
use mathlib.Core.List.{List}
use Prim.Native.Nat.{ℕ}
use Rattle.std.specs.Prelude.{Err}
use Rattle.base.proofs.Compare.{differs-yes, differs-no}
use Rattle.job.proofs.Rows.{pass, stop, onward}
use Rattle.job.specs.Check.{Accepted}
use Rattle.records.specs.Answers.{replay_rows, check_odd, Replayed}
use Rattle.calls.proofs.Answering.{start-good}
use Rattle.records.proofs.Lawful.{answered, on_record}
use Rattle.recording.proofs.Answering.{replayed-stop, replayed_last, replayed_as}
use Rattle.recording.proofs.replay.Goals as goal

pub returns-in_err-check_start : goal.returns-in_err-check_start
unfolding replay_rows
returns-in_err-check_start c = record { replayed = replayed-stop _ _ _ _ _ c.in_err-check_start.ensures c.from_residual.ensures.1; answered = answered _; on_record = on_record _ }

pub returns-then-log-ne0 : goal.returns-then-log-ne0
unfolding replay_rows check_odd
returns-then-log-ne0 c = record { replayed = replayed_last _ _ _ _ (onward _ _ c.in_ok-check_start.ensures (stop _ _ _ _ (differs-yes _ _ c.if-log-ne0.true))) (ap Err c.into.ensures); answered = answered _; on_record = on_record _ }

pub of_accepted-accepted-requires : goal.of_accepted-accepted-requires
of_accepted-accepted-requires c = (start-good _ _ c.in_ok-check_start.ensures).0

pub replay_accepted-requires : goal.replay_accepted-requires
replay_accepted-requires c = rw c.of_accepted-accepted.ensures (record { long = (start-good _ _ c.in_ok-check_start.ensures).1 })

pub returns : goal.returns
unfolding replay_rows check_odd
returns c = let all = subst (λ (s : List ℕ). Replayed Accepted s c.args.table.now c.args.log.now c.replay_accepted.result c.replay_accepted.new.table) c.of_accepted-accepted.ensures c.replay_accepted.ensures in
    record { replayed = replayed_as _ _ _ _ (onward _ _ c.in_ok-check_start.ensures (pass _ _ _ _ (differs-no _ _ c.if-log-ne0.false) refl)) all; answered = answered _; on_record = on_record _ }
