use mathlib.Core.Path.{◌∙◌, ap}
use mathlib.Core.List.{List}
use Prim.Native.Nat.{ℕ}
use Rattle.job.specs.Check.{Check}
use Rattle.codes.specs.Numbers.{of_written}
use Rattle.records.specs.Answers.{replay_check}
use Rattle.records.proofs.Promised.{replayed-ok, replayed-err}
use Rattle.table_calls.specs.Numbers.{copied}
use Rattle.table_calls.proofs.table_replay.Goals as goal

pub returns-in-Ok : goal.returns-in-Ok
unfolding replay_check
returns-in-Ok c = let m = c.replay.ensures.replayed in
    let q = replayed-ok _ _ m.answer_is c.in-Ok.is in
    record { value = ap (λ (k : Check). of_written k 0) q.0; table_after = m.table_is; tally_after = c.copy_counts.ensures ∙ ap (λ (ns : List ℕ). copied ns c.args.tally.now) q.1 }

pub returns-in-Err : goal.returns-in-Err
unfolding replay_check
returns-in-Err c = let m = c.replay.ensures.replayed in
    let q = replayed-err _ _ m.answer_is c.in-Err.is in
    record { value = c.of_refusal.ensures ∙ ap (λ (k : Check). of_written k 0) q.0; table_after = m.table_is; tally_after = c.copy_counts-in-Err.ensures ∙ ap (λ (ns : List ℕ). copied ns c.args.tally.now) q.1 }
