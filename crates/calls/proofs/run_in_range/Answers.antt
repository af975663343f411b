use Rattle.calls.proofs.Answering.{ran-stop, ran-made, schedule-low}
use Rattle.calls.proofs.run_in_range.Goals as goal

pub returns-in_err-check_schedule : goal.returns-in_err-check_schedule
returns-in_err-check_schedule c = ran-stop _ _ _ _ c.in_err-check_schedule.ensures c.from_residual.ensures.1

pub index_questions-asked-requires : goal.index_questions-asked-requires
index_questions-asked-requires c = record { counted = c.requires.1 }

pub run_turns-requires : goal.run_turns-requires
run_turns-requires c = record { ready = c.requires.0; listed = c.index_questions-asked.ensures; named = schedule-low _ _ c.in_ok-check_schedule.ensures }

pub returns : goal.returns
returns c = ran-made _ _ _ _ c.in_ok-check_schedule.ensures c.run_turns.ensures.value c.run_turns.ensures.table_after
