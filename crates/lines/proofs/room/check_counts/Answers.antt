use mathlib.Core.Path.{sym, ◌∙◌, ap}
use Rattle.std.specs.Prelude.{Result}
use Rattle.job.proofs.Rows.{returned}
use Rattle.job.specs.declared.Refusal.{Refusal}
use Rattle.lines.specs.Answer.{go_on, check_of}
use Rattle.lines.specs.Room.{room_row, check_counts}
use Rattle.lines.specs.declared.Tally.{Tally}
use Rattle.lines.proofs.Tallies.{all_small}
use Rattle.lines.proofs.room.check_counts.Goals as goal

pub returns-in_err-tally-clause-check : goal.returns-in_err-tally-clause-check
unfolding check_counts
returns-in_err-tally-clause-check c = ap check_of (returned _ c.from_residual.ensures.1) ∙ ap (λ (r : Result Tally Refusal). go_on r (room_row c.args.room)) c.in_err-tally.ensures

pub check_room-requires : goal.check_room-requires
check_room-requires c = all_small _ c.in_ok-tally.tally (sym c.in_ok-tally.ensures)

pub returns-in_err-check_room-clause-check : goal.returns-in_err-check_room-clause-check
unfolding check_counts
returns-in_err-check_room-clause-check c = ap check_of (returned _ c.from_residual-in_err-check_room.ensures.1)
    ∙ c.in_err-check_room.ensures
    ∙ ap (λ (r : Result Tally Refusal). go_on r (room_row c.args.room)) c.in_ok-tally.ensures

pub returns-clause-check : goal.returns-clause-check
unfolding check_counts
returns-clause-check c = c.in_ok-check_room.ensures ∙ ap (λ (r : Result Tally Refusal). go_on r (room_row c.args.room)) c.in_ok-tally.ensures
