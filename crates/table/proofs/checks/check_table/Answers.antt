-- : a table that row 9 accepts has the words that row 10 reads.
use Rattle.job.proofs.Rows.{onward, exit}
use Rattle.table.proofs.Ranges.{enough-room}
use Rattle.table.specs.Ranges.{check_table}
use Rattle.table.proofs.checks.check_table.Goals as goal

pub returns-in_err-check_room : goal.returns-in_err-check_room
unfolding check_table
returns-in_err-check_room c = exit _ _ c.from_residual.ensures.1 c.in_err-check_room.ensures

pub check_words-requires-clause-room : goal.check_words-requires-clause-room
check_words-requires-clause-room c = enough-room _ _ c.in_ok-check_room.ensures

pub returns : goal.returns
unfolding check_table
returns c = onward _ _ c.in_ok-check_room.ensures c.check_words.ensures
