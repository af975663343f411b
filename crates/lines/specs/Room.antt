-- Row 16 (02, order 1), "output too short", place the bytes needed; and the rows of a text together, in their order.
--   tally_size t       the bytes of a job with the counts of t
--   room_row room t    the row
--   check_counts s room   rows 15 and 16, of a text and an output of `room` bytes
--   check_text s room  rows 14, 15 and 16, of a text and an output of `room` bytes
--   Readable s t room   the text says lines that rows 15 and 16 accept, and t is what was counted
use Rattle.std.specs.Prelude.{ℕ, List, ◌≡◌, Ok}
use Rattle.base.specs.Compare.{under}
use Rattle.job.specs.Rows.{◌⨾◌, row}
use Rattle.job.specs.Format.{question_byte}
use Rattle.job.specs.Check.{Check}
use Rattle.job.specs.Check.{Accepted}
use Rattle.lines.specs.Answer.{go_on}
use Rattle.lines.specs.Fitting.{check_fit}
use Rattle.lines.specs.Numbering.{counted_all}
use Rattle.lines.specs.Lines.{Lines, text_of}
use Rattle.lines.specs.Checks.{check_lines}
use Rattle.lines.specs.declared.Tally.{Tally}

abbrev pub tally_size : Tally → ℕ
tally_size t = question_byte t.rules t.literals t.questions

unfoldable pub room_row : ℕ → Tally → Check
room_row room t = row (under room (tally_size t)) 16 (tally_size t) ⨾ Accepted

unfoldable pub check_counts : List ℕ → ℕ → Check
check_counts s room = go_on (counted_all s) (room_row room)

unfoldable pub check_text : List ℕ → ℕ → Check
check_text s room = check_fit s ⨾ check_counts s room

-- a text that every row accepts, with what was counted of it
pub record Readable (s : List ℕ) (t : Tally) (room : ℕ) : Type 0 where
  pub lines : Lines
  pub says : s ≡ text_of lines
  pub accepted : Accepted ≡ check_lines lines room
  pub counts : counted_all s ≡ Ok t
