use native.Mathlib.Omega.{arith}
use Rattle.writing.specs.Writes.{Writes}
use Rattle.job.specs.Encoding.{word_bytes}
use mathlib.Core.List.{◌++◌}
use Rattle.writing.proofs.Writing.{writes-room, writes-writes}
use Rattle.fields.proofs.little_endian.put_words.Goals as goal
use Rattle.fields.proofs.little_endian.put_words.Goals.{After-put_word-2}

-- the first two words
two : (c : After-put_word-2) → Writes c.args.out.now c.put_word-2.new.out (word_bytes c.args.x ++ word_bytes c.args.y)
two c = writes-writes _ _ _ (omega arith) c.put_word.ensures _ _ c.put_word-2.ensures

pub put_word-requires-2 : goal.put_word-requires-2
put_word-requires-2 c = writes-room _ _ _ (omega arith) c.put_word.ensures 4 (omega arith)

pub put_word-requires-3 : goal.put_word-requires-3
put_word-requires-3 c = writes-room _ _ _ (omega arith) (two (goal.at.put_word-requires-3 c).After-put_word-2) 4 (omega arith)

pub returns : goal.returns
returns c = writes-writes _ _ _ (omega arith) (two (goal.at.returns c).After-put_word-2) _ _ c.put_word-3.ensures
