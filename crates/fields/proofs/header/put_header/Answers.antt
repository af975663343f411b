use native.Mathlib.Omega.{arith}
use mathlib.Core.List.{◌++◌}
use Rattle.std.proofs.Common.{◌+◌, ◌*◌}
use Rattle.job.specs.Encoding.{word_bytes}
use Rattle.writing.specs.Writes.{Writes}
use Rattle.writing.proofs.Writing.{writes-room, writes-writes, writes_as}
use Rattle.fields.proofs.Heading.{header-said}
use Rattle.fields.proofs.header.put_header.Goals as goal
use Rattle.fields.proofs.header.put_header.Goals.{After-put_words-2}

-- the first six words
six :
    (c : After-put_words-2)
    → let n = c.args.counts in
    Writes c.args.out.now c.put_words-2.new.out ((word_bytes (36 + 4 * n.rules + 2 * n.literals + 4 * n.questions) ++ word_bytes n.claims ++ word_bytes n.rules) ++ (word_bytes n.literals ++ word_bytes n.workers ++ word_bytes n.questions))
six c = writes-writes _ _ _ (omega arith) c.put_words.ensures _ _ c.put_words-2.ensures

pub put_words-requires-2 : goal.put_words-requires-2
put_words-requires-2 c = writes-room _ _ _ (omega arith) c.put_words.ensures 12 (omega (arith, c.requires.room))

pub put_words-requires-3 : goal.put_words-requires-3
put_words-requires-3 c = writes-room _ _ _ (omega (arith, c.requires.room)) (six (goal.at.put_words-requires-3 c).After-put_words-2) 12 (omega (arith, c.requires.room))

pub returns : goal.returns
returns c = writes_as (writes-writes _ _ _ (omega (arith, c.requires.room)) (six (goal.at.returns c).After-put_words-2) _ _ c.put_words-3.ensures)
    (header-said _ _ _ _ _ _ _ _ (omega arith) (omega arith) (omega arith))
