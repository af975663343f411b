use native.Mathlib.Omega.{arith}
use Rattle.writing.proofs.Writing.{writes-room, writes-writes}
use Rattle.fields.proofs.little_endian.put_word.Goals as goal

pub put_half-requires-2 : goal.put_half-requires-2
put_half-requires-2 c = writes-room _ _ _ (omega arith) c.put_half.ensures 2 (omega arith)

pub returns : goal.returns
returns c = writes-writes _ _ _ (omega arith) c.put_half.ensures _ _ c.put_half-2.ensures
