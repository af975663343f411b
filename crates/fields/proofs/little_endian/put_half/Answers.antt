use native.Mathlib.Omega.{arith}
use Rattle.writing.proofs.Writing.{writes-room, writes-writes}
use Rattle.fields.proofs.little_endian.put_half.Goals as goal

pub put_byte-requires-2 : goal.put_byte-requires-2
put_byte-requires-2 c = writes-room _ _ _ (omega arith) c.put_byte.ensures 1 (omega arith)

pub returns : goal.returns
returns c = writes-writes _ _ _ (omega arith) c.put_byte.ensures _ _ c.put_byte-2.ensures
