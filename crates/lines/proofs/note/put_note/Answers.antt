use native.Mathlib.Omega.{arith}
use Rattle.writing.proofs.Wrote.{wrote_byte}
use Rattle.lines.proofs.note.put_note.Goals as goal

pub returns : goal.returns
returns c = record { bytes = wrote_byte _ _ _ (omega arith); next = omega arith }
