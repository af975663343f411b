use mathlib.Core.Path.{refl}
use native.Mathlib.Omega.{arith}
use Rattle.writing.proofs.Writing.{along-start-by, along-room, along_more, along_end}
use Rattle.lines.proofs.write.put_fields.Goals as goal

pub loop-note-init : goal.loop-note-init
loop-note-init c = along-start-by _ 2 _ _ (λ x. refl) c.requires

pub put_half-requires : goal.put_half-requires
put_half-requires c = along-room c.loop-note.invariant _ refl (omega arith)

pub loop-note-preserved : goal.loop-note-preserved
loop-note-preserved c = along_more c.loop-note.invariant _ _ refl (omega arith) c.put_half.ensures

pub returns : goal.returns
returns c = along_end c.loop-note.invariant (omega arith)
