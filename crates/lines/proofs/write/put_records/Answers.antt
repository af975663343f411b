use mathlib.Core.Path.{refl}
use native.Mathlib.Omega.{arith}
use Rattle.writing.proofs.Writing.{along-start-by, along-room, along_more, along_end}
use Rattle.lines.proofs.write.put_records.Goals as goal

pub loop-p-init : goal.loop-p-init
loop-p-init c = along-start-by _ 4 _ _ (λ x. refl) c.requires.1

pub put_record-requires : goal.put_record-requires
put_record-requires c = (omega (arith, c.requires.0.below c.loop-p.p-index (omega arith)), along-room c.loop-p.invariant _ c.from.ensures (omega arith))

pub loop-p-preserved : goal.loop-p-preserved
loop-p-preserved c = along_more c.loop-p.invariant _ _ c.from.ensures (omega arith) c.put_record.ensures

pub returns : goal.returns
returns c = along_end c.loop-p.invariant (omega arith)
