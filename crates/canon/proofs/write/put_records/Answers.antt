use mathlib.Core.Path.{refl}
use native.Mathlib.Omega.{arith}
use Rattle.writing.proofs.Writing.{along-start-by, along-room, along_more, along_end}
use Rattle.canon.proofs.write.put_records.Goals as goal

pub loop-i-init : goal.loop-i-init
loop-i-init c = (c.requires.sizes, along-start-by _ 4 _ _ (λ x. refl) c.requires.room)

pub put_record-requires : goal.put_record-requires
put_record-requires c = let l = c.loop-i in record { sizes = (l.invariant.0.0, omega (arith, l.invariant.0.1.below l.i-index (omega arith))); room = along-room l.invariant.1 _ c.from.ensures (omega arith) }

pub loop-i-preserved : goal.loop-i-preserved
loop-i-preserved c = let l = c.loop-i in
    (l.invariant.0, along_more l.invariant.1 _ _ c.from.ensures (omega arith) c.put_record.ensures)

pub returns : goal.returns
returns c = along_end c.loop-i.invariant.1 (omega arith)
