use mathlib.Core.Path.{refl}
use native.Mathlib.Omega.{arith}
use Rattle.writing.proofs.Writing.{along-start-by, along-room, along_more, along_end}
use Rattle.canon.proofs.write.put_literals.Goals as goal

pub loop-x-init : goal.loop-x-init
loop-x-init c = along-start-by _ 2 _ _ (λ x. refl) c.requires

pub put_half-requires : goal.put_half-requires
put_half-requires c = along-room c.loop-x.invariant _ c.from.ensures (omega arith)

pub loop-x-preserved : goal.loop-x-preserved
loop-x-preserved c = along_more c.loop-x.invariant _ _ c.from.ensures (omega arith) c.put_half.ensures

pub returns : goal.returns
returns c = along_end c.loop-x.invariant (omega arith)
