use native.Mathlib.Omega.{arith}
use Rattle.writing.proofs.Writing.{along-start, along-room, along_more, along_end}
use Rattle.canon.proofs.Handed.{held_at}
use Rattle.canon.proofs.write.put_bodies.Goals as goal

pub loop-i-init : goal.loop-i-init
loop-i-init c = (c.requires.held_all, along-start _ _ _ c.requires.room)

pub put_body-requires : goal.put_body-requires
put_body-requires c = let l = c.loop-i in record { held = held_at l.invariant.0 _ _ c.from.ensures (omega arith); room = along-room l.invariant.1 _ c.from.ensures (omega arith) }

pub loop-i-preserved : goal.loop-i-preserved
loop-i-preserved c = let l = c.loop-i in
    (l.invariant.0, along_more l.invariant.1 _ _ c.from.ensures (omega arith) c.put_body.ensures)

pub returns : goal.returns
returns c = along_end c.loop-i.invariant.1 (omega arith)
