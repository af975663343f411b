use mathlib.Core.Path.{refl}
use Rattle.parts.proofs.LiteralsRead.{literal_is}
use Rattle.parts.proofs.LiteralsPut.{putting-start, putting-room, putting_more, putting_end}
use Rattle.parts.proofs.bodies.put_within.Goals as goal

pub loop-k-init : goal.loop-k-init
loop-k-init c = putting-start _ _ _ _ _ c.requires.room

pub put_inside-requires-clause-room : goal.put_inside-requires-clause-room
put_inside-requires-clause-room c =
    putting-room _ _ _ _ c.loop-k.invariant c.loop-k-test.true (literal_is c.args.part.now.accepted refl c.requires.end c.loop-k-test.true c.literal_at.ensures.value)

pub loop-k-preserved : goal.loop-k-preserved
loop-k-preserved c =
    putting_more _ _ _ _ c.loop-k.invariant c.loop-k-test.true (literal_is c.args.part.now.accepted refl c.requires.end c.loop-k-test.true c.literal_at.ensures.value) c.put_inside.ensures

pub returns : goal.returns
returns c = putting_end _ _ _ _ c.loop-k.invariant c.loop-k-test.false
