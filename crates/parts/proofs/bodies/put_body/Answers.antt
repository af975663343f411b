-- : the literals, and one more or none.
use Rattle.parts.proofs.LiteralsPut.{own-fits, own_room, own_put}
use Rattle.parts.proofs.bodies.put_body.Goals as goal

pub put_within-requires-clause-room : goal.put_within-requires-clause-room
put_within-requires-clause-room c = own-fits c.args.own _ c.args.out.now c.requires.room

pub put_half-requires : goal.put_half-requires
put_half-requires c = own_room c.args.own _ _ c.requires.room c.put_within.ensures c.in-Some.is

pub returns-in-Some : goal.returns-in-Some
returns-in-Some c = own_put c.args.own _ _ c.requires.room c.put_within.ensures c.in-Some.is c.put_half.ensures
