-- The parts one after the other.
use Rattle.lines.proofs.Joined.{order-within, header-room, records-room, bodies-room, asks-room, joined}
use Rattle.lines.proofs.write.put_placed.Goals as goal

pub put_header-requires-clause-room : goal.put_header-requires-clause-room
put_header-requires-clause-room c = let s = c.requires in header-room _ _ _ _ s.order c.args.out.now s.placeable.0 s.placeable.1

pub put_records-requires : goal.put_records-requires
put_records-requires c = let s = c.requires in (order-within _ _ _ s.order, records-room _ _ _ _ s.order _ s.placeable.0 s.placeable.1 _ c.put_header.ensures)

pub put_bodies-requires : goal.put_bodies-requires
put_bodies-requires c = let s = c.requires in (order-within _ _ _ s.order, bodies-room _ _ _ _ s.order _ s.placeable.0 s.placeable.1 _ c.put_header.ensures _ c.put_records.ensures)

pub put_fields-requires : goal.put_fields-requires
put_fields-requires c = let s = c.requires in asks-room _ _ _ _ s.order _ s.placeable.0 s.placeable.1 _ c.put_header.ensures _ c.put_records.ensures _ c.put_bodies.ensures

pub returns : goal.returns
returns c = let s = c.requires in joined _ _ _ _ s.order _ s.placeable.0 s.placeable.1 _ c.put_header.ensures _ c.put_records.ensures _ c.put_bodies.ensures _ c.put_fields.ensures
