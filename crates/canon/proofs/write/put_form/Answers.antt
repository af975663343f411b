-- The parts one after the other.
use mathlib.Core.Path.{refl}
use native.Mathlib.Omega.{arith}
use Rattle.canon.proofs.Handed.{bodies-sizes, bodies-held}
use Rattle.canon.proofs.Formed.{records_fit, bodies_fit, asks_fit, formed}
use Rattle.canon.proofs.write.put_form.Goals as goal

pub put_counts-requires : goal.put_counts-requires
put_counts-requires c = let p = c.requires in record { sizes = (bodies-sizes p.bodies.0, p.bodies.1); room = p.room }

pub put_records-requires : goal.put_records-requires
put_records-requires c = let p = c.requires in record { sizes = (bodies-sizes p.bodies.0, p.bodies.1.within); room = records_fit p.bodies.0 p.bodies.1 p.room c.put_counts.ensures }

pub put_bodies-requires : goal.put_bodies-requires
put_bodies-requires c = let p = c.requires in record { held_all = bodies-held p.bodies.0 p.bodies.1.within; room = bodies_fit p.bodies.0 p.bodies.1 p.room c.put_counts.ensures c.put_records.ensures }

pub put_questions-requires : goal.put_questions-requires
put_questions-requires c = let p = c.requires in asks_fit p.bodies.0 p.bodies.1 p.room c.put_counts.ensures c.put_records.ensures c.put_bodies.ensures

pub returns : goal.returns
returns c = let p = c.requires in
    let h = formed p.bodies.0 p.bodies.1 p.room c.put_counts.ensures c.put_records.ensures c.put_bodies.ensures c.put_questions.ensures in
    record { same_buffer = refl; put = grind (arith, h.put, h.same_buffer) }
