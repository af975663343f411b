-- : header, records, literals and questions, one after the other.
use Rattle.counting.proofs.Written.{room₁, room₂, room₃, set-written}
use Rattle.counting.proofs.write.put_parts.Goals as goal

pub put_records-requires : goal.put_records-requires
put_records-requires c = let p = c.requires in
    record { set = p.set; room = room₁ _ _ p.set.0 p.set.1 c.rule_count.ensures.value c.literal_count.ensures.value p.room c.put_header.ensures }

pub put_bodies-requires : goal.put_bodies-requires
put_bodies-requires c = let p = c.requires in
    record { set = p.set; room = room₂ _ _ p.set.0 p.set.1 c.rule_count.ensures.value c.literal_count.ensures.value p.room c.put_header.ensures c.put_records.ensures }

pub put_questions-requires : goal.put_questions-requires
put_questions-requires c = let p = c.requires in
    record { size = p.set.0; room = room₃ _ _ p.set.0 p.set.1 c.rule_count.ensures.value c.literal_count.ensures.value p.room c.put_header.ensures c.put_records.ensures c.put_bodies.ensures }

pub returns : goal.returns
returns c = let p = c.requires in
    set-written _ _ p.set.0 p.set.1 c.rule_count.ensures.value c.literal_count.ensures.value p.room c.put_header.ensures c.put_records.ensures c.put_bodies.ensures c.put_questions.ensures
