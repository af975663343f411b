use Rattle.recording.proofs.Answering.{recorded-all, started-ready}
use Rattle.recording.proofs.record_accepted.Goals as goal

pub record_turns-requires : goal.record_turns-requires
record_turns-requires c = let p = c.requires in
    let r = started-ready _ _ p.long c.write_start.ensures in record { ready = (record { job = c.claim_count.ensures.accepted; indexed = c.fill_index.ensures; table = r.0; newests = r.1 }, c.index_questions-asked.ensures); named = p.named; fits = p.room }

pub returns : goal.returns
returns c = recorded-all _ _ _ _ c.write_start.ensures c.record_turns.ensures.value c.record_turns.ensures.table_after c.record_turns.ensures.buffer_after
