use mathlib.Core.Path.{refl, sym}
use native.Mathlib.Omega.{arith}
use lib.Seq.{length-take-le}
use Rattle.recording.proofs.Answering.{started-ready, followed-few, replayed_all, replayed-false}
use Rattle.recording.proofs.replay_accepted.Goals as goal

pub follow-first-requires : goal.follow-first-requires
follow-first-requires c = let p = c.requires in
    let r = started-ready _ _ p.long c.write_start.ensures in
    (record { job = c.claim_count.ensures.accepted; indexed = c.fill_index.ensures; table = r.0; newests = r.1 }, c.index_questions-asked.ensures)

pub returns-then-held-log : goal.returns-then-held-log
returns-then-held-log c = replayed_all _ _ _ c.write_start.ensures c.follow-first.ensures c.if-held-log.true

pub follow-again-requires : goal.follow-again-requires
follow-again-requires c = let p = c.requires in
    let r = started-ready _ c.follow-first.new.table (omega (arith, p.long, c.follow-first.auto.table, c.write_start.auto.table)) c.write_start-2.ensures in
    (record { job = c.claim_count.ensures.accepted; indexed = c.fill_index.ensures; table = r.0; newests = r.1 }, c.index_questions-asked.ensures)

pub returns : goal.returns
returns c = replayed-false _ _ _ c.write_start.ensures c.follow-first.ensures c.if-held-log.false c.write_start-2.ensures refl c.follow-again.ensures

pub overflow_mul-held : goal.overflow_mul-held
overflow_mul-held c = omega (arith, followed-few c.follow-first.ensures, c.well_formed)

pub slice_bounds-follow-end : goal.slice_bounds-follow-end
slice_bounds-follow-end c = sym (length-take-le _ _ (followed-few c.follow-first.ensures))
