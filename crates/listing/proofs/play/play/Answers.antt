use Rattle.job.specs.Format.{job_of}
use Rattle.listing.proofs.Playing.{start-ready, play-ready, few-counts, play-done}
use Rattle.listing.proofs.play.play.Goals as goal

pub run_turns-tally-requires : goal.run_turns-tally-requires
run_turns-tally-requires c = let p = c.requires in
    let r = start-ready c.args.job.now c.args.table.now c.claim_count.ensures.accepted p.job_in_bounds c.write_start.ensures in record { ready = record { job = c.claim_count.ensures.accepted; indexed = c.fill_index.ensures; table = r.0; newests = r.1 }; listed = c.index_questions-asked.ensures; named = p.named }

pub finish-requires : goal.finish-requires
finish-requires c = let s = c.args.job.now in
    let ws = c.args.named.now in
    let p = c.requires in
    let q = c.run_turns-tally.ensures in
    let r = play-ready s c.args.table.now c.claim_count.ensures.accepted p.job_in_bounds ws p.named c.write_start.ensures q.table_after in record { ready = record { job = c.claim_count.ensures.accepted; indexed = c.fill_index.ensures; table = r.0; newests = r.1 }; listed = c.index_questions-asked.ensures; small = few-counts (job_of s) ws _ q.value p.named_len_bound }

pub returns : goal.returns
returns c = let q = c.run_turns-tally.ensures in
    let f = c.finish.ensures in let both = play-done (job_of c.args.job.now) c.args.named.now c.write_start.ensures q.value q.table_after f.value f.table_after in record { value = both.0; table_after = both.1 }
