use Rattle.table.proofs.Ranges.{ranges}
use Rattle.calls.proofs.Answering.{ran-stop_then, ran_then}
use Rattle.calls.proofs.run_accepted.Goals as goal

pub returns-in_err-check_table : goal.returns-in_err-check_table
returns-in_err-check_table c = ran-stop_then _ _ _ _ _ c.in_err-check_table.ensures c.from_residual.ensures.1

pub run_in_range-requires : goal.run_in_range-requires
run_in_range-requires c = let p = c.requires in
    let r = ranges _ _ c.in_ok-check_table.ensures in
    (record { job = c.claim_count.ensures.accepted; indexed = p.0; table = r.0; newests = r.1 }, p.1)

pub returns : goal.returns
returns c = ran_then _ _ _ _ _ c.in_ok-check_table.ensures c.run_in_range.ensures
