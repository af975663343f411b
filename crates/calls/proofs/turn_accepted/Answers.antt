use mathlib.Core.Path.{refl, ◌∙◌, ap}
use native.Mathlib.Omega.{arith}
use Rattle.base.proofs.Compare.{not_below-yes, not_below-no}
use Rattle.job.proofs.Rows.{pass, stop}
use Rattle.job.specs.Check.{Check}
use Rattle.job.specs.Format.{workers}
use Rattle.calls.specs.Calls.{answered, check_turn_worker, turn_answer, turn_table}
use Rattle.table.proofs.Ranges.{ranges}
use Rattle.std.specs.Prelude.{Ok}
use Rattle.calls.proofs.Answering.{goes_on, stops_at, answered_on, answered_at}
use Rattle.calls.proofs.turn_accepted.Goals as goal

pub returns-in_err-check_table : goal.returns-in_err-check_table
unfolding turn_table
returns-in_err-check_table c = record {
  value = answered_at _ _ _ c.in_err-check_table.ensures c.from_residual.ensures.1;
  table_after = stops_at (λ (x : Check). turn_table x c.args.job.now c.args.table.now c.args.worker) _ _ c.in_err-check_table.ensures refl;
}

pub returns-then-worker_count-worker : goal.returns-then-worker_count-worker
unfolding answered check_turn_worker turn_table
returns-then-worker_count-worker c = let s = c.args.job.now in
    let t = c.args.table.now in
    let w = c.args.worker in
    let a = c.in_ok-check_table.ensures in
    let q = stop _ _ _ _ (not_below-yes w (workers s) (omega arith)) in
    record { value = answered_on _ _ _ a (ap (λ (x : Check). turn_answer x s t w) q); table_after = goes_on (λ (x : Check). turn_table x s t w) _ _ a (ap (λ (x : Check). turn_table x s t w) q) }

pub index_questions-asked-requires : goal.index_questions-asked-requires
index_questions-asked-requires c = record { counted = c.requires.1 }

pub take_single-requires : goal.take_single-requires
take_single-requires c = let p = c.requires in
    let r = ranges _ _ c.in_ok-check_table.ensures in
    (record { job = c.worker_count.ensures.accepted; indexed = p.0; table = r.0; newests = r.1 }, c.index_questions-asked.ensures, omega (arith, c.if-worker_count-worker.false, c.worker_count.ensures.value))

pub returns : goal.returns
unfolding answered check_turn_worker turn_table
returns c = let s = c.args.job.now in
    let t = c.args.table.now in
    let w = c.args.worker in
    let a = c.in_ok-check_table.ensures in
    let q = pass _ _ _ _ (not_below-no w (workers s) (omega (arith, c.if-worker_count-worker.false, c.worker_count.ensures.value))) refl in
    let m = c.take_single.ensures in
    record { value = answered_on _ _ _ a (ap Ok m.kind_is ∙ ap (λ (x : Check). turn_answer x s t w) q); table_after = goes_on (λ (x : Check). turn_table x s t w) _ _ a (m.table_is ∙ ap (λ (x : Check). turn_table x s t w) q) }
