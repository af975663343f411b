-- `Passing` (proofs/Cursors) says what was read before the cursor was stored; each return is then a law of the turn by it, and what is kept one of proofs/KeptPassing.
use Prim.Native.Nat.{◌+◌, ◌<◌}
use mathlib.Core.Path.{sym, ◌∙◌, ap}
use native.Mathlib.Omega.{arith}
use borrow.Author.Tests.{eqb-true}
use lib.ListN.{set}
use Rattle.table.specs.Layout.{cursor_word, true_mark}
use Rattle.table.proofs.Sizes.{sizes}
use Rattle.turn.proofs.Tests.{complete-yes, complete-no}
use Rattle.turn.proofs.Cursors.{next-there, next_left, next_is, moved-low, moved-by_one, Passing, moved_length, moved_range, moved-opened, moved-owner, moved-own, moved-kept, moved_ready, pass-complete, pass-own, pass-fresh, pass-took, pass-waits}
use Rattle.turn.proofs.Following.{room}
use Rattle.turn.proofs.Jobs.{job_ok}
use Rattle.turn.proofs.KeptPassing.{passed-complete, passed_lacks, passed-opens}
use Rattle.turn.proofs.KeptTurns.{await-keeps}
use Rattle.turn.proofs.ThirdWords.{kept_low}
use Rattle.turn.proofs.passing.pass_clear.Goals as goal
use Rattle.turn.proofs.passing.pass_clear.Goals.{After-move_to, Else-is_complete}

-- what was read, and the table with the cursor moved on
facts : (c : After-move_to) → Passing c.args.job.now c.args.table.now c.args.w c.args.c c.cursor_at.result c.next_claim-b.result c.mark_at-mark.result c.move_to.new.table
facts c =
    let a = c.args in
    let p = c.requires in
    let e = c.cursor_at.ensures.value in
    let m = moved-by_one a.job.now a.index.now p.ready.job p.ready.indexed a.c p.c_bound.0 _ p.c_value.1 e c.over-cursor.ensures c.advanced.ensures in
    record {
      claim = p.c_bound.0;
      worker = p.c_bound.1;
      own = eqb-true _ _ p.c_value.0;
      left = p.c_value.1;
      passed = e;
      next = next_is a.job.now a.index.now p.ready.job p.ready.indexed a.c p.c_bound.0 _ p.c_value.1 e c.over-cursor.ensures c.next_claim-b.ensures.0;
      low = c.next_claim-b.ensures.1;
      read = c.mark_at-mark.ensures.value;
      stored = c.move_to.ensures ∙ ap (set a.table.now (cursor_word a.c)) m;
      free = p.c_value_2;
    }

-- the claim isn't complete, the worker's mark is no complete claim's
open-b : (c : Else-is_complete) → c.mark_at-mark.result < true_mark
open-b c = complete-no c.is_complete.ensures c.if-is_complete.false

small : (c : After-move_to) → c.args.w + 1 < true_mark
small c = omega (arith, c.requires.c_bound.1, c.requires.ready.job.sized.workers_most)

pub cursor_at-requires : goal.cursor_at-requires
cursor_at-requires c = let p = c.requires in omega (arith, room _ _ p.ready.table, p.c_bound.0)

pub over-cursor-requires : goal.over-cursor-requires
over-cursor-requires c = let p = c.requires in omega (arith, p.c_bound.0, p.ready.job.sized.claims_most, c.cursor_at.ensures.small)

pub next_claim-b-requires : goal.next_claim-b-requires
next_claim-b-requires c = let a = c.args in
    let p = c.requires in
    next-there a.job.now a.index.now p.ready.job p.ready.indexed a.c p.c_bound.0 _ p.c_value.1 c.cursor_at.ensures.value c.over-cursor.ensures

pub mark_at-mark-requires : goal.mark_at-mark-requires
mark_at-mark-requires c = omega (arith, room _ _ c.requires.ready.table, c.next_claim-b.ensures.1)

pub advanced-requires : goal.advanced-requires
advanced-requires c = let a = c.args in
    let p = c.requires in
    next_left a.job.now a.index.now p.ready.job p.ready.indexed a.c p.c_bound.0 _ p.c_value.1 c.cursor_at.ensures.value c.over-cursor.ensures

pub move_to-requires : goal.move_to-requires
move_to-requires c = let a = c.args in
    let p = c.requires in record { c_lt_most_claims = (omega (arith, p.c_bound.0, p.ready.job.sized.claims_most), omega (arith, room _ _ p.ready.table, p.c_bound.0)); c_bound = moved-low a.job.now a.index.now p.ready.job p.ready.indexed a.c p.c_bound.0 _ p.c_value.1 c.cursor_at.ensures.value c.over-cursor.ensures c.advanced.ensures }

pub returns-then-is_complete-clause-done : goal.returns-then-is_complete-clause-done
returns-then-is_complete-clause-done c = let p = c.requires in
    let h = complete-yes c.is_complete.ensures c.if-is_complete.true in
    record { made = pass-complete (facts (goal.at.returns-then-is_complete-clause-done c).After-move_to) p.ready.newests h; keeps = passed-complete (facts (goal.at.returns-then-is_complete-clause-done c).After-move_to) p.ready _ _ _ p.keeps h }

pub extend-requires : goal.extend-requires
extend-requires c = let p = c.requires in
    let g = facts (goal.at.extend-requires c).After-move_to in record { ready = (moved_ready g p.ready, g.claim, g.low); lacking = passed_lacks g p.ready _ _ _ p.keeps (open-b (goal.at.extend-requires c).Else-is_complete) }

pub overflow_add-w : goal.overflow_add-w
overflow_add-w c = omega (arith, small (goal.at.overflow_add-w c).After-move_to)

pub returns-then-mark-w-clause-done : goal.returns-then-mark-w-clause-done
returns-then-mark-w-clause-done c = record { made = pass-own (facts (goal.at.returns-then-mark-w-clause-done c).After-move_to) c.requires.ready.newests (open-b (goal.at.returns-then-mark-w-clause-done c).Else-is_complete) c.if-mark-w.true; keeps = c.extend.ensures.keeps }

pub open_newest-requires : goal.open_newest-requires
open_newest-requires c = let a = c.requires.ready in
    let g = facts (goal.at.open_newest-requires c).After-move_to in
    let n = c.claim_count-claims.ensures.value in
    let r = room _ _ a.table in
    let q = a.job.sized in record { c_lt_claims = (omega (arith, n, g.low), omega (arith, n, q.claims_most), omega (arith, n, r, g.worker, moved_length g), omega (arith, q.workers_most, g.worker)); table_bound = (moved-opened g a.job a.table c.if-mark-eq0.true, kept_low _ _ (moved-kept g a.newests) _ g.worker n) }

pub returns-then-mark-eq0-clause-done : goal.returns-then-mark-eq0-clause-done
returns-then-mark-eq0-clause-done c = let a = c.requires.ready in
    let n = c.claim_count-claims.ensures.value in
    record {
      made = pass-fresh (facts (goal.at.returns-then-mark-eq0-clause-done c).After-move_to) a.newests (open-b (goal.at.returns-then-mark-eq0-clause-done c).Else-is_complete) c.if-mark-w.false n c.if-mark-eq0.true a.job a.table c.open_newest.ensures;
      keeps = passed-opens (facts (goal.at.returns-then-mark-eq0-clause-done c).After-move_to) a _ _ _ c.extend.ensures.keeps c.if-mark-eq0.true (small (goal.at.returns-then-mark-eq0-clause-done c).After-move_to) _ n c.open_newest.ensures;
    }

pub meets_worker-requires : goal.meets_worker-requires
meets_worker-requires c = let a = c.requires.ready in
    let g = facts (goal.at.meets_worker-requires c).After-move_to in
    (moved_range g a.job a.table, moved-owner g a.job a.table c.if-mark-eq0.false (open-b (goal.at.meets_worker-requires c).Else-is_complete))

pub take_over-requires : goal.take_over-requires
take_over-requires c = let a = c.requires in
    let g = facts (goal.at.take_over-requires c).After-move_to in record { ready = moved_ready g a.ready; within = (g.claim, g.worker, moved-own g); keeps = c.extend.ensures.keeps }

pub returns-then-meets_worker-clause-done : goal.returns-then-meets_worker-clause-done
returns-then-meets_worker-clause-done c = let a = c.requires.ready in
    record {
      made = pass-took (facts (goal.at.returns-then-meets_worker-clause-done c).After-move_to) a.newests (open-b (goal.at.returns-then-meets_worker-clause-done c).Else-is_complete) c.if-mark-w.false c.claim_count-claims.ensures.value c.if-mark-eq0.false c.meets_worker.ensures c.if-meets_worker.true c.take_over.ensures.taken;
      keeps = c.take_over.ensures.keeps;
    }

pub overflow_add-b : goal.overflow_add-b
overflow_add-b c = omega (arith, c.requires.ready.job.sized.claims_most, c.next_claim-b.ensures.1)

pub set_awaited-requires : goal.set_awaited-requires
set_awaited-requires c = let a = c.requires.ready in
    let g = facts (goal.at.set_awaited-requires c).After-move_to in
    omega (arith, room _ _ a.table, a.job.sized.claims_most, g.low, g.worker, moved_length g, c.claim_count-claims.ensures.value)

pub returns-clause-done : goal.returns-clause-done
returns-clause-done c = let s = c.args.job.now in
    let a = c.requires.ready in
    let n = c.claim_count-claims.ensures.value in
    record {
      made = pass-waits (facts (goal.at.returns-clause-done c).After-move_to) a.newests (open-b (goal.at.returns-clause-done c).Else-is_complete) c.if-mark-w.false n c.if-mark-eq0.false c.meets_worker.ensures c.if-meets_worker.false c.set_awaited.ensures;
      keeps = await-keeps _ (job_ok s a.job) _ _ _ _ c.extend.ensures.keeps _ _ (n ∙ sym (sizes s).claims_are) c.set_awaited.ensures;
    }

pub shape_of-table-then-mark-eq0 : goal.shape_of-table-then-mark-eq0
shape_of-table-then-mark-eq0 c = c.open_newest.auto.table ∙ c.move_to.auto.table

pub shape_of-table-then-meets_worker : goal.shape_of-table-then-meets_worker
shape_of-table-then-meets_worker c = c.take_over.auto.table ∙ c.move_to.auto.table

pub shape_of-table : goal.shape_of-table
shape_of-table c = c.set_awaited.auto.table ∙ c.move_to.auto.table
