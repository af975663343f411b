use Prim.Native.Nat.{ℕ, ◌+◌, ◌-◌, ◌<◌}
use mathlib.Core.Path.{◌≡◌, sym, ◌∙◌, ap}
use native.Mathlib.Omega.{arith}
use Rattle.job.specs.Format.{job_of}
use Rattle.table.specs.Layout.{true_mark, awaited}
use Rattle.turn.proofs.Tests.{complete-yes, complete-no}
use Rattle.turn.proofs.Following.{awaited-read, met, no_moves, awaits_none, at-fresh, at-complete, moves, room, awaited_most, open-owner}
use Rattle.turn.specs.Turn.{meets}
use Rattle.turn.proofs.owners.meets_worker.Goals as goal
use Rattle.turn.proofs.owners.meets_worker.Goals.{In-loop, After-awaited_at-awaited}

-- how many moves are left
abbrev left : (c : In-loop) → ℕ
left c = c.worker_count-workers.result - c.loop.counter

some : (c : In-loop) → 0 < left c
some c = omega (arith, c.loop-test.true)

-- the claim that is awaited + 1, as it was read
read : (c : After-awaited_at-awaited) → c.awaited_at-awaited.result ≡ awaited (job_of c.args.job.now) c.args.table.now c.loop.at
read c = awaited-read c.args.job.now c.args.table.now c.loop.at c.claim_count-claims.ensures.value c.awaited_at-awaited.ensures.value

pub returns-then-at-w : goal.returns-then-at-w
returns-then-at-w c = met (job_of c.args.job.now) c.args.table.now c.args.w _ c.loop.at c.if-at-w.true ∙ sym c.loop.invariant.1

pub awaited_at-awaited-requires : goal.awaited_at-awaited-requires
awaited_at-awaited-requires c = let l = c.loop.invariant.0 in omega (arith, room c.args.job.now c.args.table.now c.requires.0)

pub returns-then-awaited-eq0 : goal.returns-then-awaited-eq0
returns-then-awaited-eq0 c = let g = goal.at.returns-then-awaited-eq0 c in
    awaits_none (job_of c.args.job.now) c.args.table.now c.args.w (left g.In-loop) c.loop.at (some g.In-loop) c.if-at-w.false (read g.After-awaited_at-awaited) c.if-awaited-eq0.true ∙ sym c.loop.invariant.1

pub mark_at-mark-requires : goal.mark_at-mark-requires
mark_at-mark-requires c = let s = c.args.job.now in
    let t = c.args.table.now in
    let r = c.requires.0 in
    let a = read (goal.at.mark_at-mark-requires c).After-awaited_at-awaited in
    omega (arith, room s t r, awaited_most s t r c.loop.at c.loop.invariant.0)

pub returns-then-mark-eq0 : goal.returns-then-mark-eq0
returns-then-mark-eq0 c = let g = goal.at.returns-then-mark-eq0 c in
    at-fresh (job_of c.args.job.now) c.args.table.now c.args.w (left g.In-loop) c.loop.at (some g.In-loop) c.if-at-w.false (read g.After-awaited_at-awaited) c.if-awaited-eq0.false c.mark_at-mark.ensures.value c.if-mark-eq0.true ∙ sym c.loop.invariant.1

pub returns-then-is_complete : goal.returns-then-is_complete
returns-then-is_complete c = let g = goal.at.returns-then-is_complete c in
    at-complete (job_of c.args.job.now) c.args.table.now c.args.w (left g.In-loop) c.loop.at (some g.In-loop) c.if-at-w.false (read g.After-awaited_at-awaited) c.if-awaited-eq0.false c.mark_at-mark.ensures.value c.if-mark-eq0.false (complete-yes c.is_complete.ensures c.if-is_complete.true) ∙ sym c.loop.invariant.1

pub loop-preserved : goal.loop-preserved
loop-preserved c = let s = c.args.job.now in
    let t = c.args.table.now in
    let r = c.requires.0 in
    let l = c.loop in
    let g = goal.at.loop-preserved c in
    let a = read g.After-awaited_at-awaited in
    let m = c.mark_at-mark.ensures.value in
    let n : c.mark_at-mark.result < true_mark = complete-no c.is_complete.ensures c.if-is_complete.false in
    let h = awaited_most s t r l.at l.invariant.0 in
    let o = open-owner s t r (c.awaited_at-awaited.result - 1) (omega arith) (omega (arith, n, m)) in
    let e : left g.In-loop - 1 ≡ c.worker_count-workers.result - (l.counter + 1) = omega arith in
    (omega arith, l.invariant.1 ∙ moves (job_of s) t c.args.w (left g.In-loop) l.at (some g.In-loop) c.if-at-w.false a c.if-awaited-eq0.false m c.if-mark-eq0.false n ∙ ap (λ (k : ℕ). meets k (job_of s) t c.args.w (c.mark_at-mark.result - 1)) e)

pub returns : goal.returns
returns c = no_moves (job_of c.args.job.now) c.args.table.now c.args.w (c.worker_count-workers.result - c.loop.counter) c.loop.at (omega (arith, c.loop-test.false)) ∙ sym c.loop.invariant.1
