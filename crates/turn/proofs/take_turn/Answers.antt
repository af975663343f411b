use Prim.Native.Nat.{◌+◌}
use mathlib.Core.Path.{◌≡◌, ◌∙◌}
use native.Mathlib.Omega.{arith}
use Rattle.turn.proofs.WholeTurn.{asks, works, newest-sought}
use Rattle.turn.proofs.Following.{room, awaited-read, newest-read}
use Rattle.turn.proofs.KeptTurns.{done_through}
use Rattle.turn.proofs.ThirdWords.{kept_low}
use Rattle.turn.proofs.take_turn.Goals as goal
use Rattle.turn.proofs.take_turn.Goals.{In-Some-checked_sub}

pub awaited_at-requires : goal.awaited_at-requires
awaited_at-requires c = omega (arith, room c.args.job.now c.args.table.now c.requires.ready.table, c.requires.w_bound)

pub wait_turn-requires-clause-awaits : goal.wait_turn-requires-clause-awaits
wait_turn-requires-clause-awaits c = let e : c.in-Some.claim + 1 ≡ c.awaited_at.result = omega (arith, c.in-Some.ensures) in
    e ∙ awaited-read c.args.job.now c.args.table.now c.args.w c.claim_count-claims.ensures.value c.awaited_at.ensures.value

pub returns-in-Some-clause-done : goal.returns-in-Some-clause-done
returns-in-Some-clause-done c = c.wait_turn.ensures _ _ _ c.requires.keeps

pub newest_at-requires : goal.newest_at-requires
newest_at-requires c = omega (arith, room c.args.job.now c.args.table.now c.requires.ready.table, c.requires.w_bound, c.claim_count-claims.ensures.value)

pub returns-in_default-checked_sub-clause-done : goal.returns-in_default-checked_sub-clause-done
returns-in_default-checked_sub-clause-done c = let s = c.args.job.now in
    let t = c.args.table.now in
    let p = c.requires in
    let n = c.claim_count-claims.ensures.value in
    let e = awaited-read s t c.args.w n c.awaited_at.ensures.value in
    done_through (asks s t c.args.w p.ready.newests e (omega (arith, c.in_default.ensures)) p.w_bound (newest-read s t c.args.w n c.newest_at.ensures.value) (omega (arith, c.in_default-checked_sub.ensures))) c.ask_turn.ensures.done

-- the newest claim is below the word
newest : (c : In-Some-checked_sub) → c.newest_at.result ≡ c.in-Some-checked_sub.n + 1
newest c = omega (arith, c.in-Some-checked_sub.ensures)

pub work_turn-requires-clause-n_bound : goal.work_turn-requires-clause-n_bound
work_turn-requires-clause-n_bound c = let s = c.args.job.now in
    let t = c.args.table.now in
    let p = c.requires in
    let n = c.claim_count-claims.ensures.value in
    let v = c.newest_at.ensures.value in
    let q = newest (goal.at.work_turn-requires-clause-n_bound c).In-Some-checked_sub in
    (omega (arith, q, v, n, kept_low s t p.ready.newests c.args.w p.w_bound n), p.w_bound, newest-sought s t c.args.w p.ready.newests p.w_bound (newest-read s t c.args.w n v) _ q)

pub returns-clause-done : goal.returns-clause-done
returns-clause-done c = let s = c.args.job.now in
    let t = c.args.table.now in
    let p = c.requires in
    let n = c.claim_count-claims.ensures.value in
    let e = awaited-read s t c.args.w n c.awaited_at.ensures.value in
    done_through (works s t c.args.w p.ready.newests e (omega (arith, c.in_default.ensures)) p.w_bound (newest-read s t c.args.w n c.newest_at.ensures.value) _ (newest (goal.at.returns-clause-done c).In-Some-checked_sub)) c.work_turn.ensures.done
