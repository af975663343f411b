use native.Mathlib.Omega.{arith}
use borrow.Author.Tests.{tests}
use Rattle.std.proofs.Common.{rules, ℕ, ◌≤◌, ◌<◌}
use Rattle.std.proofs.lemmas.Iterator.{IsFirst-from_position, YieldsList-from_slice}
use Rattle.base.proofs.Compare.{not_below-yes, not_below-no}
use Rattle.job.proofs.Rows.{scan_none, scan_at}
use Rattle.calls.specs.Calls.{check_schedule}
use Rattle.calls.proofs.schedule.check_schedule.Goals as goal

pub returns-in-Some : goal.returns-in-Some
unfolding check_schedule
returns-in-Some c = let n = c.worker_count-workers.result in
    let first = IsFirst-from_position _ _ _ (λ (w : ℕ). n ≤ w) (λ (w : ℕ). w < n) c.in-Some.ensures.ran (YieldsList-from_slice c.args.schedule.now cc) (λ x q k. search (rules, tests)) (λ x q k. search (rules, tests)) in
    scan_at _ _ _ _ _ first.0 (λ k h. not_below-no _ _ (omega (arith, first.2 k 0, c.worker_count-workers.ensures.value))) (not_below-yes _ _ (omega (arith, first.1 0, c.worker_count-workers.ensures.value)))

pub returns-in-None : goal.returns-in-None
unfolding check_schedule
returns-in-None c = let n = c.worker_count-workers.result in
    let none = IsFirst-from_position _ _ _ (λ (w : ℕ). n ≤ w) (λ (w : ℕ). w < n) c.in-None.ensures.ran (YieldsList-from_slice c.args.schedule.now cc) (λ x q k. search (rules, tests)) (λ x q k. search (rules, tests)) in
    scan_none _ _ _ _ (λ k h. not_below-no _ _ (omega (arith, none k 0, c.worker_count-workers.ensures.value)))
