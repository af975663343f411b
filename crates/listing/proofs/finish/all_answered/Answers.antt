use Prim.Native.Nat.{◌<◌}
use mathlib.Core.Path.{refl}
use native.Mathlib.Omega.{arith}
use borrow.Author.Tests.{tests}
use Rattle.std.proofs.Common.{rules}
use Rattle.std.proofs.lemmas.Iterator.{YieldsList-from_range, cases_from_all, serves_from_Range}
use Rattle.job.specs.Format.{workers, job_of}
use Rattle.listing.proofs.Finishing.{Met, Short, each_worker}
use Rattle.listing.proofs.finish.all_answered.Goals as goal

pub all-requires-clause-callable : goal.all-requires-clause-callable
unfolding job_of
all-requires-clause-callable c = let p = c.requires in
    serves_from_Range (λ w q k. search rules)
    (λ w low high.
    let h : w < workers c.args.job.now = omega (arith, c.worker_count.ensures.value) in
    let e = c.claim_count-claims.ensures.value in
    let room = p.in_range.room in
    let few = p.listed.few in
    let rise = p.listed.rise w h in
    search rules)

pub returns : goal.returns
returns c = let s = c.args.job.now in
    let t = c.args.table.now in
    let a = c.args.asked.now in
    let l = c.requires.listed in
    let e = c.claim_count-claims.ensures.value in
    each_worker s t a l e
    (cases_from_all _ _ _ (Met s t a l e) (Short s t a l e) c.all.ensures.ran (YieldsList-from_range 0 c.worker_count.result (workers s) refl (omega (arith, c.worker_count.ensures.value))) (λ x q k. search (rules, tests)) (λ x q k. search (rules, tests)))
