use Prim.Native.Nat.{ℕ}
use mathlib.Core.Path.{◌≡◌, subst}
use mathlib.Core.List.{List}
use native.Mathlib.Omega.{arith}
use Rattle.job.specs.Format.{claims as claims_of, job_of}
use Rattle.table.proofs.Each.{each_none, each_exit}
use Rattle.table.proofs.Sizes.{sizes}
use Rattle.table.specs.Newest.{Searched}
use Rattle.table.proofs.checks.check_workers.Goals as goal

pub newest_claims-newests-requires : goal.newest_claims-newests-requires
newest_claims-newests-requires c = let z = sizes c.args.job.now in omega arith

-- what the search found, in the terms of the job
searched : (s : List ℕ) {t ns : List ℕ} {n : ℕ} → n ≡ claims_of s → Searched n t ns → Searched (job_of s).claims t ns
unfolding job_of
searched s {t} {ns} e r = subst (λ (a : ℕ). Searched a t ns) e r

pub check_worker-requires-clause-searched : goal.check_worker-requires-clause-searched
check_worker-requires-clause-searched c = searched c.args.job.now c.claim_count.ensures.value c.newest_claims-newests.ensures

pub returns-in_err-check_worker : goal.returns-in_err-check_worker
unfolding job_of
returns-in_err-check_worker c = each_exit _ _ c.loop-w.w (omega arith) c.loop-w.invariant c.from_residual.ensures.1 c.in_err-check_worker.ensures

pub returns : goal.returns
unfolding job_of
returns c = each_none _ _ (λ k l. c.loop-w.invariant k (omega arith))
