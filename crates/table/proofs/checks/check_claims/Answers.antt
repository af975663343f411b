use native.Mathlib.Omega.{arith}
use Rattle.job.specs.Format.{job_of}
use Rattle.table.proofs.Each.{each_none, each_exit}
use Rattle.table.proofs.Ranges.{in-claim}
use Rattle.table.proofs.checks.check_claims.Goals as goal

pub returns-then-claims_fit : goal.returns-then-claims_fit
unfolding job_of
returns-then-claims_fit c = each_none _ _ (λ k l. in-claim _ _ k (c.claims_fit.ensures c.if-claims_fit.true k l))

pub returns-in_err-check_claim : goal.returns-in_err-check_claim
unfolding job_of
returns-in_err-check_claim c = each_exit _ _ c.loop-c.c (omega arith) c.loop-c.invariant c.from_residual.ensures.1 c.in_err-check_claim.ensures

pub returns : goal.returns
unfolding job_of
returns c = each_none _ _ (λ k l. c.loop-c.invariant k (omega arith))
