use native.Mathlib.Omega.{arith}
use Rattle.turn.proofs.Gathering.{job-claims}
use Rattle.turn.proofs.Jobs.{job_ok}
use Rattle.turn.proofs.KeptLaws.{outside-keeps, there-keeps, lacking-leads, joined_keeps}
use Rattle.turn.proofs.Worklist.{placed-no}
use Rattle.turn.proofs.HeldSet.extend.Goals as goal

pub bounds-self-c : goal.bounds-self-c
bounds-self-c c = omega (arith, c.requires.ready.1, c.requires.lacking.gathered.long, job-claims c.args.job.now)

pub returns-then-self-c-eq0-clause-keeps : goal.returns-then-self-c-eq0-clause-keeps
returns-then-self-c-eq0-clause-keeps c = outside-keeps _ (job_ok _ c.requires.ready.0.job) _ _ _ _ _ _ c.requires.lacking c.if-self-c-eq0.true

pub bounds-self-b : goal.bounds-self-b
bounds-self-b c = omega (arith, c.requires.ready.2, c.requires.lacking.gathered.long, job-claims c.args.job.now)

pub returns-then-self-b-ne0-clause-keeps : goal.returns-then-self-b-ne0-clause-keeps
returns-then-self-b-ne0-clause-keeps c = there-keeps _ (job_ok _ c.requires.ready.0.job) _ _ _ _ _ _ c.requires.lacking c.if-self-b-ne0.true

pub gather-count-requires : goal.gather-count-requires
gather-count-requires c = let p = c.requires.lacking in record { ready = c.requires.ready.0; claim_bound = (c.requires.ready.2, placed-no _ _ c.if-self-b-ne0.false); gathered = p.gathered; leading = lacking-leads _ (job_ok _ c.requires.ready.0.job) _ _ _ _ _ _ p }

pub returns-clause-keeps : goal.returns-clause-keeps
returns-clause-keeps c = joined_keeps _ (job_ok _ c.requires.ready.0.job) _ _ _ c.args.self.now.kept _ _ c.requires.lacking c.if-self-c-eq0.false (omega (arith, c.requires.ready.2, job-claims c.args.job.now)) c.gather-count.ensures
