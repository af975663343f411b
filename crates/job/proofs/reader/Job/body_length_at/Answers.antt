use native.Mathlib.Omega.{arith}
use Rattle.job.proofs.Parts.{within-literals}
use Rattle.job.proofs.reader.Job.body_length_at.Goals as goal

pub returns-clause-within : goal.returns-clause-within
returns-clause-within c = rw (← c.self.view_is) (omega (arith, within-literals _ c.self.invariant.accepted c.args.i (rw c.self.view_is c.requires)))
