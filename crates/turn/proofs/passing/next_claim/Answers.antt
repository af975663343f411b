use mathlib.Core.Path.{◌∙◌, ap}
use native.Mathlib.Omega.{arith}
use Rattle.job.specs.Job.{claim_of}
use Rattle.turn.proofs.passing.next_claim.Goals as goal

pub returns : goal.returns
returns c = (c.claim_of.ensures ∙ ap claim_of c.current.ensures.value, omega (arith, c.claim_of.ensures, c.current.ensures.below))
