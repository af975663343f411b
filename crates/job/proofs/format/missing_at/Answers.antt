use Prim.Native.Nat.{ℕ}
use mathlib.Core.Path.{ap}
use lib.Dec.{eqb}
use Rattle.job.specs.Job.{missing_length}
use Rattle.job.specs.Format.{missing_at}
use Rattle.job.proofs.format.missing_at.Goals as goal

pub returns : goal.returns
unfolding missing_at
returns c = ap (λ (x : ℕ). eqb x missing_length) c.half.ensures.value
