use native.Mathlib.Omega.{arith}
use Rattle.job.specs.Bytes.{half}
use Rattle.job.proofs.bytes.half.Goals as goal

pub returns : goal.returns
unfolding half
returns c = omega arith
