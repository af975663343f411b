use native.Mathlib.Omega.{arith}
use Rattle.job.specs.Bytes.{word}
use Rattle.job.proofs.bytes.word.Goals as goal

pub returns : goal.returns
unfolding word
returns c = omega arith
