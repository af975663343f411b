use mathlib.Core.Path.{refl, ◌∙◌, ap}
use native.Mathlib.Omega.{arith}
use Rattle.job.proofs.Parts.{body_start-next}
use Rattle.job.specs.Format.{body_start}
use Rattle.job.proofs.checks.sum_of_lengths.Goals as goal

pub loop-i-init : goal.loop-i-init
unfolding body_start
loop-i-init c = (omega arith, refl, omega arith)

pub loop-i-preserved : goal.loop-i-preserved
loop-i-preserved c = (omega arith, omega (arith, body_start-next c.args.job.now c.loop-i.i), omega arith)

pub returns : goal.returns
returns c = c.loop-i.invariant.1 ∙ ap (body_start c.args.job.now) (omega arith)
