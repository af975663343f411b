use mathlib.Core.Path.{refl, ◌∙◌}
use native.Mathlib.Omega.{arith}
use Rattle.makejob.specs.Pieces.{from_line}
use Rattle.makejob.proofs.Scans.{feeds_step, feeds_none}
use Rattle.makejob.proofs.line.from_line.Goals as goal

pub loop-init : goal.loop-init
unfolding from_line
loop-init c = refl

pub loop-preserved : goal.loop-preserved
loop-preserved c = let l = c.loop in feeds_step _ _ c.args.line l.counter (omega arith) c.behind_feed-rest.ensures ∙ l.invariant

pub returns : goal.returns
returns c = let l = c.loop in feeds_none _ (omega arith) ∙ l.invariant
