use mathlib.Core.Path.{◌∙◌, ap}
use native.Mathlib.Omega.{arith}
use lib.ListN.{length, length-take}
use Rattle.semantics.specs.Model.{byte_of}
use Rattle.base.proofs.Written.{written_start, written-more}
use Rattle.model.specs.Output.{judged_byte}
use Rattle.model.proofs.Written.{written-front}
use Rattle.model.proofs.verdicts.write.Goals as goal

pub loop-c-init : goal.loop-c-init
loop-c-init c = written_start _ _

pub loop-c-preserved : goal.loop-c-preserved
unfolding judged_byte
loop-c-preserved c = written-more _ _ _ _ _ c.loop-c.invariant (c.into.ensures ∙ ap byte_of c.verdict_of.ensures) (omega arith)

pub returns : goal.returns
returns c = written-front _ _ _ _ _ c.requires (omega (arith, length-take (length c.args.k.now) c.args.out.now)) c.loop-c.invariant
