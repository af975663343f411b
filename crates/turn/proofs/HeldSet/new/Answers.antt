use mathlib.Core.Path.{subst⁻¹}
use Rattle.turn.specs.KeptSet.{Keeps}
use Rattle.turn.specs.declared.Kept.{Kept}
use Rattle.turn.proofs.KeptLaws.{nothing-keeps}
use Rattle.turn.proofs.HeldSet.new.Goals as goal

pub returns-clause-keeps : goal.returns-clause-keeps
returns-clause-keeps c j t few long wide = subst⁻¹ (λ (x : Kept). Keeps j t x c.args.place.now c.args.members.now) c.nothing.ensures (nothing-keeps j t _ _ c.requires.zeros few long wide)
