use Rattle.parts.proofs.Stating.{inside_is}
use Rattle.parts.proofs.bodies.inside.Goals as goal

pub returns : goal.returns
returns c = inside_is _ c.args.literal c.claim_of.ensures
