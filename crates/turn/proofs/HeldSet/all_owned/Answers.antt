use Rattle.turn.proofs.Members.{front-places}
use Rattle.turn.proofs.Sweeps.{owns-front}
use Rattle.turn.proofs.HeldSet.all_owned.Goals as goal

pub all_owned-requires : goal.all_owned-requires
all_owned-requires c = (front-places c.requires.0.many c.requires.0, c.requires.1)

pub returns : goal.returns
returns c = owns-front c.requires.0.many c.all_owned.ensures
