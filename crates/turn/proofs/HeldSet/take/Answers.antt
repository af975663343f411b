use Rattle.turn.proofs.Marking.{taken-front}
use Rattle.turn.proofs.Members.{front-places}
use Rattle.turn.proofs.HeldSet.take.Goals as goal

pub take_members-requires : goal.take_members-requires
take_members-requires c = (front-places c.requires.0.many c.requires.0, c.requires.1)

pub returns : goal.returns
returns c = taken-front c.requires.0.many c.take_members.ensures
