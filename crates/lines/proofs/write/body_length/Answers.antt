use Rattle.lines.proofs.Bodies.{until-length, body-length}
use Rattle.lines.proofs.write.body_length.Goals as goal

pub returns : goal.returns
returns c = let b = c.before_head.ensures in body-length _ _ _ c.requires b.fits (until-length _ _ b.fits b.before b.found)
