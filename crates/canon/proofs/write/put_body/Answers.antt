use mathlib.Core.Path.{ap}
use mathlib.Core.List.{flat_map}
use Rattle.job.specs.Encoding.{half_bytes}
use Rattle.writing.proofs.Writing.{writes_as}
use Rattle.canon.proofs.Records.{body-room}
use Rattle.canon.proofs.write.put_body.Goals as goal

pub put_literals-requires : goal.put_literals-requires
put_literals-requires c = body-room _ _ _ _ _ c.kept.ensures _ _ c.requires.room

pub returns : goal.returns
returns c = writes_as c.put_literals.ensures (ap (flat_map (λ x. half_bytes x)) c.kept.ensures)
