-- : records, literals, and the header before them.
use mathlib.Core.Path.{◌≡◌}
use native.Mathlib.Omega.{arith}
use Rattle.parts.proofs.PartPut.{records_fit, literals_fit, header-small, header-fits, part_put}
use Rattle.parts.proofs.write.put_part.Goals as goal
use Rattle.parts.proofs.write.put_part.Goals.{After-new}

pub put_claims-requires : goal.put_claims-requires
put_claims-requires c = records_fit c.args.part.now.job.now c.args.part.now.table.now c.args.part.now.place.now c.args.part.now.members.now c.args.out.now c.requires

pub put_claims-requires-2 : goal.put_claims-requires-2
put_claims-requires-2 c = literals_fit _ _ _ _ _ c.requires c.put_claims.ensures.put

pub put_header-requires-clause-size : goal.put_header-requires-clause-size
put_header-requires-clause-size c = omega (arith, header-small _ _ _ _ _ c.requires c.put_claims.ensures.put c.put_claims-2.ensures.put)

-- the new writer's buffer is as the other left it
front : (c : After-new) → c.new.result.buf.now ≡ c.put_claims-2.new.out.buf.now
front c = grind arith

pub put_header-requires-clause-room : goal.put_header-requires-clause-room
put_header-requires-clause-room c = header-fits _ _ _ _ _ c.requires c.put_claims.ensures.put c.put_claims-2.ensures.put c.new.result (front (goal.at.put_header-requires-clause-room c).After-new) c.new.ensures.at

pub returns : goal.returns
returns c =
    let h = part_put _ _ _ _ _ c.requires c.put_claims.ensures.put c.put_claims-2.ensures.put (front (goal.at.returns c).After-new) c.new.ensures.at c.put_header.ensures in
    grind (arith, h)
