-- : nothing, or one field.
use native.Mathlib.Omega.{arith}
use Rattle.parts.proofs.LiteralsPut.{put-length, put_out, put-plain, put-negated}
use Rattle.parts.proofs.bodies.put_inside.Goals as goal

pub returns-in_default : goal.returns-in_default
returns-in_default c = put_out _ _ c.claim_of.ensures c.from.ensures _ (omega arith)

pub put_half-requires : goal.put_half-requires
put_half-requires c = omega (arith, c.requires.room, put-length c.args.place.now c.args.literal c.claim_of.ensures c.from.ensures c.in-Some.ensures)

pub put_half-requires-in-Negated : goal.put_half-requires-in-Negated
put_half-requires-in-Negated c = omega (arith, c.requires.room, put-length c.args.place.now c.args.literal c.claim_of.ensures c.from.ensures c.in-Some.ensures)

pub returns-in-Plain : goal.returns-in-Plain
returns-in-Plain c = put-plain _ _ c.claim_of.ensures c.from.ensures c.in-Some.ensures c.in-Plain.is c.put_half.ensures

pub returns-in-Negated : goal.returns-in-Negated
returns-in-Negated c = put-negated _ _ c.claim_of.ensures c.from.ensures c.in-Some.ensures c.in-Negated.is c.put_half-in-Negated.ensures
