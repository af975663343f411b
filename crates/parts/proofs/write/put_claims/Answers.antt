use mathlib.Core.Path.{refl, ◌∙◌}
use native.Mathlib.Omega.{arith}
use Rattle.parts.proofs.Claiming.{members-few, member_below, claiming-start, claiming-room, claiming_more, claiming_end}
use Rattle.parts.proofs.write.put_claims.Goals as goal

pub loop-i-init : goal.loop-i-init
loop-i-init c = claiming-start _ _ _ _ _ _ c.requires

pub put_claim-requires-clause-room : goal.put_claim-requires-clause-room
put_claim-requires-clause-room c = rw (c.of_accepted-job.ensures ∙ c.bytes.ensures.value) (claiming-room _ _ _ _ _ c.loop-i.invariant (omega arith) c.from.ensures)

pub loop-i-preserved : goal.loop-i-preserved
loop-i-preserved c = claiming_more _ _ _ _ _ c.loop-i.invariant (omega arith) c.from.ensures (rw (c.of_accepted-job.ensures ∙ c.bytes.ensures.value) at c.put_claim.ensures)

pub returns : goal.returns
returns c = let h = claiming_end _ _ _ _ _ c.loop-i.invariant (omega arith) in
    record { same_buffer = refl; put = grind (arith, h.put, h.same_buffer) }

pub put_claim-requires-clause-counts : goal.put_claim-requires-clause-counts
put_claim-requires-clause-counts c = let p = c.args.part.now in
    rw (c.of_accepted-job.ensures ∙ c.bytes.ensures.value) (member_below p.job.now _ _ p.placed p.numbered _ (omega arith) c.from.ensures, omega (arith, members-few p.job.now _ _ p.placed p.numbered, p.accepted.sized.claims_most))
