use Prim.Native.Nat.{◌<◌}
use mathlib.Core.Path.{refl, sym, subst, ◌∙◌}
use native.Mathlib.Omega.{arith}
use lib.ListN.{length, length-set}
use Rattle.job.specs.Format.{claims}
use Rattle.job.specs.Job.{most_claims}
use Rattle.turn.specs.Gather.{Gathered}
use Rattle.turn.proofs.Gathering.{job-claims, gathering-top, passed-few, passed_words, passed_start, passed-room, passed-literals, gathering-room, gathering-start, next_low, gathering_more, gathering_done}
use Rattle.turn.proofs.gather.gather.Goals as goal
use Rattle.turn.proofs.gather.gather.Goals.{After-from, Start, In-loop-i}

-- the set at entry
entry : (c : Start) → Gathered (claims c.args.job.now) (record { place = c.args.place.now; members = c.args.members.now; top = c.args.count })
entry c = subst (λ n. Gathered n (record { place = c.args.place.now; members = c.args.members.now; top = c.args.count })) (job-claims c.args.job.now) c.requires.gathered

room : (c : Start) → (c.args.count < length c.args.members.now) × (c.args.count < claims c.args.job.now)
room c = gathering-room _ _ _ _ (entry c) c.requires.claim_bound.0 c.requires.claim_bound.1 c.requires.leading

few : (c : Start) → c.args.count < most_claims
few c = omega (arith, room c, (entry c).few)

-- the queue is no longer than there are claims
within : (c : In-loop-i) → (c.loop-i.i < claims c.args.job.now) × (c.loop-i.i < most_claims) × (c.loop-i.i < length c.loop-i.members)
within c =
    let g = c.loop-i.invariant.1 in
    omega (arith, gathering-top g, c.loop-i-test.true, g.fits.few, g.fits.wide)

-- the claim at place i of the queue
low : (c : After-from) → c.from.result < claims c.args.job.now
low c = next_low _ _ _ c.requires.ready _ _ _ _ c.loop-i.invariant.1 c.loop-i-test.true _ c.from.ensures

pub overflow_add-top : goal.overflow_add-top
overflow_add-top c = omega (arith, few (goal.at.overflow_add-top c).Start)

pub overflow_cast-place : goal.overflow_cast-place
overflow_cast-place c = omega (arith, few (goal.at.overflow_cast-place c).Start)

pub offset_bounds-place-claim : goal.offset_bounds-place-claim
offset_bounds-place-claim c = omega (arith, c.requires.claim_bound.0, (entry (goal.at.offset_bounds-place-claim c).Start).few)

pub bounds-place-claim : goal.bounds-place-claim
bounds-place-claim c = omega (arith, c.requires.claim_bound.0, (entry (goal.at.bounds-place-claim c).Start).long)

pub overflow_cast-members : goal.overflow_cast-members
overflow_cast-members c = omega (arith, c.requires.claim_bound.0, (entry (goal.at.overflow_cast-members c).Start).few)

pub offset_bounds-members-i : goal.offset_bounds-members-i
offset_bounds-members-i c = omega (arith, few (goal.at.offset_bounds-members-i c).Start)

pub bounds-members-i : goal.bounds-members-i
bounds-members-i c = (room (goal.at.bounds-members-i c).Start).0

pub loop-i-init : goal.loop-i-init
loop-i-init c = (refl, gathering-start _ _ _ _ (entry (goal.at.loop-i-init c).Start) c.requires.claim_bound.0 c.requires.claim_bound.1 c.requires.leading)

pub offset_bounds-members-i-in-loop-i : goal.offset_bounds-members-i-in-loop-i
offset_bounds-members-i-in-loop-i c = omega (arith, within (goal.at.offset_bounds-members-i-in-loop-i c).In-loop-i)

pub bounds-members-i-in-loop-i : goal.bounds-members-i-in-loop-i
bounds-members-i-in-loop-i c = (within (goal.at.bounds-members-i-in-loop-i c).In-loop-i).2

pub passed_over-from-requires : goal.passed_over-from-requires
passed_over-from-requires c = let r = c.requires.ready in
    let l = low (goal.at.passed_over-from-requires c).After-from in
    (passed-few _ _ _ r _ l, passed_words _ _ _ r _ l, passed_start _ _ _ r _ l)

pub expand-top-requires : goal.expand-top-requires
expand-top-requires c = let f = c.loop-i.invariant.1.fits in
    let l = low (goal.at.expand-top-requires c).After-from in
    record {
      room = passed-room _ _ _ c.requires.ready _ l _ refl _ c.passed_over-from.ensures _ _ f.long f;
      literals = passed-literals _ _ _ c.requires.ready _ l _ refl _ c.passed_over-from.ensures;
    }

pub overflow_add-i : goal.overflow_add-i
overflow_add-i c = omega (arith, within (goal.at.overflow_add-i c).In-loop-i)

pub loop-i-smaller : goal.loop-i-smaller
loop-i-smaller c = omega (arith, within (goal.at.loop-i-smaller c).In-loop-i)

pub loop-i-preserved : goal.loop-i-preserved
loop-i-preserved c = let l = c.loop-i in
    let x = c.expand-top in
    (x.auto.members ∙ l.invariant.0, gathering_more _ _ _ c.requires.ready _ _ _ _ l.invariant.1 c.loop-i-test.true _ c.from.ensures _ refl _ c.passed_over-from.ensures _ x.ensures)

pub shape_of-place : goal.shape_of-place
shape_of-place c = c.loop-i.invariant.1.fits.long ∙ sym (entry (goal.at.shape_of-place c).Start).long

pub shape_of-members : goal.shape_of-members
shape_of-members c = c.loop-i.invariant.0 ∙ length-set c.args.members.now _ _

pub returns : goal.returns
returns c = gathering_done _ _ _ c.requires.ready (record { place = c.args.place.now; members = c.args.members.now; top = c.args.count }) _ c.requires.claim_bound.0 (entry (goal.at.returns c).Start) _ _ c.loop-i.invariant.1 c.loop-i-test.false
