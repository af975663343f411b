use Prim.Native.Nat.{◌<◌}
use native.Mathlib.Omega.{arith}
use lib.ListN.{length}
use Rattle.base.proofs.Bools.{is-not}
use Rattle.job.specs.Job.{most_claims}
use Rattle.turn.proofs.Tests.{complete-yes, complete-no}
use Rattle.turn.proofs.Worklist.{placed-yes, placed-no, visit-complete, visit-there, visit_push, push-room}
use Rattle.turn.proofs.gather.visit.Goals as goal
use Rattle.turn.proofs.gather.visit.Goals.{Else-place-b-ne0}

-- a claim that is to be pushed has room
room : (c : Else-place-b-ne0) → (c.args.top < length c.args.members.now) × (c.args.top < most_claims)
room c =
    let r = push-room _ _ c.args.b c.requires.2 c.requires.0 (is-not _ (placed-no _ _ c.if-place-b-ne0.false)) in
    (r.0, omega (arith, r.1, c.requires.2.few))

pub returns-then-is_complete : goal.returns-then-is_complete
returns-then-is_complete c = visit-complete _ _ _ _ c.mark_at.ensures.value (complete-yes c.is_complete.ensures c.if-is_complete.true)

pub returns-then-place-b-ne0 : goal.returns-then-place-b-ne0
returns-then-place-b-ne0 c = visit-there _ _ _ _ c.mark_at.ensures.value (complete-no c.is_complete.ensures c.if-is_complete.false) (placed-yes _ _ c.if-place-b-ne0.true)

pub overflow_add-place : goal.overflow_add-place
overflow_add-place c = omega (arith, room (goal.at.overflow_add-place c).Else-place-b-ne0)

pub overflow_cast-place : goal.overflow_cast-place
overflow_cast-place c = omega (arith, room (goal.at.overflow_cast-place c).Else-place-b-ne0)

pub offset_bounds-members-top : goal.offset_bounds-members-top
offset_bounds-members-top c = omega (arith, room (goal.at.offset_bounds-members-top c).Else-place-b-ne0)

pub bounds-members-top : goal.bounds-members-top
bounds-members-top c = (room (goal.at.bounds-members-top c).Else-place-b-ne0).0

pub overflow_add-result : goal.overflow_add-result
overflow_add-result c = omega (arith, room (goal.at.overflow_add-result c).Else-place-b-ne0)

pub returns : goal.returns
returns c = visit_push _ _ _ _ c.mark_at.ensures.value (complete-no c.is_complete.ensures c.if-is_complete.false) (placed-no _ _ c.if-place-b-ne0.false)
