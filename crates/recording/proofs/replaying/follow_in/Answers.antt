use mathlib.Core.Path.{refl, sym, ◌∙◌}
use native.Mathlib.Omega.{arith}
use Rattle.turn.proofs.Rooms.{same_room, room_on}
use Rattle.recording.proofs.FollowLoop.{following-start, following-more, following-past, following-other, following-all}
use Rattle.recording.proofs.replaying.follow_in.Goals as goal

pub loop-i-init : goal.loop-i-init
loop-i-init c = (following-start _ _ _ _ c.requires.ready.0 c.requires.keeps refl, same_room _)

pub returns-then-workers-w-clause-followed : goal.returns-then-workers-w-clause-followed
returns-then-workers-w-clause-followed c = following-past _ _ _ _ c.requires.ready.0.job c.loop-i.invariant.0 c.loop-i-test.true c.from-w.ensures (omega (arith, c.if-workers-w.true, c.worker_count-workers.ensures.value))

pub returns-then-kind_number-from-clause-followed : goal.returns-then-kind_number-from-clause-followed
returns-then-kind_number-from-clause-followed c = following-other _ _ _ _ c.requires.ready.0.job c.loop-i.invariant.0 c.loop-i-test.true c.from-w.ensures (omega (arith, c.if-workers-w.false, c.worker_count-workers.ensures.value)) c.take_turn-kind.ensures.done
    (λ e. c.if-kind_number-from.true (c.kind_number.ensures.0 ∙ (e ∙ sym c.from.ensures)))

pub loop-i-preserved : goal.loop-i-preserved
loop-i-preserved c = let is = sym c.kind_number.ensures.0 ∙ (c.if-kind_number-from.false ∙ c.from.ensures) in
    let t = c.take_turn-kind.ensures in
    (following-more _ _ _ _ c.requires.ready.0.job c.loop-i.invariant.0 c.loop-i-test.true c.from-w.ensures (omega (arith, c.if-workers-w.false, c.worker_count-workers.ensures.value)) t.done is c.counted-next.ensures t.same_room.members_long, room_on c.loop-i.invariant.1 t.same_room)

pub returns-clause-followed : goal.returns-clause-followed
returns-clause-followed c = following-all _ _ _ _ c.loop-i.invariant.0 refl c.loop-i-test.false
