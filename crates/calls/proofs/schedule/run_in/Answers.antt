use mathlib.Core.Path.{refl}
use native.Mathlib.Omega.{arith}
use lib.ListN.{drop_of_length-le}
use Rattle.base.proofs.Zeros.{zeros_at}
use Rattle.turn.proofs.Rooms.{same_room, room_on}
use Rattle.calls.specs.Calls.{tally}
use Rattle.calls.proofs.Running.{partly-start, partly_more, partly_end, named-next}
use Rattle.calls.proofs.schedule.run_in.Goals as goal

pub loop-worker-init : goal.loop-worker-init
loop-worker-init c = (partly-start _ _ _ _ _ c.requires.ready.0 c.requires.keeps refl (λ k. omega (arith, zeros_at 8 refl k)), same_room _)

pub loop-worker-preserved : goal.loop-worker-preserved
loop-worker-preserved c = let l = c.loop-worker in
    let some = c.loop-worker-test.true in
    let t = c.take_turn-kind in
    let same = t.ensures.same_room in (
      partly_more _ l.invariant.0 c.requires.ready.0.job (omega (arith, c.from-w.ensures, c.requires.named l.worker-index some)) t.ensures.done (named-next _ some c.from-w.ensures) c.counted-next.ensures same.members_long,
      room_on l.invariant.1 same,
    )

pub returns : goal.returns
unfolding tally
returns c = let both = partly_end _ c.loop-worker.invariant.0 (drop_of_length-le _ c.loop-worker-test.false) in record { value = both.0; table_after = both.1; same_room = c.loop-worker.invariant.1 }
