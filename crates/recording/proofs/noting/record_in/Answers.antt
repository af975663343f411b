use Rattle.std.proofs.Common.{rules}
use mathlib.Core.Path.{refl, sym, ◌∙◌}
use native.Mathlib.Omega.{arith}
use lib.ListN.{drop_of_length-le}
use Rattle.base.proofs.Zeros.{zeros_at}
use Rattle.turn.proofs.Rooms.{same_room, room_on}
use Rattle.calls.specs.Calls.{tally}
use Rattle.calls.proofs.Running.{partly-start, partly_more, partly_end, named-next}
use Rattle.recording.proofs.Noted.{noted_none, noted-room, noted_more, noted_all}
use Rattle.recording.proofs.noting.record_in.Goals as goal

pub loop-worker-init : goal.loop-worker-init
loop-worker-init c = (partly-start _ _ _ _ _ c.requires.ready.0 c.requires.keeps refl (λ k. omega (arith, zeros_at 8 refl k)), noted_none _ _ _ _, same_room _)

pub put_pair-requires : goal.put_pair-requires
put_pair-requires c = let n = c.new-record.ensures in noted-room _ _ _ _ c.requires.fits n.bytes n.at c.loop-worker.invariant.1 c.loop-worker-test.true

pub loop-worker-preserved : goal.loop-worker-preserved
loop-worker-preserved c = let p = c.requires in
    let l = c.loop-worker in
    let some = c.loop-worker-test.true in
    let named = c.from-w.ensures in
    let n = c.new-record.ensures in
    let t = c.take_turn-kind.ensures in (
      partly_more _ l.invariant.0 p.ready.0.job (omega (arith, named, p.named l.worker-index some)) t.done (named-next _ some named) c.counted-next.ensures t.same_room.members_long,
      noted_more _ _ _ _ p.fits n.bytes n.at l.invariant.1 some named t.done.made c.put_pair.ensures,
      room_on l.invariant.2 t.same_room,
    )

pub returns-clause-value : goal.returns-clause-value
unfolding tally
returns-clause-value c = (partly_end _ c.loop-worker.invariant.0 (drop_of_length-le _ c.loop-worker-test.false)).0

pub returns-clause-table_after : goal.returns-clause-table_after
returns-clause-table_after c = (partly_end _ c.loop-worker.invariant.0 (drop_of_length-le _ c.loop-worker-test.false)).1

pub returns-clause-buffer_after : goal.returns-clause-buffer_after
returns-clause-buffer_after c = let i = c.loop-worker.invariant.1 in
    let n = c.new-record.ensures in
    let same = sym (i.same_buffer ∙ n.same_buffer) in
    let all = noted_all _ _ _ _ c.requires.fits n.bytes n.at i c.loop-worker-test.false in
    search rules

pub returns-clause-same_room : goal.returns-clause-same_room
returns-clause-same_room c = c.loop-worker.invariant.2
