use Prim.Native.Nat.{ℕ, ◌+◌, ◌<◌}
use mathlib.Core.Path.{refl}
use native.Mathlib.Omega.{arith}
use lib.ListN.{length, length-take}
use Rattle.base.proofs.ByteSets.{set-yes, set-no}
use Rattle.counters.proofs.Queues.{same_room-none, same_room-by, queue-top}
use Rattle.counters.proofs.Doubting.{Read, doubted-read}
use Rattle.counters.proofs.Losing.{losing-start, losing-room, losing_push, losing_skip, losing-is, losing_done}
use Rattle.counters.proofs.recover.lose.Goals as goal
use Rattle.counters.proofs.recover.lose.Goals.{then-u-from-eq0, else-u-from-eq0, After-from, Then-u-from-eq0}

pub offset_bounds-list-from : goal.offset_bounds-list-from
offset_bounds-list-from c = let d = c.requires.doubted.0 in omega (arith, queue-top d.queue, d.ordered)

pub slice_bounds-key-items-end : goal.slice_bounds-key-items-end
slice_bounds-key-items-end c = let d = c.requires.doubted.0 in omega (arith, queue-top d.queue, d.queue.long)

pub loop-key-init : goal.loop-key-init
loop-key-init c = (losing-start _ (omega arith) c.requires.doubted.0 c.requires.doubted.1 c.requires.no_negated, same_room-none _)

-- the key that was read
read : (c : After-from) → Read (length c.args.u.now) c.args.list.now.keys.now (c.args.from + c.loop-key.key-index) c.from.result
read c = doubted-read c.requires.doubted.0 c.loop-key.key-index _ (omega (arith, length-take {A = ℕ})) c.from.ensures

-- there is room for one more key
room : (c : Then-u-from-eq0) → c.loop-key.queue.len < length c.loop-key.queue.keys.now
room c =
    let at = read (goal.at.Then-u-from-eq0 c).After-from in
    losing-room c.requires.doubted.0 c.loop-key.invariant.0 (omega arith) (omega (arith, length-take {A = ℕ})) _ at.is

pub overflow_add-key : goal.overflow_add-key
overflow_add-key c = let at = read (goal.at.overflow_add-key c).After-from in omega (arith, at, c.from.ensures)

pub push-requires : goal.push-requires
push-requires c = record { room = room (goal.at.push-requires c).Then-u-from-eq0 }

pub loop-key-preserved : goal.loop-key-preserved
loop-key-preserved c = let d = c.requires.doubted.0 in
    let at = read (goal.at.loop-key-preserved c).After-from in
    let inside : c.args.from + c.loop-key.key-index < c.args.list.now.len = omega (arith, length-take {A = ℕ}) in
    elim c.if-u-from-eq0.branch [
      | then-u-from-eq0 w ↦
          rw w.queue-is (
            losing-is (omega arith) w.push.ensures.keys w.push.ensures.len
                (losing_push d c.loop-key.invariant.0 (omega arith) inside _ at.is _ (omega (arith, at, c.from.ensures)) (set-no _ _ w.if-u-from-eq0.true)),
            same_room-by c.loop-key.invariant.1 w.push.ensures.same_room,
          )
      | else-u-from-eq0 w ↦
          rw w.queue-is
          (losing-is (omega arith) refl refl (losing_skip d c.loop-key.invariant.0 (omega arith) inside _ at.is (set-yes _ _ w.if-u-from-eq0.false)), c.loop-key.invariant.1)
    ]

pub returns-clause-lost : goal.returns-clause-lost
returns-clause-lost c = losing_done c.loop-key.invariant.0 (omega (arith, length-take {A = ℕ}))
