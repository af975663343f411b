use Prim.Native.Nat.{ℕ, ◌+◌}
use mathlib.Core.Path.{refl}
use native.Mathlib.Omega.{arith}
use lib.ListN.{length-take}
use Rattle.job.specs.Format.{claims}
use Rattle.counters.proofs.Queues.{same_room-none, same_room-by, queue-top}
use Rattle.counters.proofs.Doubting.{Read, doubted-read}
use Rattle.counters.proofs.Recovering.{recovering-start, recovering-room, recovering-join, recovering_skip, recovering-is, recovering_done}
use Rattle.counters.proofs.recover.recover.Goals as goal
use Rattle.counters.proofs.recover.recover.Goals.{After-from-c, then-standing, else-standing}

pub offset_bounds-list-from : goal.offset_bounds-list-from
offset_bounds-list-from c = let d = c.requires.doubted.1 in omega (arith, queue-top d.queue, d.ordered)

pub slice_bounds-key-items-end : goal.slice_bounds-key-items-end
slice_bounds-key-items-end c = let d = c.requires.doubted.1 in omega (arith, queue-top d.queue, d.queue.long)

pub loop-key-init : goal.loop-key-init
loop-key-init c = (recovering-start _ _ _ _ _ _ _ (omega arith) c.requires.sizes.0 c.requires.sizes.1, same_room-none _)

-- the key that was read
read : (c : After-from-c) → Read (claims c.args.job.now) c.args.list.now.keys.now (c.args.from + c.loop-key.key-index) c.from-c.result
read c = doubted-read c.requires.doubted.1 c.loop-key.key-index _ (omega (arith, length-take {A = ℕ})) c.from-c.ensures

pub standing-requires : goal.standing-requires
standing-requires c = record { ends = c.requires.ends; claim = ((read (goal.at.standing-requires c).After-from-c).small, c.requires.doubted.0) }

pub join-requires-clause-room : goal.join-requires-clause-room
join-requires-clause-room c = recovering-room c.loop-key.invariant.0 _ (read (goal.at.join-requires-clause-room c).After-from-c).small

pub loop-key-preserved : goal.loop-key-preserved
loop-key-preserved c = let at = read (goal.at.loop-key-preserved c).After-from-c in
    elim c.if-standing.branch [
      | then-standing w ↦
          rw (w.u-is, w.queue-is) (
            recovering-is (omega arith) refl refl refl
                (recovering-join c.loop-key.invariant.0 _ at.is at.small (c.standing.ensures.0 w.if-standing.true) w.join.ensures.joined),
            same_room-by c.loop-key.invariant.1 w.join.ensures.same_room,
          )
      | else-standing w ↦
          rw (w.u-is, w.queue-is)
          (recovering-is (omega arith) refl refl refl (recovering_skip c.loop-key.invariant.0 _ at.is (c.standing.ensures.1 w.if-standing.false)), c.loop-key.invariant.1)
    ]

pub returns-clause-recovered : goal.returns-clause-recovered
returns-clause-recovered c = recovering_done c.loop-key.invariant.0 c.requires.doubted.1 (omega (arith, length-take {A = ℕ}))
