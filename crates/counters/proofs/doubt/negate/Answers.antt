use Prim.Native.Nat.{ℕ, ◌<◌}
use mathlib.Core.Path.{◌≡◌, subst}
use native.Mathlib.Omega.{arith}
use lib.ListN.{get_or, take, length-take}
use Rattle.std.proofs.lemmas.List.{get_or-take}
use Rattle.counters.specs.Doubts.{Negations}
use Rattle.counters.proofs.Queues.{same_room-none, same_room-by}
use Rattle.counters.proofs.Negating.{negations-start, negations-odd, negations_even}
use Rattle.counters.proofs.doubt.negate.Goals as goal
use Rattle.counters.proofs.doubt.negate.Goals.{then-key-eq0, else-key-eq0}

pub loop-key-init : goal.loop-key-init
loop-key-init c = (omega arith, negations-start _ _, same_room-none _)

pub push-requires : goal.push-requires
push-requires c = record { room = omega (arith, c.requires, c.loop-key.invariant.2, length-take {A = ℕ}) }

pub loop-key-preserved : goal.loop-key-preserved
loop-key-preserved c = let l = c.loop-key in
    let inside : l.key-index < c.args.queue.now.len = omega (arith, length-take {A = ℕ}) in
    let read : get_or (take c.args.queue.now.len c.args.queue.now.keys.now) l.key-index 0 ≡ get_or c.args.queue.now.keys.now l.key-index 0 = get_or-take _ _ _ _ inside in
    elim c.if-key-eq0.branch [
      | then-key-eq0 w ↦
          rw w.list-is (
            omega (arith, w.push.ensures.len),
            rw (w.push.ensures.keys, w.push.ensures.len, read)
                (negations_even _ _ _ _ l.invariant.1 (omega (arith, c.requires)) (omega (arith, w.if-key-eq0.true))),
            same_room-by l.invariant.2 w.push.ensures.same_room,
          )
      | else-key-eq0 w ↦ rw w.list-is (omega arith, negations-odd _ _ _ _ l.invariant.1 (λ z. w.if-key-eq0.false (rw read z)), l.invariant.2)
    ]

pub returns-clause-negations : goal.returns-clause-negations
returns-clause-negations c = let e : c.loop-key.key-index ≡ c.args.queue.now.len = omega (arith, c.requires, length-take {A = ℕ}) in
    subst (λ (x : ℕ). Negations c.args.queue.now.keys.now x c.loop-key.list.keys.now c.loop-key.list.len) e c.loop-key.invariant.1

pub returns-clause-room : goal.returns-clause-room
returns-clause-room c = c.loop-key.invariant.2.long
