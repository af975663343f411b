use mathlib.Core.Path.{sym, ◌∙◌}
use native.Mathlib.Omega.{arith}
use Rattle.calls.proofs.Running.{partly-ready}
use Rattle.turn.proofs.Rooms.{same_room, room_on}
use Rattle.listing.proofs.Finishing.{going_start, going_on, going_none, going-stop}
use Rattle.listing.proofs.finish.finish_in.Goals as goal

pub loop-init : goal.loop-init
loop-init c = let p = c.requires in
    let n = c.most_turns-end.ensures in
    (going_start _ _ _ _ p.ready p.keeps p.small (omega (arith, n.value)) (omega (arith, n.small)), same_room _)

pub all_answered-requires-clause-in_range : goal.all_answered-requires-clause-in_range
all_answered-requires-clause-in_range c = c.loop.invariant.0.part.range

pub take_turn-kind-requires-clause-ready : goal.take_turn-kind-requires-clause-ready
take_turn-kind-requires-clause-ready c = partly-ready _ c.loop.invariant.0.part c.requires.ready

pub take_turn-kind-requires-clause-w_bound : goal.take_turn-kind-requires-clause-w_bound
take_turn-kind-requires-clause-w_bound c = c.loop.invariant.0.low

pub take_turn-kind-requires-clause-keeps : goal.take_turn-kind-requires-clause-keeps
take_turn-kind-requires-clause-keeps c = c.loop.invariant.0.part.keeps

pub counted-next-requires : goal.counted-next-requires
counted-next-requires c = λ k. omega (arith, c.loop.invariant.0.part.small k, c.loop.invariant.0.few)

pub next_worker-w-requires : goal.next_worker-w-requires
next_worker-w-requires c = record { w_bound = c.loop.invariant.0.low }

pub loop-preserved : goal.loop-preserved
loop-preserved c = let t = c.take_turn-kind.ensures in
    let more = sym c.if-all_answered.false ∙ c.all_answered.ensures in
    (going_on _ _ _ _ c.loop.invariant.0 c.requires.ready.job (omega arith) more t.done c.counted-next.ensures t.same_room.members_long c.next_worker-w.ensures, room_on c.loop.invariant.1 t.same_room)

pub returns-after-loop : goal.returns-after-loop
returns-after-loop c = let both = going_none _ _ _ _ c.loop.invariant.0 (omega arith) in record { value = both.0; table_after = both.1; same_room = c.loop.invariant.1 }

pub returns-then-all_answered : goal.returns-then-all_answered
returns-then-all_answered c = let both = going-stop _ _ _ _ c.loop.invariant.0 (sym c.if-all_answered.true ∙ c.all_answered.ensures) in record { value = both.0; table_after = both.1; same_room = c.loop.invariant.1 }
