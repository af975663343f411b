use Prim.Native.Nat.{◌+◌, ◌<◌}
use native.Mathlib.Omega.{arith}
use Rattle.counters.specs.Positions.{keys, start_of}
use Rattle.counters.proofs.Queues.{same_room-none, same_room-by, queue-top}
use Rattle.counters.proofs.Walking.{Owners, owners_at}
use Rattle.counters.proofs.Sinking.{Fails, failing-start, failing_end, failing-next}
use Rattle.counters.proofs.doubt.fall.Goals as goal
use Rattle.counters.proofs.doubt.fall.Goals.{After-from-key, After-rules_of-rule-items, After-from}

pub offset_bounds-list-i : goal.offset_bounds-list-i
offset_bounds-list-i c = omega (arith, queue-top c.requires.falling.queue, c.requires.taken.1, c.args.tables.now.accepted.sized.claims_most)

pub bounds-list-i : goal.bounds-list-i
bounds-list-i c = omega (arith, queue-top c.requires.falling.queue, c.requires.taken.1, c.requires.falling.queue.long)

-- the key is one
small : (c : After-from-key) → c.from-key.result < keys c.args.tables.now.job.now
small c = omega (arith, c.from-key.ensures, c.requires.falling.queue.small _ c.requires.taken.1)

pub rules_of-rule-items-requires : goal.rules_of-rule-items-requires
rules_of-rule-items-requires c = small (goal.at.rules_of-rule-items-requires c).After-from-key

-- the rules of its positions
here : (c : After-rules_of-rule-items) → Owners c.args.tables.now.job.now c.args.tables.now.occ.now c.rules_of-rule-items.result.now c.from-key.result
here c = owners_at _ _ _ c.args.tables.now.placed _ (small (goal.at.After-rules_of-rule-items c).After-from-key) _ c.rules_of-rule-items.ensures

pub loop-rule-init : goal.loop-rule-init
loop-rule-init c = (
  failing-start _ _ _ _ _ _ _ _ _ c.args.tables.now.accepted c.args.tables.now.placed c.requires.taken.1 c.requires.falling _ _ c.from-key.ensures
      (omega arith),
  same_room-none _,
)

-- what rule's step comes next
next :
    (c : After-from)
    → Fails c.args.tables.now.job.now c.args.k.now c.args.fail.now c.args.u.now c.args.list.now.keys.now c.args.i c.args.list.now.len c.loop-rule.fail c.loop-rule.u c.loop-rule.list.keys.now c.loop-rule.list.len
    c.from-key.result (start_of c.args.tables.now.job.now c.from-key.result + c.loop-rule.rule-index) c.from.result
next c =
    let at = here (goal.at.After-from c).After-rules_of-rule-items in
    failing-next _ _ _ _ _ _ _ _ _ c.args.tables.now.accepted c.args.tables.now.placed _ _ _ _ _ _ c.loop-rule.invariant.0 (omega (arith, at.ends))
    _ (at.read _ _ c.loop-rule-test.true c.from.ensures)

pub owe-requires-clause-rule : goal.owe-requires-clause-rule
owe-requires-clause-rule c = let some = c.loop-rule.invariant.0.state.falling in
    let n = next (goal.at.owe-requires-clause-rule c).After-from in
    (n.below, c.requires.taken.0, some.size, some.counts.long, n.few)

pub owe-requires-clause-room : goal.owe-requires-clause-room
owe-requires-clause-room c = (next (goal.at.owe-requires-clause-room c).After-from).room

pub loop-rule-preserved : goal.loop-rule-preserved
loop-rule-preserved c = ((next (goal.at.loop-rule-preserved c).After-from).step _ _ _ _ c.owe.ensures.owed _ (omega arith), same_room-by c.loop-rule.invariant.1 c.owe.ensures.same_room)

pub returns-clause-sunk : goal.returns-clause-sunk
returns-clause-sunk c = let l = c.loop-rule in
    let at = here (goal.at.returns-clause-sunk c).After-rules_of-rule-items in
    (l.invariant.0.inside, failing_end _ _ _ _ _ _ _ _ _ c.args.tables.now.accepted c.args.tables.now.placed _ _ _ _ _ _ l.invariant.0 (omega (arith, at.ends)))
