use Prim.Native.Nat.{◌+◌, ◌<◌}
use native.Mathlib.Omega.{arith}
use Rattle.counters.specs.Positions.{keys, start_of}
use Rattle.counters.proofs.Queues.{same_room-none, same_room-by, queue-top}
use Rattle.counters.proofs.Walking.{Owners, owners_at}
use Rattle.counters.proofs.Raising.{Takes, taking-start, taking_end, taking-next}
use Rattle.counters.proofs.derive.hold.Goals as goal
use Rattle.counters.proofs.derive.hold.Goals.{After-from-key, After-rules_of-rule-items, After-from}

pub offset_bounds-queue-i : goal.offset_bounds-queue-i
offset_bounds-queue-i c = omega (arith, queue-top c.requires.ready.0.1.fits.queue, c.requires.taken, c.args.tables.now.accepted.sized.claims_most)

pub bounds-queue-i : goal.bounds-queue-i
bounds-queue-i c = omega (arith, queue-top c.requires.ready.0.1.fits.queue, c.requires.taken, c.requires.ready.0.1.fits.queue.long)

-- the key is one
small : (c : After-from-key) → c.from-key.result < keys c.args.tables.now.job.now
small c = omega (arith, c.from-key.ensures, c.requires.ready.0.1.fits.queue.small _ c.requires.taken)

pub rules_of-rule-items-requires : goal.rules_of-rule-items-requires
rules_of-rule-items-requires c = small (goal.at.rules_of-rule-items-requires c).After-from-key

-- the rules of its positions
here : (c : After-rules_of-rule-items) → Owners c.args.tables.now.job.now c.args.tables.now.occ.now c.rules_of-rule-items.result.now c.from-key.result
here c = owners_at _ _ _ c.args.tables.now.placed _ (small (goal.at.After-rules_of-rule-items c).After-from-key) _ c.rules_of-rule-items.ensures

pub loop-rule-init : goal.loop-rule-init
loop-rule-init c = (
  taking-start _ _ _ _ _ _ _ _ c.args.tables.now.accepted c.args.tables.now.placed c.requires.taken c.requires.ready.0 c.requires.ready.1 _ _ c.from-key.ensures
      (omega arith),
  same_room-none _,
)

-- what rule's step comes next
next :
    (c : After-from)
    → Takes c.args.tables.now.job.now c.args.count.now c.args.w.now c.args.queue.now.keys.now c.args.i c.args.queue.now.len c.loop-rule.count c.loop-rule.w c.loop-rule.queue.keys.now c.loop-rule.queue.len
    c.from-key.result (start_of c.args.tables.now.job.now c.from-key.result + c.loop-rule.rule-index) c.from.result
next c =
    let at = here (goal.at.After-from c).After-rules_of-rule-items in
    taking-next _ _ _ _ _ _ _ _ c.args.tables.now.accepted c.args.tables.now.placed _ _ _ _ _ _ c.loop-rule.invariant.0 (omega (arith, at.ends))
    _ (at.read _ _ c.loop-rule-test.true c.from.ensures)

pub pay-requires-clause-rule : goal.pay-requires-clause-rule
pay-requires-clause-rule c = let some = c.loop-rule.invariant.0.state.carried.some.1 in
    let n = next (goal.at.pay-requires-clause-rule c).After-from in
    (n.below, some.fits.size, some.counts.long, n.some)

pub pay-requires-clause-room : goal.pay-requires-clause-room
pay-requires-clause-room c = (next (goal.at.pay-requires-clause-room c).After-from).room

pub loop-rule-preserved : goal.loop-rule-preserved
loop-rule-preserved c = ((next (goal.at.loop-rule-preserved c).After-from).step _ _ _ _ c.pay.ensures.paid _ (omega arith), same_room-by c.loop-rule.invariant.1 c.pay.ensures.same_room)

pub returns-clause-raised : goal.returns-clause-raised
returns-clause-raised c = let l = c.loop-rule in
    let at = here (goal.at.returns-clause-raised c).After-rules_of-rule-items in
    (l.invariant.0.inside, taking_end _ _ _ _ _ _ _ _ c.args.tables.now.accepted c.args.tables.now.placed _ _ _ _ _ _ l.invariant.0 (omega (arith, at.ends)))
