use Prim.Native.Nat.{◌≤◌}
use native.Mathlib.Omega.{arith}
use lib.ListN.{length}
use Rattle.base.specs.Sets.{set_of}
use Rattle.counters.specs.Positions.{keys}
use Rattle.counters.proofs.Queues.{queue-top}
use Rattle.model.proofs.Shrinking.{risen-falling, fell-by, fell_left}
use Rattle.model.proofs.Alternating.{lose-ready, shrunk-by}
use Rattle.model.proofs.alternate.shrink.Goals as goal
use Rattle.model.proofs.alternate.shrink.Goals.{After-negate}

-- the list stays long enough
long : (c : After-negate) → keys c.args.tables.now.job.now ≤ length c.negate.new.list.keys.now
long c = omega (arith, c.negate.ensures.room, c.requires.room)

pub negate-requires : goal.negate-requires
negate-requires c = let queue = c.requires.risen.1.queue in
    (omega (arith, queue-top queue, queue.long), omega (arith, queue-top queue, c.requires.room))

pub sink-requires-clause-falling : goal.sink-requires-clause-falling
sink-requires-clause-falling c = risen-falling _ _ c.args.tables.now.accepted _ _ _ _ _ c.requires.risen.1 _ _ (long (goal.at.sink-requires-clause-falling c).After-negate) c.negate.ensures.negations

pub regain-requires : goal.regain-requires
regain-requires c = let risen = c.requires.risen.1 in
    record {
      ends = c.requires.ends;
      room = risen.queue.long;
      fell = (set_of _, fell-by _ _ c.args.tables.now.accepted _ _ _ _ _ risen _ _ (long (goal.at.regain-requires c).After-negate) c.negate.ensures.negations _ _ _ _ c.sink.ensures.sunk);
    }

pub lose-requires : goal.lose-requires
lose-requires c = let fell = fell-by _ _ c.args.tables.now.accepted _ _ _ _ _ c.requires.risen.1 _ _ (long (goal.at.lose-requires c).After-negate) c.negate.ensures.negations _ _ _ _ c.sink.ensures.sunk in
    let both = lose-ready _ _ _ _ _ _ _ _ c.args.tables.now.accepted (c.regain.ensures.regained.upper _ fell) fell.doubted c.regain.ensures.room in
    record { doubted = both.0; no_negated = both.1 }

pub returns-clause-shrunk : goal.returns-clause-shrunk
returns-clause-shrunk c = λ a risen.
    let n = long (goal.at.returns-clause-shrunk c).After-negate in
    let fell = fell-by _ _ c.args.tables.now.accepted _ _ _ _ _ risen _ _ n c.negate.ensures.negations _ _ _ _ c.sink.ensures.sunk in
    let left = fell_left _ _ c.args.tables.now.accepted _ _ _ _ _ risen _ _ n c.negate.ensures.negations _ _ _ _ c.sink.ensures.sunk in
    shrunk-by _ _ _ _ _ _ _ risen _ _ _ _ _ (c.regain.ensures.regained.upper _ fell) c.regain.ensures.regained.keeps left _ _ _ c.lose.ensures.lost

pub returns-clause-room : goal.returns-clause-room
returns-clause-room c = c.sink.ensures.sunk.falling.queue.long
