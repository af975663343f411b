use native.Mathlib.Omega.{arith}
use Rattle.base.specs.Sets.{nothing}
use Rattle.counters.proofs.Queues.{same_room-none, same_room-by}
use Rattle.model.specs.Rounds.{Risen, Shrunk}
use Rattle.model.proofs.Shrinking.{risen-by}
use Rattle.model.proofs.Alternating.{poised-next, poised-stops, poised_less}
use Rattle.model.proofs.alternate.alternate.Goals as goal
use Rattle.model.proofs.alternate.alternate.Goals.{After-rise, After-shrink}

pub first_u-requires : goal.first_u-requires
first_u-requires c = record { blank_u = c.requires.blank.0 }

pub first_k-requires : goal.first_k-requires
first_k-requires c = let blank = c.requires.blank.1 in
    record {
      blank_k = record {
        counts = blank.counts;
        empty = blank.empty;
        size = blank.size;
        size_u = omega (arith, blank.size_u);
        room = c.first_u.ensures.room;
        list_room = blank.list_room;
      };
    }

pub loop-queue-init : goal.loop-queue-init
loop-queue-init c = ((nothing, c.first_k.ensures.poised _ c.first_u.ensures.upper), c.first_k.ensures.room, same_room-none _, same_room-none _)

pub rise-requires : goal.rise-requires
rise-requires c = let now = c.loop-queue.invariant.0.1 in
    record { ready = ((_, now.growing), now.ready) }

-- K has risen, and then U has shrunk
risen :
    (c : After-rise)
    → Risen c.args.tables.now.job.now c.loop-queue.invariant.0.0 c.loop-queue.fail c.rise.new.w c.loop-queue.u c.rise.new.queue.keys.now c.rise.new.queue.len
risen c = risen-by _ _ c.args.tables.now.accepted _ _ _ _ _ _ c.loop-queue.invariant.0.1 _ _ _ _ c.rise.ensures.raised

shrunk :
    (c : After-shrink)
    → Shrunk c.args.tables.now.job.now c.rise.new.w c.loop-queue.u c.shrink.new.fail c.shrink.new.u c.shrink.new.queue.keys.now c.shrink.new.queue.len
shrunk c = c.shrink.ensures.shrunk c.loop-queue.invariant.0.0 (risen (goal.at.After-shrink c).After-rise)

pub shrink-requires : goal.shrink-requires
shrink-requires c = record {
  ends = c.requires.ends;
  room = c.loop-queue.invariant.1;
  risen = (c.loop-queue.invariant.0.0, risen (goal.at.shrink-requires c).After-rise);
}

pub returns-then-queue-eq0 : goal.returns-then-queue-eq0
returns-then-queue-eq0 c = let at = (goal.at.returns-then-queue-eq0 c).After-shrink in
    let both = poised-stops _ _ _ _ _ _ _ (risen (goal.at.After-shrink at).After-rise) _ _ _ _ (shrunk at) c.if-queue-eq0.true in
    let l = c.loop-queue.invariant in
    record {
      k_after = both.0;
      u_after = both.1;
      same_queue = same_room-by (same_room-by c.first_u.ensures.same_room c.first_k.ensures.same_queue) (same_room-by l.2 (same_room-by c.rise.ensures.same_room c.shrink.ensures.same_queue));
      same_list = same_room-by c.first_k.ensures.same_list (same_room-by l.3 c.shrink.ensures.same_list);
    }

pub loop-queue-smaller : goal.loop-queue-smaller
loop-queue-smaller c = let at = (goal.at.loop-queue-smaller c).After-shrink in
    poised_less _ _ _ _ _ _ _ (risen (goal.at.After-shrink at).After-rise) _ _ _ _ (shrunk at) c.if-queue-eq0.false

pub loop-queue-preserved : goal.loop-queue-preserved
loop-queue-preserved c = (
  (
    _,
    poised-next _ _ c.args.tables.now.accepted _ _ _ _ _ _ c.loop-queue.invariant.0.1 _ _ _ _ c.rise.ensures.raised _ _ _ _ (shrunk (goal.at.loop-queue-preserved c).After-shrink),
  ),
  c.shrink.ensures.room,
  same_room-by c.loop-queue.invariant.2 (same_room-by c.rise.ensures.same_room c.shrink.ensures.same_queue),
  same_room-by c.loop-queue.invariant.3 c.shrink.ensures.same_list,
)
