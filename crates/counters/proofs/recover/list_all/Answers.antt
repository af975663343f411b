use Prim.Native.Nat.{ℕ, ◌*◌, ◌<◌}
use mathlib.Core.Path.{◌≡◌, refl}
use native.Mathlib.Omega.{arith}
use lib.ListN.{get_or}
use Rattle.counters.proofs.Queues.{same_room-none, same_room-by}
use Rattle.counters.proofs.Doubting.{listed_more, doubted_all, listed_all}
use Rattle.counters.proofs.recover.list_all.Goals as goal

pub loop-c-init : goal.loop-c-init
loop-c-init c = (refl, same_room-none _, λ j m. absurd (omega arith))

pub push-requires : goal.push-requires
push-requires c = record { room = omega (arith, c.requires, c.loop-c.invariant.1) }

pub loop-c-preserved : goal.loop-c-preserved
loop-c-preserved c = let l = c.loop-c in (
  rw (c.push.ensures.len, l.invariant.0) refl,
  same_room-by l.invariant.1 c.push.ensures.same_room,
  rw (c.push.ensures.keys, l.invariant.0) (listed_more l.list.keys.now l.c (omega (arith, c.requires)) l.invariant.2),
)

pub returns-clause-listed : goal.returns-clause-listed
returns-clause-listed c = let l = c.loop-c in
    let all : (j : ℕ) → j < c.args.claims → get_or l.list.keys.now j 0 ≡ 2 * j = λ j m. l.invariant.2 j (omega arith) in
    (omega (arith, l.invariant.0), doubted_all c.args.claims _ all (omega (arith, c.requires, l.invariant.1)), listed_all c.args.claims _ all)
