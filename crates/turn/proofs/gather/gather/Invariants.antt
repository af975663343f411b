-- The loop's invariant, `Gathering` (proofs/Gathering): the claim is in the set, and what was there before; all else in the set is reached from it; each claim in the set stands in the queue from i on, or all that it leads to is in the set. The measure is how many claims are more than i.
use Prim.Native.Nat.{◌-◌}
use mathlib.Core.Path.{◌≡◌}
use lib.ListN.{length}
use Rattle.base.specs.Sets.{set_of}
use Rattle.job.specs.Format.{claims}
use Rattle.turn.proofs.Gathering.{Gathering}
use Rattle.turn.proofs.gather.gather.Given as goal

abbrev pub invariant-loop-i : goal.invariant-loop-i
invariant-loop-i l = (length l.members ≡ length l.initial.members) × Gathering l.job l.table (set_of l.initial.place) l.claim l.i (record { place = l.place; members = l.members; top = l.top })

abbrev pub decreases-loop-i : goal.decreases-loop-i
decreases-loop-i l = claims l.job - l.i
