-- The loop's invariant, `Expanding` (proofs/Worklist): there is room for what is still to be met, and meeting the claims that the cursor has left makes of the worklist now what meeting all of them makes of the one at entry. The measure is what the cursor has left.
use Prim.Native.Nat.{◌-◌, ◌≤◌}
use Rattle.job.specs.Format.{rules, literals}
use Rattle.turn.proofs.Worklist.{Expanding}
use Rattle.turn.proofs.gather.expand.Given as goal

abbrev pub invariant-loop-cursor : goal.invariant-loop-cursor
invariant-loop-cursor l = Expanding l.job (rules l.job) l.index l.table l.initial.cursor (record { place = l.initial.place; members = l.initial.members; top = l.initial.top }) l.cursor (record { place = l.place; members = l.members; top = l.top })
    × (l.cursor.end ≤ literals l.job)

abbrev pub decreases-loop-cursor : goal.decreases-loop-cursor
decreases-loop-cursor l = l.cursor.end - l.cursor.at
