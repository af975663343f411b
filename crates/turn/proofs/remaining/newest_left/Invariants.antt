use lib.ListN.{length}
use Rattle.turn.proofs.Sweeps.{Swept}
use Rattle.turn.proofs.remaining.newest_left.Given as goal

abbrev pub invariant-loop-member : goal.invariant-loop-member
invariant-loop-member l = Swept l.index l.table l.members (length l.members) l.w l.member-index l.best
