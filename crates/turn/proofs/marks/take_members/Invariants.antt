use lib.ListN.{length}
use Rattle.turn.proofs.Marking.{Taking}
use Rattle.turn.proofs.marks.take_members.Given as goal

abbrev pub invariant-loop-member : goal.invariant-loop-member
invariant-loop-member l = Taking l.members l.initial.table (length l.members) l.w l.member-index l.table
