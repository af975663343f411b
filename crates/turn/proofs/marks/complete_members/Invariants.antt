use lib.ListN.{length}
use Rattle.turn.proofs.Marking.{Giving}
use Rattle.turn.proofs.marks.complete_members.Given as goal

abbrev pub invariant-loop-member : goal.invariant-loop-member
invariant-loop-member l = Giving l.members l.values l.initial.table (length l.yielded) l.table
