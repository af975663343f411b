-- : each turn notes the number that a byte ends, if it ends one.
use Rattle.lines.proofs.Leads.{at as scanned}
use Rattle.lines.proofs.Notes.{Noting}
use Rattle.lines.proofs.note.note_numbers.Given as goal

abbrev pub invariant-loop-b : goal.invariant-loop-b
invariant-loop-b l = Noting l.text l.initial.notes l.notes l.at (scanned l.state l.number) l.b-index
