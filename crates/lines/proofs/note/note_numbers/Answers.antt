use mathlib.Core.Path.{refl}
use native.Mathlib.Omega.{arith}
use Rattle.lines.proofs.Tallies.{scanned-next}
use Rattle.lines.proofs.Notes.{noting-start, noting-kept, noting-room, noting_more, noting_size, noting_end}
use Rattle.lines.proofs.note.note_numbers.Goals as goal

pub loop-b-init : goal.loop-b-init
loop-b-init c = noting-start _ _ _ refl c.requires

pub note-at-requires : goal.note-at-requires
note-at-requires c = let l = c.loop-b in let e = c.event-event.ensures in (noting-kept _ _ _ _ _ _ l.invariant _ e, noting-room _ _ _ _ _ _ l.invariant _ e (omega arith))

pub loop-b-preserved : goal.loop-b-preserved
loop-b-preserved c = let l = c.loop-b in
    noting_more _ _ _ _ _ _ l.invariant _ _ _ _ c.event-event.ensures (omega arith) c.note-at.ensures (scanned-next l.state _ _ _ _ c.step-state.ensures c.with_digit-number.ensures)

pub shape_of-notes : goal.shape_of-notes
shape_of-notes c = noting_size _ _ _ _ _ _ c.loop-b.invariant

pub returns : goal.returns
returns c = noting_end _ _ _ _ _ _ c.loop-b.invariant (omega arith)
