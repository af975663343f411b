use mathlib.Core.Logic.{⊎_elim}
use Rattle.writing.proofs.Wrote.{put_none}
use Rattle.lines.proofs.note.note_number.Goals as goal

pub returns-in-ClaimCount : goal.returns-in-ClaimCount
returns-in-ClaimCount c = ⊎_elim (λ e. rw e (put_none _ _)) (λ e. rw e (put_none _ _)) c.in-ClaimCount.is
