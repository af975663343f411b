use Rattle.writing.proofs.Wrote.{put_none}
use Rattle.lines.proofs.note.note.Goals as goal

pub returns-in-None : goal.returns-in-None
returns-in-None c = rw c.in-None.is (put_none _ _)
