use Rattle.job.proofs.Cursor.over.Goals as goal

pub returns : goal.returns
returns c = cc
