use Rattle.job.proofs.format.question_at.Goals as goal

pub returns : goal.returns
returns c = cc
