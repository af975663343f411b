use Rattle.job.proofs.Questions.{asked-part}
use Rattle.job.proofs.reader.Job.question_bytes.Goals as goal

pub returns : goal.returns
returns c = let p = c.self.invariant in
    rw (← c.self.view_is) (asked-part _ p.all_bytes p.accepted _ _ p.rules_is p.literals_is)
