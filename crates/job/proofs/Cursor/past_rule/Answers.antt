use Rattle.job.proofs.Cursor.past_rule.Goals as goal

pub returns : goal.returns
returns c = let e = c.rule_end.ensures.0 in cc
