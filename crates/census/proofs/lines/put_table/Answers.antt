use Rattle.rulesets.proofs.Worked.{lines-right}
use Rattle.census.proofs.lines.put_table.Goals as goal

pub returns-clause-lines_right : goal.returns-clause-lines_right
returns-clause-lines_right c = lines-right
