use mathlib.Core.Path.{ap}
use Rattle.writing.proofs.Writing.{writes_as}
use Rattle.rulesets.specs.Lines.{census_line}
use Rattle.census.proofs.Put.{counted_is, not_refused}
use Rattle.census.proofs.lines.put_size.Goals as goal

pub returns-in-Ok : goal.returns-in-Ok
returns-in-Ok c = let p = c.requires.size in let q = c.put_line.ensures in (writes_as q.0 (ap census_line (counted_is _ p.0 p.1 c.census.ensures.value c.in-Ok.is)), q.1)

pub returns-in_default : goal.returns-in_default
returns-in_default c = let p = c.requires.size in absurd (not_refused _ p.0 p.1 c.census.ensures.value c.in_default.is)
