use mathlib.Core.Path.{◌∙◌}
use Rattle.lines.proofs.Capped.{ascii-digit}
use Rattle.lines.proofs.grammar.is_digit.Goals as goal

pub returns : goal.returns
returns c = c.is_ascii_digit.ensures.value ∙ ascii-digit _
