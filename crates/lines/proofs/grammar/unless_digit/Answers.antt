use Rattle.lines.specs.Numbering.{unless_digit}
use Rattle.base.proofs.Choose.{pick_true, pick-false}
use mathlib.Core.Path.{sym, ◌∙◌}
use Rattle.lines.proofs.grammar.unless_digit.Goals as goal

pub returns-then-is_digit : goal.returns-then-is_digit
unfolding unless_digit
returns-then-is_digit c = sym (pick_true _ _ _ (sym c.is_digit.ensures ∙ c.if-is_digit.true))

pub returns : goal.returns
unfolding unless_digit
returns c = sym (pick-false _ _ _ (sym c.is_digit.ensures ∙ c.if-is_digit.false))
