use Rattle.lines.specs.Grammar.{more}
use Rattle.base.proofs.Choose.{pick_true, pick-false}
use mathlib.Core.Path.{sym, ◌∙◌}
use Rattle.lines.proofs.grammar.more.Goals as goal

pub returns-then-is_digit : goal.returns-then-is_digit
unfolding more
returns-then-is_digit c = sym (pick_true _ _ _ (sym c.is_digit.ensures ∙ c.if-is_digit.true))

pub returns : goal.returns
unfolding more
returns c = c.ended.ensures ∙ sym (pick-false _ _ _ (sym c.is_digit.ensures ∙ c.if-is_digit.false))
