use Rattle.lines.specs.Grammar.{first}
use Rattle.base.proofs.Choose.{pick_true, pick-false}
use borrow.Author.Tests.{eq-eqb, ne_eqb}
use mathlib.Core.Path.{sym, ◌∙◌}
use Rattle.lines.proofs.grammar.first.Goals as goal

pub returns-then-b-eq48 : goal.returns-then-b-eq48
unfolding first
returns-then-b-eq48 c = sym (pick_true _ _ _ (eq-eqb _ _ c.if-b-eq48.true))

pub returns-then-is_digit : goal.returns-then-is_digit
unfolding first
returns-then-is_digit c = sym (pick-false _ _ _ (ne_eqb _ _ c.if-b-eq48.false) ∙ pick_true _ _ _ (sym c.is_digit.ensures ∙ c.if-is_digit.true))

pub returns : goal.returns
unfolding first
returns c = sym (pick-false _ _ _ (ne_eqb _ _ c.if-b-eq48.false) ∙ pick-false _ _ _ (sym c.is_digit.ensures ∙ c.if-is_digit.false))
