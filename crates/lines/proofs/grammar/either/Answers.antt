use Rattle.lines.specs.Grammar.{either}
use Rattle.base.proofs.Choose.{pick_true, pick-false}
use borrow.Author.Tests.{eq-eqb, ne_eqb}
use mathlib.Core.Path.{sym, ◌∙◌}
use Rattle.lines.proofs.grammar.either.Goals as goal

pub returns-then-b-one : goal.returns-then-b-one
unfolding either
returns-then-b-one c = sym (pick_true _ _ _ (eq-eqb _ _ c.if-b-one.true))

pub returns : goal.returns
unfolding either
returns c = c.only.ensures ∙ sym (pick-false _ _ _ (ne_eqb _ _ c.if-b-one.false))
