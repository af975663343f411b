use Rattle.lines.specs.Grammar.{any_line}
use Rattle.base.proofs.Choose.{pick_true, pick-false}
use borrow.Author.Tests.{eq-eqb, ne_eqb}
use mathlib.Core.Path.{sym, ◌∙◌}
use Rattle.lines.proofs.grammar.any_line.Goals as goal

pub returns-then-b-eq97 : goal.returns-then-b-eq97
unfolding any_line
returns-then-b-eq97 c = sym (pick_true _ _ _ (eq-eqb _ _ c.if-b-eq97.true))

pub returns : goal.returns
unfolding any_line
returns c = c.first.ensures ∙ sym (pick-false _ _ _ (ne_eqb _ _ c.if-b-eq97.false))
