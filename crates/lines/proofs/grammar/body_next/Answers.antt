use Rattle.lines.specs.Grammar.{body_next}
use Rattle.base.proofs.Choose.{pick_true, pick-false}
use borrow.Author.Tests.{eq-eqb, ne_eqb}
use mathlib.Core.Path.{sym, ◌∙◌}
use Rattle.lines.proofs.grammar.body_next.Goals as goal

pub returns-then-b-eq110 : goal.returns-then-b-eq110
unfolding body_next
returns-then-b-eq110 c = sym (pick_true _ _ _ (eq-eqb _ _ c.if-b-eq110.true))

pub returns : goal.returns
unfolding body_next
returns c = c.first.ensures ∙ sym (pick-false _ _ _ (ne_eqb _ _ c.if-b-eq110.false))
