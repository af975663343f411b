use Rattle.lines.specs.Grammar.{only}
use Rattle.base.proofs.Choose.{pick_true, pick-false}
use borrow.Author.Tests.{eq-eqb, ne_eqb}
use mathlib.Core.Path.{sym}
use Rattle.lines.proofs.grammar.only.Goals as goal

pub returns-then-b-wanted : goal.returns-then-b-wanted
unfolding only
returns-then-b-wanted c = sym (pick_true _ _ _ (eq-eqb _ _ c.if-b-wanted.true))

pub returns : goal.returns
unfolding only
returns c = sym (pick-false _ _ _ (ne_eqb _ _ c.if-b-wanted.false))
