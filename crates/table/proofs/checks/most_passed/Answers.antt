use mathlib.Core.Path.{sym}
use borrow.Author.Tests.{eq-eqb, ne_eqb}
use Rattle.base.proofs.Choose.{pick_true, pick-false}
use Rattle.table.proofs.checks.most_passed.Goals as goal

pub returns-then-mark-eq0 : goal.returns-then-mark-eq0
returns-then-mark-eq0 c = sym (pick_true _ _ _ (eq-eqb _ _ c.if-mark-eq0.true))

pub returns-else-mark-eq0 : goal.returns-else-mark-eq0
returns-else-mark-eq0 c = sym (pick-false _ _ _ (ne_eqb _ _ c.if-mark-eq0.false))
