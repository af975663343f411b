use mathlib.Core.Path.{sym, ◌∙◌}
use native.Mathlib.Numerals.{add-one}
use borrow.Author.Tests.{eq-eqb, ne_eqb}
use Rattle.base.proofs.Choose.{pick_true, pick-false}
use Rattle.table.specs.Newest.{newer}
use Rattle.table.proofs.newest.newer.Goals as goal
use Rattle.table.proofs.newest.newer.Goals.{then-best-eq0-via-then-best-eq0, then-best-eq0-via-else-best-eq0+then-is_newer}

pub returns-then-best-eq0 : goal.returns-then-best-eq0
unfolding newer
returns-then-best-eq0 c = elim c.then-best-eq0.branch [
  | then-best-eq0-via-then-best-eq0 w ↦ add-one _ ∙ sym (pick_true _ _ _ (eq-eqb _ _ w.if-best-eq0.true))
  | then-best-eq0-via-else-best-eq0+then-is_newer w ↦
      add-one _ ∙ sym (pick-false _ _ _ (ne_eqb _ _ w.if-best-eq0.false) ∙ pick_true _ _ _ (sym w.is_newer.ensures ∙ w.if-is_newer.true))
]

pub returns : goal.returns
unfolding newer
returns c = sym (pick-false _ _ _ (ne_eqb _ _ c.if-best-eq0.false) ∙ pick-false _ _ _ (sym c.is_newer.ensures ∙ c.if-is_newer.false))
