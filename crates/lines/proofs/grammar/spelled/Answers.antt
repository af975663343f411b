use Rattle.lines.specs.Grammar.{spelled}
use native.Mathlib.Omega.{arith}
use lib.ListN.{length}
use Rattle.base.proofs.Compare.{under-yes, under-no, differs-yes, differs-no}
use Rattle.base.proofs.Choose.{pick_true, pick-false}
use mathlib.Core.Path.{sym, ◌∙◌, ap}
use Rattle.lines.proofs.grammar.spelled.Goals as goal

pub returns-then-b-letter : goal.returns-then-b-letter
unfolding spelled
returns-then-b-letter c = sym (pick_true _ _ _ (differs-yes _ _ (λ e. c.if-b-letter.true (e ∙ sym c.letter.ensures))))

pub returns-then-k-letters : goal.returns-then-k-letters
unfolding spelled
returns-then-k-letters c =
    sym (pick-false _ _ _ (differs-no _ _ (c.if-b-letter.false ∙ c.letter.ensures)) ∙ pick_true _ _ _ (under-yes _ _ (omega (arith, ap length c.letters.ensures.value))))

pub returns : goal.returns
unfolding spelled
returns c =
    c.after.ensures
    ∙ sym (pick-false _ _ _ (differs-no _ _ (c.if-b-letter.false ∙ c.letter.ensures)) ∙ pick-false _ _ _ (under-no _ _ (omega (arith, ap length c.letters.ensures.value))))
