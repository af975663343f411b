use mathlib.Core.Path.{◌∙◌}
use native.Mathlib.Omega.{arith}
use Rattle.base.proofs.Compare.{differs-yes, differs-no}
use Rattle.table.proofs.Each.{row-yes, row_pass}
use Rattle.table.proofs.checks.check_opened.Goals as goal

pub returns-then-opened_in-count_marks : goal.returns-then-opened_in-count_marks
returns-then-opened_in-count_marks c = c.bad_word.ensures ∙ row-yes _ _ _ (differs-yes _ _ (λ e. c.if-opened_in-count_marks.true (omega arith)))

pub returns : goal.returns
returns c = row_pass _ _ _ (differs-no _ _ (omega arith))
