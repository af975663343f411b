use mathlib.Core.Path.{refl}
use Rattle.base.proofs.Compare.{differs-yes, differs-no}
use Rattle.job.specs.Rows.{row}
use Rattle.groups.proofs.check_length.Goals as goal

pub returns-then-list-count : goal.returns-then-list-count
unfolding row
returns-then-list-count c = rw (differs-yes _ _ c.if-list-count.true) refl

pub returns : goal.returns
unfolding row
returns c = rw (differs-no _ _ c.if-list-count.false) refl
