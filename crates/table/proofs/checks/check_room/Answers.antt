use mathlib.Core.Path.{refl, ◌∙◌}
use native.Mathlib.Omega.{arith}
use Rattle.base.proofs.Compare.{under-yes, under-no}
use Rattle.job.proofs.Rows.{pass, stop, placed}
use Rattle.table.specs.Ranges.{check_room}
use Rattle.table.proofs.checks.check_room.Goals as goal

pub returns-then-table-used : goal.returns-then-table-used
unfolding check_room
returns-then-table-used c = placed refl c.used_words-used.ensures.value ∙ stop _ _ _ _ (under-yes _ _ (omega arith))

pub returns : goal.returns
unfolding check_room
returns c = pass _ _ _ _ (under-no _ _ (omega arith)) refl
