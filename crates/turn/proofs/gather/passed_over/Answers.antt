use mathlib.Core.Path.{◌≡◌, ap}
use native.Mathlib.Omega.{arith}
use lib.ListN.{get_or}
use Rattle.job.specs.declared.Cursor.{Cursor}
use Rattle.turn.proofs.gather.passed_over.Goals as goal
use Rattle.turn.proofs.gather.passed_over.Goals.{After-over-start}

-- where the cursor starts
starts : (c : After-over-start) → c.over-start.result.at ≡ get_or c.args.index.now c.args.c 0
starts c = omega (arith, ap (λ (x : Cursor). x.at) c.over-start.ensures)

pub overflow_add-result : goal.overflow_add-result
overflow_add-result c = omega (arith, starts (goal.at.overflow_add-result c).After-over-start, c.cursor_at.ensures.small, c.requires.2)

pub returns : goal.returns
returns c = let e = starts (goal.at.returns c).After-over-start in let v = c.cursor_at.ensures.value in cc
