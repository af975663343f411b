use Rattle.job.specs.Check.{Refused}
use Rattle.lines.specs.Room.{room_row}
use Rattle.job.proofs.Rows.{stop, pass}
use Rattle.base.proofs.Compare.{under-yes, under-no}
use native.Mathlib.Omega.{arith}
use mathlib.Core.Path.{refl, ◌∙◌, ap}
use Rattle.lines.proofs.room.check_room.Goals as goal

pub returns-then-room-needed : goal.returns-then-room-needed
unfolding room_row
returns-then-room-needed c = ap (Refused 16) c.job_bytes-needed.ensures ∙ stop _ _ _ _ (under-yes _ _ (omega arith))

pub returns : goal.returns
unfolding room_row
returns c = pass _ _ _ _ (under-no _ _ (omega arith)) refl
