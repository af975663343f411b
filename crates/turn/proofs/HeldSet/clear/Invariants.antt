-- The loop's invariant, `Dropping` (proofs/KeptLaws): each claim has no place any more, or is still to come. The room is the same.
use mathlib.Core.Path.{◌≡◌}
use Rattle.turn.specs.KeptSet.{SameRoom}
use Rattle.turn.proofs.KeptLaws.{Dropping}
use Rattle.turn.proofs.HeldSet.clear.Given as goal

abbrev pub invariant-loop-i : goal.invariant-loop-i
invariant-loop-i l = (l.self.members.now ≡ l.initial.self.members.now) × (l.self.kept ≡ l.initial.self.kept) × Dropping l.initial.self.place.now l.i l.self.place.now × SameRoom l.initial.self l.self
