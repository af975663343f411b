use mathlib.Core.Path.{◌∙◌}
use Rattle.turn.proofs.PartMarks.{part-places, part-marks}
use Rattle.turn.proofs.working.complete_in.Goals as goal

pub evaluate_part-requires : goal.evaluate_part-requires
evaluate_part-requires c = record { lent = c.requires.lent; values_len = c.requires.values_len }

pub complete_members-requires : goal.complete_members-requires
complete_members-requires c = (part-places c.requires.lent.0, c.evaluate_part.auto.values ∙ c.requires.values_len)

pub returns : goal.returns
returns c = c.complete_members.ensures _ (part-marks c.evaluate_part.ensures)
