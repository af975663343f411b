use mathlib.Core.Path.{◌∙◌}
use Rattle.table.proofs.Started.{start-written}
use Rattle.table.proofs.start.write_start.Goals as goal

pub returns : goal.returns
returns c = start-written _ _ (c.copy_from_slice.ensures.after ∙ c.header_words-header.ensures) c.used_words-used.ensures.value (c.fill.ensures.after (λ y e. e)) c.requires.room
