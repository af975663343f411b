-- A missing record's, or how many literals are kept.
use mathlib.Core.Path.{sym, ◌∙◌}
use Rattle.canon.proofs.Records.{length-missing, length-kept}
use Rattle.canon.proofs.write.length_field.Goals as goal

pub returns-then-missing_at : goal.returns-then-missing_at
returns-then-missing_at c = length-missing _ _ (sym c.if-missing_at.true ∙ c.missing_at.ensures)

pub returns : goal.returns
returns c = let p = c.requires in
    length-kept p.0 _ _ p.1 (sym c.if-missing_at.false ∙ c.missing_at.ensures) c.from.ensures
