use Rattle.job.proofs.Literals.{literal-plain, literal-negated}
use Rattle.job.proofs.format.literal_at.Goals as goal

pub returns-then-field-lt-NEGATED : goal.returns-then-field-lt-NEGATED
returns-then-field-lt-NEGATED c = literal-plain c.half-field.ensures.value c.if-field-lt-NEGATED.true

pub returns : goal.returns
returns c = literal-negated c.half-field.ensures.value c.if-field-lt-NEGATED.false
