use Rattle.table.proofs.Failing.{failed_is, failed-low}
use Rattle.table.proofs.literals.failed.Goals as goal

pub returns-then-mark-lt-TRUE_MARK : goal.returns-then-mark-lt-TRUE_MARK
returns-then-mark-lt-TRUE_MARK c = failed-low _ _ c.claim_of.ensures c.mark_at-mark.ensures.value c.if-mark-lt-TRUE_MARK.true

pub returns : goal.returns
returns c = failed_is _ _ c.claim_of.ensures c.mark_at-mark.ensures.value c.failing_mark.ensures
