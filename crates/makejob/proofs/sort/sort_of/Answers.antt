use Rattle.makejob.proofs.Faulted.{of-late, of-line}
use Rattle.makejob.proofs.sort.sort_of.Goals as goal

pub returns-then-is_late : goal.returns-then-is_late
returns-then-is_late c = of-late _ _ _ c.is_late.ensures c.if-is_late.true

pub returns : goal.returns
returns c = of-line _ _ _ c.is_late.ensures c.if-is_late.false c.line_of.ensures c.has_line_feed.ensures c.sort_in.ensures
