use native.Mathlib.Omega.{arith}
use Rattle.makejob.proofs.Scans.{feed-length, feed_past, feed-none}
use Rattle.makejob.proofs.line.behind_feed.Goals as goal

pub returns-then-end-text : goal.returns-then-end-text
returns-then-end-text c = let b = c.before_feed-end.ensures in feed_past _ _ c.if-end-text.true (feed-length _ _ b.fits b.before b.found)

pub returns-else-end-text : goal.returns-else-end-text
returns-else-end-text c = let b = c.before_feed-end.ensures in feed-none _ (omega (arith, feed-length _ _ b.fits b.before b.found))
