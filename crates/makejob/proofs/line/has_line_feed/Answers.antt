use mathlib.Core.Path.{◌∙◌, ap}
use Rattle.makejob.specs.Pieces.{is_feed, some, has_feed}
use Rattle.makejob.proofs.Scans.{any-some}
use Rattle.makejob.proofs.line.has_line_feed.Goals as goal

pub returns : goal.returns
unfolding has_feed
returns c = c.contains.ensures.value ∙ any-some _ ∙ ap (some is_feed) c.from_line.ensures
