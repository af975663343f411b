use Prim.Native.Nat.{ℕ}
use mathlib.Core.Path.{◌∙◌, ap}
use lib.ListN.{take}
use Rattle.makejob.specs.Pieces.{is_feed, up_to, line_of}
use Rattle.makejob.proofs.Scans.{feed-length, front}
use Rattle.makejob.proofs.line.line_of.Goals as goal

pub returns : goal.returns
unfolding line_of
returns c = let b = c.before_feed.ensures in
    let s = c.from_line-from.result.now in
    ap (λ (n : ℕ). take n s) (feed-length _ _ b.fits b.before b.found) ∙ front is_feed s ∙ ap (up_to is_feed) c.from_line-from.ensures
