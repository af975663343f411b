-- : each turn passes one line.
use Prim.Native.Nat.{◌-◌}
use mathlib.Core.Path.{◌≡◌}
use Rattle.makejob.specs.Pieces.{behind_feeds, from_line}
use Rattle.makejob.proofs.line.from_line.Given as goal

abbrev pub invariant-loop : goal.invariant-loop
invariant-loop l = behind_feeds (l.line - l.counter) l.rest ≡ from_line l.text l.line
