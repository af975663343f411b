-- The loop's invariant: the words of the workers before w are kept.
use mathlib.Core.Path.{◌≡◌}
use Rattle.table.specs.Newest.{with_newest}
use Rattle.table.proofs.newest.keep_newest.Given as goal

abbrev pub invariant-loop-w : goal.invariant-loop-w
invariant-loop-w l = l.table ≡ with_newest l.claims l.w l.initial.table
