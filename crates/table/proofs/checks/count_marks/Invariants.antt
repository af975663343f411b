-- The loop's invariant: n counts the marks other than 0 of the claims before c.
use mathlib.Core.Bool.{not}
use mathlib.Core.Path.{◌≡◌}
use Rattle.base.specs.Sets.{count}
use Rattle.table.specs.Layout.{fresh}
use Rattle.table.proofs.checks.count_marks.Given as goal

abbrev pub invariant-loop-c : goal.invariant-loop-c
invariant-loop-c l = l.n ≡ count (λ d. not (fresh l.table d)) l.c
