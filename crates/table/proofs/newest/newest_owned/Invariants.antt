use Rattle.table.proofs.Searching.{Swept}
use Rattle.table.specs.Layout.{owned}
use Rattle.table.proofs.newest.newest_owned.Given as goal

abbrev pub invariant-loop-c : goal.invariant-loop-c
invariant-loop-c l = Swept l.table (owned l.table l.w) l.c l.claims l.best
