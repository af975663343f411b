use Rattle.table.proofs.SearchAll.{Sweeping}
use Rattle.table.proofs.newest.newest_claims.Given as goal

abbrev pub invariant-loop-c : goal.invariant-loop-c
invariant-loop-c l = Sweeping l.table l.c l.claims l.found
