use Prim.Native.Nat.{◌*◌}
use Rattle.listing.proofs.Runs.{Run, first_lines}
use Rattle.listing.proofs.lines.put_question_lines.Given as goal

abbrev pub invariant-loop-k : goal.invariant-loop-k
invariant-loop-k l = Run l.initial.out (52 * l.k) (first_lines l.job l.table l.k) l.out
