-- The loop's invariant: the bytes below `c` are written, and the others of the slice are as they were.
use mathlib.Core.List.{◌++◌}
use mathlib.Core.Path.{◌≡◌}
use lib.ListN.{take, drop}
use Rattle.base.specs.Sets.{set_of}
use Rattle.base.specs.Span.{span}
use Rattle.model.specs.Output.{judged_byte}
use Rattle.model.proofs.verdicts.write.Given as goal

abbrev pub invariant-loop-c : goal.invariant-loop-c
invariant-loop-c l = l.byte-items ≡ span (judged_byte (set_of l.k) (set_of l.u)) 0 l.c ++ drop l.c (take l.claims l.fn.out)
