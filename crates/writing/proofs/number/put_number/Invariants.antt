-- The loop's invariant is proofs/Digits: Partly. The measure is `rest`.
use Prim.Native.Nat.{◌+◌}
use mathlib.Core.Path.{◌≡◌}
use lib.ListN.{length}
use Rattle.writing.proofs.Digits.{Partly}
use Rattle.writing.specs.Decimal.{decimal}
use Rattle.writing.proofs.number.put_number.Given as goal

abbrev pub invariant-loop-rest : goal.invariant-loop-rest
invariant-loop-rest l = (l.end ≡ l.at + length (decimal l.n)) × Partly l.initial.buf l.at l.n l.buf l.i l.rest

abbrev pub decreases-loop-rest : goal.decreases-loop-rest
decreases-loop-rest l = l.rest
