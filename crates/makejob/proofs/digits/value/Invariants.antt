-- : each turn takes in one digit.
use Prim.Native.Nat.{◌≤◌}
use mathlib.Core.Path.{◌≡◌}
use lib.ListN.{drop}
use Rattle.makejob.specs.Pieces.{value_from}
use Rattle.makejob.proofs.digits.value.Given as goal

abbrev pub invariant-loop-b : goal.invariant-loop-b
invariant-loop-b l = (l.value ≤ 65536) × (value_from l.value (drop l.b-index l.digits) ≡ value_from 0 l.digits)
