use native.Mathlib.Omega.{arith}
use lib.ListN.{length-set}
use Rattle.writing.proofs.Digits.{partly-start, partly-some, partly_more, partly-whole}
use Rattle.writing.proofs.Decimal.{length_some}
use Rattle.writing.proofs.number.put_number.Goals as goal

pub loop-rest-init : goal.loop-rest-init
loop-rest-init c = (omega arith, partly-start _ _ _ _ (omega arith) (omega arith))

pub overflow_sub-i : goal.overflow_sub-i
overflow_sub-i c = partly-some _ _ _ _ _ _ c.loop-rest.invariant.1

pub bounds-buf-i : goal.bounds-buf-i
bounds-buf-i c = omega (arith, partly-some _ _ _ _ _ _ c.loop-rest.invariant.1)

pub loop-rest-preserved : goal.loop-rest-preserved
loop-rest-preserved c = (c.loop-rest.invariant.0, partly_more _ _ _ _ _ _ c.loop-rest.invariant.1 (omega arith))

pub bounds-buf-at : goal.bounds-buf-at
bounds-buf-at c = omega (arith, length_some c.loop-rest.rest)

pub shape_of-buf : goal.shape_of-buf
shape_of-buf c = simp length-set c.loop-rest.invariant.1.size

pub returns : goal.returns
returns c = record { bytes = partly-whole _ _ _ _ _ _ c.loop-rest.invariant.1 (omega arith); next = c.loop-rest.invariant.0 }
