use mathlib.Core.Path.{refl}
use native.Mathlib.Omega.{arith}
use Rattle.writing.proofs.Wrote.{copy_start, copy_more, copy-whole}
use Rattle.writing.proofs.put.put_bytes.Goals as goal

pub loop-k-init : goal.loop-k-init
loop-k-init c = copy_start _ _ c.args.s.now

pub loop-k-preserved : goal.loop-k-preserved
loop-k-preserved c = copy_more _ _ _ _ _ c.loop-k.invariant (omega arith) (omega arith)

pub returns : goal.returns
returns c = record { bytes = copy-whole _ _ _ _ _ c.loop-k.invariant (omega arith); next = refl }
