use mathlib.Core.Path.{refl}
use native.Mathlib.Omega.{arith}
use Rattle.table.proofs.SearchAll.{kept_none, kept_one}
use Rattle.table.proofs.newest.keep_newest.Goals as goal

pub loop-w-init : goal.loop-w-init
loop-w-init c = kept_none _ _

pub loop-w-preserved : goal.loop-w-preserved
loop-w-preserved c = let l = c.loop-w in
    kept_one _ l.w c.newest_claims-found.ensures (omega arith) l.invariant refl c.set_newest.ensures
