use mathlib.Core.Path.{subst⁻¹}
use native.Mathlib.Omega.{arith}
use Rattle.counting.proofs.Meeting.{Going, going_start, going_more, going_done}
use Rattle.counting.proofs.count_sets.Goals as goal

pub loop-k-init : goal.loop-k-init
loop-k-init c = let e = c.default-counts.ensures in going_start _ (omega arith, omega arith, omega arith, omega arith, omega arith)

pub met_set-counts-requires : goal.met_set-counts-requires
met_set-counts-requires c = let l = c.loop-k in
    let p = c.requires in
    (p.0, p.1, omega (arith, c.set_count-k-end.ensures.value), l.invariant.trues_low, l.invariant.falses_low, l.invariant.undefineds_low)

pub loop-k-preserved : goal.loop-k-preserved
loop-k-preserved c = let l = c.loop-k in
    subst⁻¹ (Going c.args.size _) c.met_set-counts.ensures (going_more c.args.size l.k l.counts l.invariant (omega (arith, c.set_count-k-end.ensures.value)))

pub returns : goal.returns
returns c = going_done _ _ _ c.loop-k.invariant (omega (arith, c.set_count-k-end.ensures.value))
