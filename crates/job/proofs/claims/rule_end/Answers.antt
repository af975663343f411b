use mathlib.Core.Path.{◌≡◌, sym, ◌∙◌}
use native.Mathlib.Omega.{arith}
use Rattle.job.proofs.IndexEnds.{end_seek, seek_found, seek-on, seek_over}
use Rattle.job.proofs.claims.rule_end.Goals as goal

pub loop-end-init : goal.loop-end-init
loop-end-init c = sym (end_seek _ _)

pub returns-then-bounded : goal.returns-then-bounded
returns-then-bounded c = (sym (seek_found _ _ (omega arith) (sym c.bounded.ensures ∙ c.if-bounded.true)) ∙ c.loop-end.invariant, omega arith)

pub loop-end-preserved : goal.loop-end-preserved
loop-end-preserved c = sym (seek-on _ _ (omega arith) (sym c.bounded.ensures ∙ c.if-bounded.false)) ∙ c.loop-end.invariant

pub returns : goal.returns
returns c = let e : 16385 ≡ c.loop-end.end = omega (arith, c.requires) in
    (e ∙ sym (seek_over _ _ c.loop-end-test.false) ∙ c.loop-end.invariant, omega arith)
