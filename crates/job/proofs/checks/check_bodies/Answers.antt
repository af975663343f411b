use mathlib.Core.Path.{◌≡◌, refl, ◌∙◌, ap}
use native.Mathlib.Omega.{arith}
use borrow.Author.Count.{below_none, below_more}
use Rattle.base.proofs.Compare.{under-yes, under-no, over_yes, over_no}
use Rattle.job.proofs.Parts.{body_start-next, body-within}
use Rattle.job.proofs.Rows.{scan_none, scan_at, pass, stop, go, halt, placed}
use Rattle.job.specs.Checks.{check_bodies}
use Rattle.job.specs.Format.{rules, body_start}
use Rattle.job.proofs.checks.check_bodies.Goals as goal

pub returns-then-sum_of_lengths-literals : goal.returns-then-sum_of_lengths-literals
unfolding check_bodies
returns-then-sum_of_lengths-literals c = let s = c.args.job.now in
    let whole = c.sum_of_lengths.ensures in
    go _ _ refl (scan_none _ _ _ _ (λ k h. over_no _ _ (omega (arith, body-within s k (rules s) h)))) (pass _ _ _ _ (under-no _ _ (omega arith)) refl)

pub loop-i-init : goal.loop-i-init
unfolding body_start
loop-i-init c = (omega arith, refl, omega arith, below_none _)

pub returns-then-literals-passed : goal.returns-then-literals-passed
unfolding check_bodies
returns-then-literals-passed c = let l = c.loop-i in
    halt _ _ c.refused.ensures (c.refused.ensures ∙ scan_at _ _ l.i _ _ (omega arith) l.invariant.3 (over_yes _ _ (omega arith)))

pub loop-i-preserved : goal.loop-i-preserved
loop-i-preserved c = let l = c.loop-i in (
  omega arith,
  omega (arith, body_start-next c.args.job.now l.i),
  omega arith,
  below_more _ _ l.invariant.3 (over_no _ _ (omega arith)),
)

pub returns-then-passed-literals : goal.returns-then-passed-literals
unfolding check_bodies
returns-then-passed-literals c = let s = c.args.job.now in
    let l = c.loop-i in
    let e : l.i ≡ rules s = omega arith in
    placed c.refused-then-passed-literals.ensures (omega arith)
    ∙ go _ _ refl (scan_none _ _ _ _ (λ k h. l.invariant.3 k (omega arith))) (stop _ _ _ _ (under-yes _ _ (omega (arith, ap (body_start s) e))))

pub returns : goal.returns
unfolding check_bodies
returns c = let s = c.args.job.now in
    let l = c.loop-i in
    let e : l.i ≡ rules s = omega arith in
    go _ _ refl (scan_none _ _ _ _ (λ k h. l.invariant.3 k (omega arith))) (pass _ _ _ _ (under-no _ _ (omega (arith, ap (body_start s) e))) refl)
