use mathlib.Core.Path.{sym, ◌∙◌}
use native.Mathlib.Omega.{arith}
use borrow.Author.Count.{below_more}
use Rattle.base.proofs.Compare.{under-yes, under-no, not_below-yes, not_below-no}
use Rattle.base.proofs.Bools.{or_no, or_first, or_second}
use Rattle.job.proofs.Parts.{head_before-next}
use Rattle.job.proofs.Rows.{scan_none, scan_at}
use Rattle.job.specs.Checks.{check_heads}
use Rattle.job.proofs.checks.scan_heads.Goals as goal

pub loop-i-init : goal.loop-i-init
loop-i-init c = (c.requires.right.0, c.head_before-before.ensures.value, c.requires.right.1)

pub returns-then-claims-head : goal.returns-then-claims-head
unfolding check_heads
returns-then-claims-head c = let l = c.loop-i in
    c.refused.ensures ∙ scan_at _ _ l.i _ _ (omega arith) l.invariant.2 (or_first _ _ (not_below-yes _ _ (omega arith)))

pub returns-then-head-before : goal.returns-then-head-before
unfolding check_heads
returns-then-head-before c = let l = c.loop-i in
    c.refused-then-head-before.ensures ∙ scan_at _ _ l.i _ _ (omega arith) l.invariant.2 (or_second _ _ (not_below-no _ _ (omega arith)) (under-yes _ _ (omega arith)))

pub loop-i-preserved : goal.loop-i-preserved
loop-i-preserved c = let l = c.loop-i in (
  omega arith,
  c.head_at-head.ensures.value ∙ sym (head_before-next _ l.i),
  below_more _ _ l.invariant.2 (or_no _ _ (not_below-no _ _ (omega arith)) (under-no _ _ (omega arith))),
)

pub returns : goal.returns
unfolding check_heads
returns c = scan_none _ _ _ _ (λ k l. c.loop-i.invariant.2 k (omega arith))
