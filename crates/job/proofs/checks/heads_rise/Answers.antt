use native.Mathlib.Omega.{arith}
use mathlib.Core.Path.{sym, ◌∙◌}
use borrow.Author.Count.{below_more}
use Rattle.base.proofs.Compare.{under-no, not_below-no}
use Rattle.base.proofs.Bools.{and_both, or_no}
use Rattle.std.proofs.lemmas.Bool.{ltb-true, leb-true}
use Rattle.job.proofs.Parts.{head_before-next}
use Rattle.job.proofs.checks.heads_rise.Goals as goal

pub loop-i-init : goal.loop-i-init
loop-i-init c = (omega arith, c.head_before-before.ensures.value, λ e k h l. absurd (omega arith))

pub loop-i-preserved : goal.loop-i-preserved
loop-i-preserved c = let l = c.loop-i in (
  omega arith,
  c.head_at-head.ensures.value ∙ sym (head_before-next _ l.i),
  λ e. let both = and_both _ _ e in
      let first = and_both _ _ both.0 in
      let low = ltb-true _ _ first.1 in
      let up = leb-true _ _ both.1 in
      below_more _ _ (l.invariant.2 first.0) (λ h. or_no _ _ (not_below-no _ _ (omega arith)) (under-no _ _ (omega arith))),
)

pub returns : goal.returns
returns c = λ e k h. c.loop-i.invariant.2 e k (omega arith)
