use mathlib.Core.Bool.{not}
use mathlib.Core.Path.{◌≡◌, sym, ◌∙◌, ap}
use native.Mathlib.Omega.{arith}
use Rattle.base.proofs.Sets.{count_none, count_yes, count_no, count_le}
use Rattle.base.specs.Sets.{count}
use Rattle.job.specs.Format.{claims as claims_of, job_of}
use Rattle.table.proofs.Marks.{marked-yes, marked-no}
use Rattle.table.specs.Ranges.{marked}
use Rattle.table.specs.Layout.{fresh}
use Rattle.table.proofs.checks.count_marks.Goals as goal
use Rattle.table.proofs.checks.count_marks.Goals.{then-mark_at-ne0, else-mark_at-ne0}

pub loop-c-init : goal.loop-c-init
loop-c-init c = sym (count_none _)

pub mark_at-requires : goal.mark_at-requires
unfolding job_of
mark_at-requires c = omega arith

pub overflow_add-n : goal.overflow_add-n
overflow_add-n c = omega (arith, count_le (λ d. not (fresh c.args.table.now d)) c.loop-c.c)

pub loop-c-preserved : goal.loop-c-preserved
loop-c-preserved c = let t = c.args.table.now in
    let l = c.loop-c in
    let e = c.mark_at.ensures.value in
    elim c.if-mark_at-ne0.branch [
      | then-mark_at-ne0 w ↦ omega (arith, count_yes (λ d. not (fresh t d)) l.c (marked-yes t l.c e w.if-mark_at-ne0.true))
      | else-mark_at-ne0 w ↦ omega (arith, count_no (λ d. not (fresh t d)) l.c (marked-no t l.c e w.if-mark_at-ne0.false))
    ]

pub returns : goal.returns
unfolding marked job_of
returns c = let e : c.loop-c.c ≡ claims_of c.args.job.now = omega arith in
    c.loop-c.invariant ∙ ap (count (λ d. not (fresh c.args.table.now d))) e
