use mathlib.Core.Path.{◌≡◌, refl, ◌∙◌, ap}
use lib.Dec.{eqb}
use lib.ListN.{length}
use Rattle.base.specs.Choose.{pick}
use Rattle.job.specs.Job.{literals_of}
use Rattle.table.proofs.Fitting.{counted}
use native.Mathlib.Omega.{arith}
use Rattle.job.proofs.Rows.{pass, stop, placed}
use Rattle.job.specs.Format.{job_of}
use Rattle.table.proofs.Marks.{mark_test, cursor_bad, cursor-good, number_test}
use Rattle.table.specs.Ranges.{check_claim}
use Rattle.table.proofs.checks.check_claim.Goals as goal
use Rattle.table.proofs.checks.check_claim.Goals.{After-most_passed}

-- how many literals the claim may have passed, in the terms of the table
passed : (c : After-most_passed) → c.most_passed.result ≡ pick (eqb c.mark_at-mark.result 0) 0 (length (literals_of c.args.c (job_of c.args.job.now).rules))
passed c =
    let all = c.cursor-all.ensures in
    c.most_passed.ensures ∙ ap (pick (eqb c.mark_at-mark.result 0) 0) (counted _ _ c.args.c all.accepted c.requires.index c.requires.claim all.value).1

pub mark_at-mark-requires : goal.mark_at-mark-requires
unfolding job_of
mark_at-mark-requires c = omega arith

pub returns-then-is_bad_mark : goal.returns-then-is_bad_mark
unfolding check_claim
returns-then-is_bad_mark c = let a = c.args in
    let j = job_of a.job.now in
    let t = a.table.now in
    placed c.bad_word.ensures c.mark_word.ensures
    ∙ stop _ _ _ _ (mark_test j t a.c c.mark_at-mark.ensures.value c.is_bad_mark.ensures c.if-is_bad_mark.true)

pub cursor_at-requires : goal.cursor_at-requires
unfolding job_of
cursor_at-requires c = omega arith

pub returns-then-most_passed-cursor_at : goal.returns-then-most_passed-cursor_at
unfolding check_claim
returns-then-most_passed-cursor_at c = let a = c.args in
    let j = job_of a.job.now in
    let t = a.table.now in
    let m = c.mark_at-mark.ensures.value in
    placed c.bad_word-then-most_passed-cursor_at.ensures c.cursor_word.ensures
    ∙ pass _ _ _ _ (mark_test j t a.c m c.is_bad_mark.ensures c.if-is_bad_mark.false)
    (stop _ _ _ _ (cursor_bad j t a.c m (passed (goal.at.returns-then-most_passed-cursor_at c).After-most_passed) c.cursor_at.ensures.value c.if-most_passed-cursor_at.true))

pub number_at-requires : goal.number_at-requires
unfolding job_of
number_at-requires c = omega arith

pub returns-then-is_bad_number : goal.returns-then-is_bad_number
unfolding check_claim
returns-then-is_bad_number c = let a = c.args in
    let j = job_of a.job.now in
    let t = a.table.now in
    let m = c.mark_at-mark.ensures.value in
    placed c.bad_word-then-is_bad_number.ensures c.number_word.ensures
    ∙ pass _ _ _ _ (mark_test j t a.c m c.is_bad_mark.ensures c.if-is_bad_mark.false)
    (pass _ _ _ _ (cursor-good j t a.c m (passed (goal.at.returns-then-is_bad_number c).After-most_passed) c.cursor_at.ensures.value c.if-most_passed-cursor_at.false)
    (stop _ _ _ _ (number_test j t a.c m c.number_at.ensures.value c.is_bad_number.ensures c.if-is_bad_number.true)))

pub returns : goal.returns
unfolding check_claim
returns c = let a = c.args in
    let j = job_of a.job.now in
    let t = a.table.now in
    let m = c.mark_at-mark.ensures.value in
    pass _ _ _ _ (mark_test j t a.c m c.is_bad_mark.ensures c.if-is_bad_mark.false)
    (pass _ _ _ _ (cursor-good j t a.c m (passed (goal.at.returns c).After-most_passed) c.cursor_at.ensures.value c.if-most_passed-cursor_at.false)
    (pass _ _ _ _ (number_test j t a.c m c.number_at.ensures.value c.is_bad_number.ensures c.if-is_bad_number.false) refl))
