use mathlib.Core.Path.{refl, ◌∙◌}
use native.Mathlib.Omega.{arith}
use borrow.Author.Count.{below_more}
use Rattle.job.proofs.Rows.{scan_none, scan_at, placed}
use Rattle.job.specs.Format.{job_of}
use Rattle.table.proofs.Sizes.{sizes, word_bad, word_good}
use Rattle.table.specs.Layout.{answer_word}
use Rattle.table.proofs.checks.check_answers.Goals as goal

pub answer_at-requires : goal.answer_at-requires
answer_at-requires c = let z = sizes c.args.job.now in omega arith

pub returns-then-answer_at-gt-MOST_VALUE : goal.returns-then-answer_at-gt-MOST_VALUE
returns-then-answer_at-gt-MOST_VALUE c = let a = c.args in
    let z = sizes a.job.now in
    let l = c.loop-k in
    placed c.bad_word.ensures (omega arith)
    ∙ scan_at _ _ l.k _ (answer_word (job_of a.job.now)) (omega arith) l.invariant
    (word_bad a.table.now (omega arith) c.answer_at.ensures.value refl c.if-answer_at-gt-MOST_VALUE.true)

pub loop-k-preserved : goal.loop-k-preserved
loop-k-preserved c = let a = c.args in
    let z = sizes a.job.now in
    let l = c.loop-k in
    below_more _ _ l.invariant (word_good a.table.now (omega arith) c.answer_at.ensures.value refl c.if-answer_at-gt-MOST_VALUE.false)

pub returns : goal.returns
returns c = let z = sizes c.args.job.now in
    scan_none _ _ _ _ (λ k l. c.loop-k.invariant k (omega arith))
