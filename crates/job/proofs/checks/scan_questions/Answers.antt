use mathlib.Core.Path.{◌∙◌}
use native.Mathlib.Omega.{arith}
use borrow.Author.Count.{below_more}
use Rattle.base.proofs.Compare.{not_below-yes, not_below-no}
use Rattle.base.proofs.Bools.{or_no, or_first, or_second}
use Rattle.job.proofs.Rows.{scan_none, scan_at, placed}
use Rattle.job.proofs.Parts.{Asked, asked_at}
use Rattle.job.specs.Checks.{check_questions}
use Rattle.job.proofs.checks.scan_questions.Goals as goal
use Rattle.job.proofs.checks.scan_questions.Goals.{After-question_at-question}

pub loop-q-init : goal.loop-q-init
loop-q-init c = c.requires.right

-- the question that was read, in the terms of the table
asked : (c : After-question_at-question) → Asked c.args.job.now c.loop-q.q c.question_at-question.result
asked c =
    asked_at _ _ c.rule_count-rules.ensures.value c.literal_count-literals.ensures.value c.question_at-question.ensures

pub returns-then-workers-question : goal.returns-then-workers-question
unfolding check_questions
returns-then-workers-question c = let l = c.loop-q in
    let a = asked (goal.at.returns-then-workers-question c).After-question_at-question in
    placed c.refused.ensures (omega arith)
    ∙ scan_at _ _ l.q _ _ (omega arith) l.invariant.1 (or_first _ _ (not_below-yes _ _ (omega arith)))

pub returns-then-claims-question : goal.returns-then-claims-question
unfolding check_questions
returns-then-claims-question c = let l = c.loop-q in
    let a = asked (goal.at.returns-then-claims-question c).After-question_at-question in
    placed c.refused-then-claims-question.ensures (omega arith)
    ∙ scan_at _ _ l.q _ _ (omega arith) l.invariant.1 (or_second _ _ (not_below-no _ _ (omega arith)) (not_below-yes _ _ (omega arith)))

pub loop-q-preserved : goal.loop-q-preserved
loop-q-preserved c = let l = c.loop-q in
    let a = asked (goal.at.loop-q-preserved c).After-question_at-question in
    (omega arith, below_more _ _ l.invariant.1 (or_no _ _ (not_below-no _ _ (omega arith)) (not_below-no _ _ (omega arith))))

pub returns : goal.returns
unfolding check_questions
returns c = scan_none _ _ _ _ (λ k l. c.loop-q.invariant.1 k (omega arith))
