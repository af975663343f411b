use native.Mathlib.Omega.{arith}
use borrow.Author.Count.{below_more}
use Rattle.base.proofs.Compare.{not_below-no}
use Rattle.base.proofs.Bools.{and_both, or_no}
use Rattle.std.proofs.lemmas.Bool.{ltb-true}
use Rattle.job.proofs.Parts.{Asked, asked_at}
use Rattle.job.proofs.checks.questions_fit.Goals as goal
use Rattle.job.proofs.checks.questions_fit.Goals.{After-question_at-question}

pub loop-q-init : goal.loop-q-init
loop-q-init c = (omega arith, λ e k h l. absurd (omega arith))

-- the question that was read, in the terms of the table
asked : (c : After-question_at-question) → Asked c.args.job.now c.loop-q.q c.question_at-question.result
asked c =
    asked_at _ _ c.rule_count-rules.ensures.value c.literal_count-literals.ensures.value c.question_at-question.ensures

pub loop-q-preserved : goal.loop-q-preserved
loop-q-preserved c = let l = c.loop-q in
    let a = asked (goal.at.loop-q-preserved c).After-question_at-question in (
      omega arith,
      λ e. let both = and_both _ _ e in
          let first = and_both _ _ both.0 in
          let worker = ltb-true _ _ first.1 in
          let claim = ltb-true _ _ both.1 in
          below_more _ _ (l.invariant.1 first.0) (λ h. or_no _ _ (not_below-no _ _ (omega arith)) (not_below-no _ _ (omega arith))),
    )

pub returns : goal.returns
returns c = λ e k h. c.loop-q.invariant.1 e k (omega arith)
