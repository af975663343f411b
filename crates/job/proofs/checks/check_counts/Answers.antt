use mathlib.Core.Path.{refl, ◌∙◌}
use native.Mathlib.Omega.{arith}
use Rattle.base.proofs.Compare.{over_no, over_yes, under-no, under-yes}
use Rattle.job.proofs.Rows.{pass, stop}
use Rattle.job.specs.Checks.{check_counts}
use Rattle.job.proofs.checks.check_counts.Goals as goal

pub returns-then-claim_count-gt-MOST_CLAIMS : goal.returns-then-claim_count-gt-MOST_CLAIMS
unfolding check_counts
returns-then-claim_count-gt-MOST_CLAIMS c = c.refused.ensures ∙ stop _ _ _ _ (over_yes _ _ (omega arith))

pub returns-then-rule_count-gt-MOST_RULES : goal.returns-then-rule_count-gt-MOST_RULES
unfolding check_counts
returns-then-rule_count-gt-MOST_RULES c = c.refused-then-rule_count-gt-MOST_RULES.ensures ∙ pass _ _ _ _ (over_no _ _ (omega arith)) (stop _ _ _ _ (over_yes _ _ (omega arith)))

pub returns-then-literal_count-gt-MOST_LITERALS : goal.returns-then-literal_count-gt-MOST_LITERALS
unfolding check_counts
returns-then-literal_count-gt-MOST_LITERALS c = c.refused-then-literal_count-gt-MOST_LITERALS.ensures ∙ pass _ _ _ _ (over_no _ _ (omega arith)) (pass _ _ _ _ (over_no _ _ (omega arith)) (stop _ _ _ _ (over_yes _ _ (omega arith))))

pub returns-then-workers-lt1 : goal.returns-then-workers-lt1
unfolding check_counts
returns-then-workers-lt1 c = c.refused-then-workers-lt1.ensures ∙ pass _ _ _ _ (over_no _ _ (omega arith)) (pass _ _ _ _ (over_no _ _ (omega arith)) (pass _ _ _ _ (over_no _ _ (omega arith)) (stop _ _ _ _ (under-yes _ _ (omega arith)))))

pub returns-then-workers-gt-MOST_WORKERS : goal.returns-then-workers-gt-MOST_WORKERS
unfolding check_counts
returns-then-workers-gt-MOST_WORKERS c = c.refused-then-workers-gt-MOST_WORKERS.ensures ∙ pass _ _ _ _ (over_no _ _ (omega arith)) (pass _ _ _ _ (over_no _ _ (omega arith)) (pass _ _ _ _ (over_no _ _ (omega arith)) (pass _ _ _ _ (under-no _ _ (omega arith)) (stop _ _ _ _ (over_yes _ _ (omega arith))))))

pub returns-then-question_count-gt-MOST_QUESTIONS : goal.returns-then-question_count-gt-MOST_QUESTIONS
unfolding check_counts
returns-then-question_count-gt-MOST_QUESTIONS c = c.refused-then-question_count-gt-MOST_QUESTIONS.ensures ∙ pass _ _ _ _ (over_no _ _ (omega arith)) (pass _ _ _ _ (over_no _ _ (omega arith)) (pass _ _ _ _ (over_no _ _ (omega arith)) (pass _ _ _ _ (under-no _ _ (omega arith)) (pass _ _ _ _ (over_no _ _ (omega arith)) (stop _ _ _ _ (over_yes _ _ (omega arith)))))))

pub returns : goal.returns
unfolding check_counts
returns c = pass _ _ _ _ (over_no _ _ (omega arith)) (pass _ _ _ _ (over_no _ _ (omega arith)) (pass _ _ _ _ (over_no _ _ (omega arith)) (pass _ _ _ _ (under-no _ _ (omega arith)) (pass _ _ _ _ (over_no _ _ (omega arith)) (pass _ _ _ _ (over_no _ _ (omega arith)) refl)))))
