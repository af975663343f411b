use Rattle.job.proofs.Rows.{onward, exit}
use Rattle.table.specs.Ranges.{check_words}
use Rattle.table.proofs.checks.check_words.Goals as goal

pub returns-in_err-check_header : goal.returns-in_err-check_header
unfolding check_words
returns-in_err-check_header c = exit _ _ c.from_residual.ensures.1 c.in_err-check_header.ensures

pub returns-in_err-check_opened : goal.returns-in_err-check_opened
unfolding check_words
returns-in_err-check_opened c = onward _ _ c.in_ok-check_header.ensures (exit _ _ c.from_residual-in_err-check_opened.ensures.1 c.in_err-check_opened.ensures)

pub returns-in_err-check_claims : goal.returns-in_err-check_claims
unfolding check_words
returns-in_err-check_claims c = onward _ _ c.in_ok-check_header.ensures
    (onward _ _ c.in_ok-check_opened.ensures (exit _ _ c.from_residual-in_err-check_claims.ensures.1 c.in_err-check_claims.ensures))

pub returns-in_err-check_workers : goal.returns-in_err-check_workers
unfolding check_words
returns-in_err-check_workers c = onward _ _ c.in_ok-check_header.ensures
    (onward _ _ c.in_ok-check_opened.ensures
    (onward _ _ c.in_ok-check_claims.ensures (exit _ _ c.from_residual-in_err-check_workers.ensures.1 c.in_err-check_workers.ensures)))

pub returns : goal.returns
unfolding check_words
returns c = onward _ _ c.in_ok-check_header.ensures
    (onward _ _ c.in_ok-check_opened.ensures
    (onward _ _ c.in_ok-check_claims.ensures (onward _ _ c.in_ok-check_workers.ensures c.check_answers.ensures)))
