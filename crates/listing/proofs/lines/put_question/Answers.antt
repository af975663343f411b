use native.Mathlib.Omega.{arith}
use Rattle.table.proofs.Sizes.{words-room}
use Rattle.listing.proofs.Runs.{question_written}
use Rattle.listing.proofs.lines.put_question.Goals as goal

pub answer_at-value-requires : goal.answer_at-value-requires
answer_at-value-requires c = let a = c.args in
    let p = c.requires in
    omega (arith, words-room a.job.now a.table.now p.room, p.k_bound, c.claim_count-claims.ensures.value, c.worker_count-workers.ensures.value)

pub returns : goal.returns
returns c = let a = c.args in
    question_written a.job.now a.table.now a.k c.question_at-q.ensures.value c.claim_count-claims.ensures.value c.worker_count-workers.ensures.value c.answer_at-value.ensures.value c.mark_of_value.ensures c.reading_of-reading.ensures c.put_answer.ensures
