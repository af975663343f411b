use Rattle.table.proofs.Sizes.{header_is}
use Rattle.table.proofs.words.header_words.Goals as goal

pub returns : goal.returns
returns c = header_is _ c.claim_count-claims.ensures.value c.worker_count-workers.ensures.value c.question_count-questions.ensures.value c.workers_from-workers_at.ensures c.answers_from-answers_at.ensures c.answer_word-used.ensures
