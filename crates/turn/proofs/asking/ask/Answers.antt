use Prim.Native.Nat.{◌≤◌, ℕ, ◌+◌, ◌<◌}
use mathlib.Core.List.{List}
use mathlib.Core.Path.{◌≡◌, sym, ◌∙◌, ap, refl}
use native.Mathlib.Omega.{arith}
use lib.ListN.{length, set, length-set}
use Rattle.job.proofs.Written.{questions_count}
use Rattle.job.specs.Format.{questions, claims, workers, job_of}
use Rattle.job.proofs.Parts.{Asked, asked_at}
use Rattle.job.specs.Job.{most_claims, most_workers}
use Rattle.table.specs.Questions.{asked_by}
use Rattle.table.specs.Layout.{mark, answer_at, answered_at}
use Rattle.table.proofs.Asked.{asked_most}
use Rattle.turn.proofs.Tests.{complete-yes, complete-no}
use Rattle.turn.proofs.Making.{made-from}
use Rattle.turn.proofs.PutQuestion.{claim-low, fresh_left, puts-answered, puts-opened, puts-waits}
use Rattle.turn.proofs.Following.{room}
use Rattle.turn.proofs.Places.{place-low}
use Rattle.turn.proofs.ThirdWords.{kept_low}
use Rattle.table.proofs.Sizes.{sizes}
use Rattle.turn.proofs.Jobs.{job_ok}
use Rattle.turn.proofs.KeptTurns.{await-keeps, answer_keeps, open_forgets}
use Rattle.turn.proofs.asking.ask.Goals as goal
use Rattle.turn.proofs.asking.ask.Goals.{After-question_at-question}

pub question_at-question-requires : goal.question_at-question-requires
question_at-question-requires c = let a = c.args in
    let p = c.requires in
    omega (arith, place-low (job_of a.job.now) a.w a.n p.n_value.1, p.n_value.2, (sizes a.job.now).questions_are)

-- the question that was read, in the job's terms
asked : (c : After-question_at-question) → Asked c.args.job.now c.args.k c.question_at-question.result
asked c = asked_at _ _ refl refl c.question_at-question.ensures.value

-- what the stores go by: the words are there, the claim is one of the job's, and the count of answers is small
record Sure (s t : List ℕ) (w n k claim : ℕ) : Type 0 where
  words : answer_at (claims s) (workers s) (questions s) ≤ length t
  low : claim < claims s
  few : n < most_claims
  most : claims s ≤ most_claims
  crew : workers s ≤ most_workers

few-asked : (s : List ℕ) (w : ℕ) → length (asked_by (job_of s) w) ≤ questions s
unfolding asked_by
few-asked s w = omega (arith, asked_most (job_of s).questions 0 w, questions_count s)

sure : (c : After-question_at-question) → Sure c.args.job.now c.args.table.now c.args.w c.args.n c.args.k c.question_at-question.result.claim
unfolding job_of
sure c =
    let a = c.args in
    let s = a.job.now in
    let t = a.table.now in
    let p = c.requires in
    record {
      words = room s t p.in_range.0;
      low = claim-low s t a.w a.n a.k c.question_at-question.result (mark t c.question_at-question.result.claim) c.claim_count-claims.ensures.accepted p.in_range.2 p.in_range.1 p.n_value.0 p.n_value.1 p.n_value.2 (asked c) refl;
      few = omega (arith, p.n_value.0, p.in_range.0.answers a.w p.in_range.1, few-asked s a.w, questions_count s, c.claim_count-claims.ensures.accepted.sized.questions_most);
      most = c.claim_count-claims.ensures.accepted.sized.claims_most;
      crew = c.claim_count-claims.ensures.accepted.sized.workers_most;
    }

pub mark_at-mark-requires : goal.mark_at-mark-requires
mark_at-mark-requires c = omega (arith, sure (goal.at.mark_at-mark-requires c).After-question_at-question)

pub set_answer-requires : goal.set_answer-requires
set_answer-requires c = let p = c.requires in
    omega (arith, sure (goal.at.set_answer-requires c).After-question_at-question, place-low (job_of c.args.job.now) c.args.w c.args.n p.n_value.1, p.n_value.2, (sizes c.args.job.now).questions_are, c.claim_count-claims.ensures.value, c.worker_count-workers.ensures.value, c.value_of.ensures, c.mark_at-mark.ensures.small)

pub overflow_add-n : goal.overflow_add-n
overflow_add-n c = omega (arith, sure ((goal.at.overflow_add-n c).After-question_at-question))

-- storing a word keeps the length
longer : (t u : List ℕ) (i v : ℕ) → u ≡ set t i v → length u ≡ length t
longer t u i v e = ap length e ∙ length-set t i v

pub set_answered-requires : goal.set_answered-requires
set_answered-requires c = let a = c.args in
    let p = c.requires in
    let m = c.claim_count-claims.ensures.value in
    let z = longer a.table.now c.set_answer.new.table (answer_at c.claim_count-claims.result c.worker_count-workers.result a.k) c.value_of.result c.set_answer.ensures in
    omega (arith, sure ((goal.at.set_answered-requires c).After-question_at-question), p.in_range.1, m, z)

pub returns-then-is_complete-clause-done : goal.returns-then-is_complete-clause-done
returns-then-is_complete-clause-done c = let a = c.args in
    let s = a.job.now in
    let t = a.table.now in
    let p = c.requires in
    let q = c.question_at-question.result in
    let v = c.value_of.ensures in
    let one = c.set_answer.ensures ∙ ap (set t (answer_at c.claim_count-claims.result c.worker_count-workers.result a.k)) v in
    record {
      made = made-from (c.set_answered.ensures ∙ ap (λ (x : List ℕ). set x (answered_at c.claim_count-claims.result a.w) (a.n + 1)) one)
          (puts-answered s t a.w a.n a.k q c.mark_at-mark.result c.claim_count-claims.ensures.accepted p.in_range.2 p.in_range.1 p.n_value.0 p.n_value.1 p.n_value.2 (asked (goal.at.returns-then-is_complete-clause-done c).After-question_at-question) c.mark_at-mark.ensures.value (complete-yes c.is_complete.ensures c.if-is_complete.true) c.claim_count-claims.ensures.value c.worker_count-workers.ensures.value);
      keeps = answer_keeps _ (job_ok _ c.claim_count-claims.ensures.accepted) _ _ _ _ c.requires.keeps _ _ _ _ _ (c.claim_count-claims.ensures.value ∙ sym (sizes s).claims_are) (c.set_answered.ensures ∙ ap (λ (x : List ℕ). set x (answered_at c.claim_count-claims.result a.w) (a.n + 1)) one);
    }

pub open_newest-requires : goal.open_newest-requires
open_newest-requires c = let a = c.args in
    let p = c.requires in
    let n = c.claim_count-claims.ensures.value in
    let r = sure (goal.at.open_newest-requires c).After-question_at-question in record { c_lt_claims = (omega (arith, r, n), omega (arith, r, n), omega (arith, r, n, p.in_range.1), omega (arith, r, p.in_range.1)); table_bound = (fresh_left a.job.now a.table.now c.claim_count-claims.ensures.accepted p.in_range.0 c.question_at-question.result.claim r.low (sym c.mark_at-mark.ensures.value ∙ c.if-mark-eq0.true), kept_low a.job.now a.table.now p.in_range.2 a.w p.in_range.1 n) }

pub returns-then-mark-eq0-clause-done : goal.returns-then-mark-eq0-clause-done
returns-then-mark-eq0-clause-done c = let a = c.args in
    let p = c.requires in
    record {
      made = puts-opened a.job.now a.table.now a.w a.n a.k c.question_at-question.result c.mark_at-mark.result c.claim_count-claims.ensures.accepted p.in_range.2 p.in_range.1 p.n_value.0 p.n_value.1 p.n_value.2 (asked (goal.at.returns-then-mark-eq0-clause-done c).After-question_at-question) c.mark_at-mark.ensures.value c.if-mark-eq0.true p.in_range.0 c.claim_count-claims.ensures.value c.open_newest.ensures;
      keeps = open_forgets _ (job_ok _ c.claim_count-claims.ensures.accepted) _ _ _ _ c.requires.keeps _ _ (omega (arith, (sizes a.job.now).claims_are, (sure (goal.at.returns-then-mark-eq0-clause-done c).After-question_at-question).low)) (sym c.mark_at-mark.ensures.value ∙ c.if-mark-eq0.true) ((p.in_range.0.claim _ (omega (arith, (sizes a.job.now).claims_are, (sure (goal.at.returns-then-mark-eq0-clause-done c).After-question_at-question).low))).unread (sym c.mark_at-mark.ensures.value ∙ c.if-mark-eq0.true)) (omega (arith, p.in_range.1, c.claim_count-claims.ensures.accepted.sized.workers_most)) (omega (arith, p.in_range.0.room)) _ (c.claim_count-claims.ensures.value ∙ sym (sizes a.job.now).claims_are) c.open_newest.ensures;
    }

pub overflow_add-claim : goal.overflow_add-claim
overflow_add-claim c = omega (arith, sure ((goal.at.overflow_add-claim c).After-question_at-question))

pub set_awaited-requires : goal.set_awaited-requires
set_awaited-requires c = omega (arith, sure ((goal.at.set_awaited-requires c).After-question_at-question), c.requires.in_range.1, c.claim_count-claims.ensures.value)

pub returns-clause-done : goal.returns-clause-done
returns-clause-done c = let a = c.args in
    let p = c.requires in
    record {
      made = made-from c.set_awaited.ensures
          (puts-waits a.job.now a.table.now a.w a.n a.k c.question_at-question.result c.mark_at-mark.result c.claim_count-claims.ensures.accepted p.in_range.2 p.in_range.1 p.n_value.0 p.n_value.1 p.n_value.2 (asked (goal.at.returns-clause-done c).After-question_at-question) c.mark_at-mark.ensures.value c.if-mark-eq0.false (complete-no c.is_complete.ensures c.if-is_complete.false) c.claim_count-claims.ensures.value);
      keeps = await-keeps _ (job_ok _ c.claim_count-claims.ensures.accepted) _ _ _ _ c.requires.keeps _ _ (c.claim_count-claims.ensures.value ∙ sym (sizes a.job.now).claims_are) c.set_awaited.ensures;
    }
