-- A worker's questions (01, 'Job bytes': "A worker's questions are put in file order").
--   positions_of qs k w   where w's questions stand in qs, whose first is at position k
--   asked_by j w          the positions in the file of w's questions, in order
--   Counted j ns          the numbers ns say how many questions each worker has, and past the workers they are 0
--   places_from           the places of an index start here, after an entry for each worker and one more; question_entries   all entries
--   count_in index w      how many questions w has, by an index: from where its places start to where the next worker's do
--   place_in index w n    where w's question n stands in the file, by an index
--   Ends counts index     entry w is where w's places end, by how many questions each worker has; past the workers too
--   Listed j index        an index of questions: how many each worker has, and where they stand in the file
--   claim_asked qs k      the claim of question k
--   question_claim j w n  the claim of w's question n, from 0
use Rattle.std.specs.Prelude.{ℕ, zero, suc, ◌+◌, ◌-◌, ◌<◌, ◌≤◌, ◌≡◌, List, [], ◌∷◌, eqb, length, get_or}
use Rattle.base.specs.Choose.{pick}
use Rattle.base.specs.Sum.{sum}
use Rattle.job.specs.Job.{Job, most_workers, most_questions}
use Rattle.job.specs.declared.Question.{Question}

unfoldable pub positions_of : List Question → ℕ → ℕ → List ℕ
unfolding pick
positions_of [] k w = []
positions_of (q ∷ qs) k w = pick (eqb q.worker w) (k ∷ positions_of qs (suc k) w) (positions_of qs (suc k) w)

unfoldable pub asked_by : Job → ℕ → List ℕ
asked_by j w = positions_of j.questions 0 w

pub record Counted (j : Job) (ns : List ℕ) : Type 0 where
  pub counts : (w : ℕ) → w < j.workers → get_or ns w 0 ≡ length (asked_by j w)
  pub past : (w : ℕ) → j.workers ≤ w → get_or ns w 0 ≡ 0

abbrev pub places_from : ℕ
places_from = most_workers + 1

abbrev pub question_entries : ℕ
question_entries = places_from + most_questions

abbrev pub count_in : List ℕ → ℕ → ℕ
count_in index w = get_or index (w + 1) 0 - get_or index w 0

abbrev pub place_in : List ℕ → ℕ → ℕ → ℕ
place_in index w n = get_or index (places_from + (get_or index w 0 + n)) 0

pub record Ends (counts index : List ℕ) : Type 0 where
  pub size : length index ≡ question_entries
  pub ends : (w : ℕ) → w < places_from → get_or index w 0 ≡ sum (λ v. get_or counts v 0) (suc w)

pub record Listed (j : Job) (index : List ℕ) : Type 0 where
  pub counts : (w : ℕ) → w < j.workers → count_in index w ≡ length (asked_by j w)
  pub places : (w n : ℕ) → w < j.workers → n < length (asked_by j w) → place_in index w n ≡ get_or (asked_by j w) n 0
  pub few : j.workers ≤ most_workers
  pub rise : (w : ℕ) → w < j.workers → get_or index w 0 ≤ get_or index (w + 1) 0
  pub within : (w : ℕ) → w < j.workers → get_or index (w + 1) 0 ≤ most_questions

unfoldable pub claim_asked : List Question → ℕ → ℕ
claim_asked [] k = 0
claim_asked (q ∷ qs) zero = q.claim
claim_asked (q ∷ qs) (suc k) = claim_asked qs k

unfoldable pub question_claim : Job → ℕ → ℕ → ℕ
question_claim j w n = claim_asked j.questions (get_or (asked_by j w) n 0)
