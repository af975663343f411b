-- The turns after the schedule (01, 'The listing program': "After the schedule, workers take turns 0 to T - 1 over and over, none once all is answered.").
--   answered_all j t       all questions are answered, by the words
--   next_worker j w        0 after the last worker
--   finish_turns n j t w   the workers of the turns taken from table t, from worker w on, at most n
--   most j                 as many turns as 2L + A + 3Q rounds have
--   Finished s             from a fresh start, after the turns of any schedule, the finishing turns answer all
use Rattle.std.specs.Prelude.{ℕ, zero, suc, ◌+◌, ◌*◌, ◌<◌, Bool, true, List, [], ◌∷◌, ◌++◌, ◌≡◌, leb, eqb, length, get_or}
use Rattle.base.specs.Choose.{pick}
use Rattle.base.specs.Lists.{upto, every}
use Rattle.job.specs.Job.{Job}
use Rattle.job.specs.Format.{job_of}
use Rattle.table.specs.Questions.{asked_by}
use Rattle.table.specs.Layout.{answered}
use Rattle.table.specs.Start.{start_words}
use Rattle.turn.specs.Turn.{turn, run_table}
use Rattle.calls.specs.Promise.{Fresh, bound}

unfoldable pub answered_all : Job → List ℕ → Bool
answered_all j t = every (λ w. leb (length (asked_by j w)) (answered j t w)) (upto j.workers)

unfoldable pub next_worker : Job → ℕ → ℕ
unfolding pick
next_worker j w = pick (eqb (w + 1) j.workers) 0 (w + 1)

unfoldable pub finish_turns : ℕ → Job → List ℕ → ℕ → List ℕ
unfolding pick
finish_turns zero j t w = []
finish_turns (suc n) j t w = pick (answered_all j t) [] (w ∷ finish_turns n j (turn j t w).table (next_worker j w))

abbrev pub most : Job → ℕ
most j = bound j * j.workers

-- they answer all, also where their number ends them
abbrev pub Finished : List ℕ → Type 0
Finished s =
    (t : List ℕ) → Fresh s t → (ws : List ℕ) → ((i : ℕ) → i < length ws → get_or ws i 0 < (job_of s).workers)
    → answered_all (job_of s) (run_table (job_of s) (start_words (job_of s) t) (ws ++ finish_turns (most (job_of s)) (job_of s) (run_table (job_of s) (start_words (job_of s) t) ws) 0)) ≡ true
