-- Words past those used decide nothing: calls on two tables of job s that agree on the words used (steps/specs/Agreeing: Agree).
--   SameAnswers s t u   whatever call is made next, it answers the same on t as on u, a refusal with its number and place, a run with its tally
--   Alike s t u xs      the list xs from t and from u: the tables it leaves, what further calls answer, its turns and their kinds
use Rattle.std.specs.Prelude.{ℕ, ◌≡◌, List, map}
use Rattle.job.specs.Format.{job_of}
use Rattle.steps.specs.Agreeing.{Agree}
use Rattle.calls.specs.Calls.{turn_check, turn_answer, run_tally, run_check, run_answer, read_check, read_answer}
use Rattle.calls.specs.Lists.{Call, after, turns_of, Event, events}

-- a turn of any worker, a run of any schedule, a reading of any claim, taken or refused
pub record SameAnswers (s t u : List ℕ) : Type 0 where
  pub turns : (w : ℕ) → turn_answer (turn_check s t w) s t w ≡ turn_answer (turn_check s u w) s u w
  pub runs : (ws : List ℕ) → run_answer s t ws ≡ run_answer s u ws
  pub reads : (c : ℕ) → read_answer (read_check s t c) t c ≡ read_answer (read_check s u c) u c
  pub tallies : (ws : List ℕ) → run_tally (run_check s t ws) s t ws ≡ run_tally (run_check s u ws) s u ws

pub record Alike (s t u : List ℕ) (xs : List Call) : Type 0 where
  -- the tables after the list agree on the words used
  pub words : Agree (job_of s) (after s t xs) (after s u xs)
  -- every further call answers the same on both
  pub answers : SameAnswers s (after s t xs) (after s u xs)
  -- the list makes the same turns, of the same workers in the same order
  pub turns : turns_of s t xs ≡ turns_of s u xs
  -- and they are of the same kinds
  pub kinds : map (λ (e : Event). e.kind) (events s t xs) ≡ map (λ (e : Event). e.kind) (events s u xs)
