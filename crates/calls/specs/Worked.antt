-- The worked turns (turn/specs/Worked) as runs: each is accepted, and a run of one leaves what is stated for it.
--   CasesRight      all of them are accepted as calls, are of the kinds stated, and leave the tables stated
--   Worked          the same of a run that is one of them, of job bytes s from a table t with the schedule ws: its answer r, the table u;
--                   and, of any run, the tally that goes with its answer
use Rattle.std.specs.Prelude.{ℕ, ◌≡◌, List, map, replicate, Result, IfOk, IfErr}
use Rattle.job.specs.Format.{job_of}
use Rattle.job.specs.Encoding.{encode, ◌∈◌}
use Rattle.job.specs.Check.{Accepted}
use Rattle.job.specs.declared.Refusal.{Refusal}
use Rattle.turn.specs.Worked.{Case, cases, TurnsRight}
use Rattle.calls.specs.Calls.{run_check, tally, run_tally}

pub record CasesRight : Type 0 where
  pub accepted : map (λ c. run_check (encode c.job) c.before c.schedule) cases ≡ map (λ c. Accepted) cases
  pub turns : TurnsRight

pub record Worked (s t ws : List ℕ) (r : Result (List ℕ) Refusal) (u : List ℕ) : Type 0 where
  pub right : CasesRight
  pub made :
      (c : Case) → c ∈ cases → job_of s ≡ c.job → t ≡ c.before → ws ≡ c.schedule
      → IfOk r (λ counts. (counts ≡ tally c.kinds) × (u ≡ c.left))
  -- the counts that it answers, and zeros where it is refused, by whatever row
  pub counts : IfOk r (λ counts. run_tally (run_check s t ws) s t ws ≡ counts)
  pub none : IfErr r (λ refusal. run_tally (run_check s t ws) s t ws ≡ replicate 8 0)
