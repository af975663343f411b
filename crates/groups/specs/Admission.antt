-- What the call promises besides its rows (02, order 8).
-- In the field's terms: noninterference (Goguen and Meseguer, 1982), of rules with what is answered.
--   Permitted s gs ws q     question q of the file may be put by its worker
--   LeadsAbroad s gs ws q   question q leads to a foreign group
--   Answer s gs ws r        r is the call's answer, in the order's words
--   Apart s s' gs ws w      what another group's rules can't change for worker w
--   Admission s gs ws       all of it
use Rattle.std.specs.Prelude.{ℕ, ◌<◌, ◌≡◌, List, ◌↔◌, length}
use Rattle.job.specs.Format.{claims, rules, literals, workers, questions, question_byte, job_of}
use Rattle.job.specs.Checks.{check_job}
use Rattle.job.specs.Check.{Check}
use Rattle.job.specs.Check.{Accepted, Refused}
use Rattle.semantics.specs.Leads.{LeadsTo}
use Rattle.semantics.specs.Model.{program_of, verdict}
use Rattle.table.specs.Questions.{asked_by, question_claim}
use Rattle.calls.specs.Lists.{Call, IsAnswered, answer_of, AllAnswered}
use Rattle.calls.specs.Promise.{Fresh, history}
use Rattle.groups.specs.Groups.{Open, MayPut, DifferElsewhere, group_of, asked, asker_group, admit_check}
use Rattle.groups.specs.Worked.{AdmissionsRight}

abbrev pub Permitted : List ℕ → List ℕ → List ℕ → ℕ → Type 0
Permitted s gs ws q = MayPut (job_of s) gs (asker_group s ws q) (asked s q).claim

pub record LeadsAbroad (s gs ws : List ℕ) (q : ℕ) : Type 0 where
  pub to : ℕ
  pub leads : LeadsTo (job_of s) (asked s q).claim to
  pub foreign : Open gs (asker_group s ws q) to → ⊥

-- each answer, and when it is given
pub data Answer (s gs ws : List ℕ) : Check → Type 0 where
  -- "after 8": rows 1 to 8 refuse as they do
  first : (number place : ℕ) → check_job s ≡ Refused number place → Answer s gs ws (Refused number place)
  -- "20 a list of wrong length (claims' first), with that length"
  claims_list : check_job s ≡ Accepted → (length gs ≡ claims s → ⊥) → Answer s gs ws (Refused 20 (length gs))
  workers_list : check_job s ≡ Accepted → length gs ≡ claims s → (length ws ≡ workers s → ⊥) → Answer s gs ws (Refused 20 (length ws))
  -- "21 a question that leads to a foreign group, with its byte": the first one
  question :
      check_job s ≡ Accepted → length gs ≡ claims s → length ws ≡ workers s → (q : ℕ) → q < questions s
      → ((k : ℕ) → k < q → Permitted s gs ws k) → LeadsAbroad s gs ws q → Answer s gs ws (Refused 21 (question_byte (rules s) (literals s) q))
  -- "A worker may put a question only if .."
  admitted :
      check_job s ≡ Accepted → length gs ≡ claims s → length ws ≡ workers s → ((q : ℕ) → q < questions s → Permitted s gs ws q)
      → Answer s gs ws Accepted

pub record Apart (s s' gs ws : List ℕ) (w : ℕ) : Type 0 where
  -- a question that is answered in both has the same answer, whatever else is open
  pub each :
      (t t' : List ℕ) → Fresh s t → Fresh s' t' → (xs xs' : List Call) (k : ℕ) → k < length (asked_by (job_of s) w)
      → IsAnswered (history s t xs) w k → IsAnswered (history s' t' xs') w k
      → answer_of (job_of s) (history s t xs) w k ≡ answer_of (job_of s') (history s' t' xs') w k
  -- all that w's questions lead to has the same verdict, also in plain evaluation
  pub verdicts :
      (k : ℕ) → k < length (asked_by (job_of s) w) → (d : ℕ) → LeadsTo (job_of s) (question_claim (job_of s) w k) d
      → verdict (program_of (job_of s')) d ≡ verdict (program_of (job_of s)) d
  -- and the other job lets w put its questions too
  pub permits : (k : ℕ) → k < length (asked_by (job_of s) w) → MayPut (job_of s') gs (group_of ws w) (question_claim (job_of s') w k)

pub record Admission (s gs ws : List ℕ) : Type 0 where
  -- rows 20 and 21 by what they mean, both ways: which jobs are admitted, and what is named where one isn't
  pub exactly : (r : Check) → (admit_check s gs ws ≡ r) ↔ Answer s gs ws r
  -- "Between two such jobs, both admitted and finished, that differ only in rules headed by another group's claims, a worker's answers are the same."
  pub answers :
      admit_check s gs ws ≡ Accepted → (s' : List ℕ) → admit_check s' gs ws ≡ Accepted → (w : ℕ) → w < workers s
      → DifferElsewhere (job_of s) (job_of s') gs (group_of ws w)
      → (t t' : List ℕ) → Fresh s t → Fresh s' t' → (xs xs' : List Call) → AllAnswered (job_of s) (history s t xs) → AllAnswered (job_of s') (history s' t' xs')
      → (k : ℕ) → k < length (asked_by (job_of s) w)
      → answer_of (job_of s) (history s t xs) w k ≡ answer_of (job_of s') (history s' t' xs') w k
  -- more than the order asks, where the other job is only accepted by rows 1 to 8
  pub apart :
      admit_check s gs ws ≡ Accepted → (s' : List ℕ) → check_job s' ≡ Accepted → (w : ℕ) → w < workers s
      → DifferElsewhere (job_of s) (job_of s') gs (group_of ws w) → Apart s s' gs ws w
  -- numbers and places, worked out by hand
  pub worked : AdmissionsRight
