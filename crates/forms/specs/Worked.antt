-- Some small jobs, and the rules of their forms written out by hand along order 7's sentence: one table, one theorem, which is computed
-- (proofs/Worked).
--   Example             rules, and those that a form has for them
--   examples            the table
--   job_with rs         the job with rules rs: 300 claims, 2 workers, and questions that don't rise, one of them twice
--   FormsRight          the theorem: the jobs are accepted, and the form of each is the job with the rules stated for it
use Rattle.std.specs.Prelude.{◌≡◌, List, [], ◌∷◌, map}
use Rattle.job.specs.Job.{Rule, Job, ◌if◌, missing_record}
use Rattle.job.specs.Checks.{check_job}
use Rattle.job.specs.Encoding.{encode}
use Rattle.job.specs.Check.{Accepted}
use Rattle.job.specs.declared.Literal.TheVariants.{Plain, Negated}
use Rattle.forms.specs.Form.{form}

pub record Example : Type 0 where
  pub given : List Rule
  pub stated : List Rule

infix 2 ◌becomes◌
abbrev ◌becomes◌ : List Rule → List Rule → Example
rs becomes ts = record { given = rs; stated = ts }

abbrev pub examples : List Example
examples =
    ([] becomes []) ∷
    -- "literals of a body rising as 16-bit numbers without repeats": all negated ones behind all plain ones, and 256,
    -- bytes 0 and 1, behind 255, bytes 255 and 0
    ((0 if Plain 3 ∷ Plain 1 ∷ Plain 3 ∷ []) ∷ [] becomes (0 if Plain 1 ∷ Plain 3 ∷ []) ∷ []) ∷
    ((0 if Negated 2 ∷ Plain 5 ∷ Negated 0 ∷ Plain 2 ∷ Negated 2 ∷ []) ∷ [] becomes (0 if Plain 2 ∷ Plain 5 ∷ Negated 0 ∷ Negated 2 ∷ []) ∷ []) ∷
    ((0 if Plain 256 ∷ Plain 255 ∷ []) ∷ [] becomes (0 if Plain 255 ∷ Plain 256 ∷ []) ∷ []) ∷
    -- "bodies of a head by length", the empty one first, and counted without repeats
    ((0 if Plain 1 ∷ Plain 2 ∷ []) ∷ (0 if Plain 3 ∷ []) ∷ (0 if []) ∷ []
    becomes (0 if []) ∷ (0 if Plain 3 ∷ []) ∷ (0 if Plain 1 ∷ Plain 2 ∷ []) ∷ []) ∷
    ((0 if Plain 1 ∷ Plain 3 ∷ []) ∷ (0 if Plain 2 ∷ Plain 2 ∷ Plain 2 ∷ []) ∷ []
    becomes (0 if Plain 2 ∷ []) ∷ (0 if Plain 1 ∷ Plain 3 ∷ []) ∷ []) ∷
    -- "and then by literals", as numbers: the first that differs decides
    ((0 if Plain 2 ∷ Plain 3 ∷ []) ∷ (0 if Plain 1 ∷ Negated 0 ∷ []) ∷ (0 if Plain 4 ∷ Plain 1 ∷ []) ∷ []
    becomes (0 if Plain 1 ∷ Plain 4 ∷ []) ∷ (0 if Plain 1 ∷ Negated 0 ∷ []) ∷ (0 if Plain 2 ∷ Plain 3 ∷ []) ∷ []) ∷
    ((0 if Negated 0 ∷ []) ∷ (0 if Plain 256 ∷ []) ∷ (0 if Plain 255 ∷ []) ∷ []
    becomes (0 if Plain 255 ∷ []) ∷ (0 if Plain 256 ∷ []) ∷ (0 if Negated 0 ∷ []) ∷ []) ∷
    -- "without repeats": bodies that are one once they are written so, and empty ones
    ((0 if Plain 1 ∷ Plain 2 ∷ []) ∷ (0 if Plain 3 ∷ []) ∷ (0 if Plain 2 ∷ Plain 1 ∷ Plain 2 ∷ []) ∷ []
    becomes (0 if Plain 3 ∷ []) ∷ (0 if Plain 1 ∷ Plain 2 ∷ []) ∷ []) ∷
    ((0 if []) ∷ (0 if []) ∷ [] becomes (0 if []) ∷ []) ∷
    -- "missing records kept once and last": alone, beside an empty body, beside others
    (missing_record 0 ∷ missing_record 0 ∷ [] becomes missing_record 0 ∷ []) ∷
    (missing_record 0 ∷ (0 if []) ∷ [] becomes (0 if []) ∷ missing_record 0 ∷ []) ∷
    ((0 if Negated 1 ∷ Plain 2 ∷ []) ∷ missing_record 0 ∷ (0 if Plain 1 ∷ []) ∷ missing_record 0 ∷ []
    becomes (0 if Plain 1 ∷ []) ∷ (0 if Plain 2 ∷ Negated 1 ∷ []) ∷ missing_record 0 ∷ []) ∷
    -- what two heads have alike stays with each
    (missing_record 1 ∷ (1 if Plain 2 ∷ Plain 3 ∷ []) ∷ (2 if Plain 3 ∷ Plain 2 ∷ []) ∷ missing_record 2 ∷ (2 if []) ∷ []
    becomes (1 if Plain 2 ∷ Plain 3 ∷ []) ∷ missing_record 1 ∷ (2 if []) ∷ (2 if Plain 2 ∷ Plain 3 ∷ []) ∷ missing_record 2 ∷ []) ∷
    []

-- "questions in their order"
abbrev pub job_with : List Rule → Job
job_with rs =
    record {
      claims = 300;
      workers = 2;
      rules = rs;
      questions = record { worker = 1; claim = 2 } ∷ record { worker = 0; claim = 1 } ∷ record { worker = 1; claim = 2 } ∷ [];
    }

pub record FormsRight : Type 0 where
  pub accepted : map (λ e. check_job (encode (job_with e.given))) examples ≡ map (λ e. Accepted) examples
  pub stated : map (λ e. form (job_with e.given)) examples ≡ map (λ e. job_with e.stated) examples
