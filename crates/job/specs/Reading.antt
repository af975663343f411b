-- What the check of a job promises besides its rows: which bytes it accepts, what they mean, and some answers worked out by hand.
--   small                a job; changed b x s   the bytes s with x at byte b
--   bare a t             a job of a claims and t workers with nothing else, 36 bytes
--   answers              bytes, and what rows 1 to 8 answer of them by the check table
--   AnswersRight         the theorem: so they do (proofs/Answers, computed)
--   Reading              accepted exactly where the bytes are the encoding of a valid job; and reading an encoding gives the job back
use Rattle.std.specs.Prelude.{ℕ, List, [], ◌∷◌, map, ◌≡◌, ◌↔◌, take, set}
use Rattle.job.specs.Bytes.{Bytes}
use Rattle.job.specs.Job.{Job, ◌if◌}
use Rattle.job.specs.Format.{job_of}
use Rattle.job.specs.Checks.{check_job}
use Rattle.job.specs.Encoding.{encode, Valid}
use Rattle.job.specs.declared.Literal.TheVariants.{Plain, Negated}
use Rattle.job.specs.Check.{Check}
use Rattle.job.specs.Check.{Accepted, Refused}

-- 0 if 1; 2 if not 0, 1. Worker 0 asks 2, worker 1 asks 0. Rules stand at bytes 36 and 40, literals at 44, 46 and 48, questions at 50 and 54.
abbrev small : List ℕ
small =
    encode
    (record {
      claims = 3;
      workers = 2;
      rules = (0 if Plain 1 ∷ []) ∷ (2 if Negated 0 ∷ Plain 1 ∷ []) ∷ [];
      questions = record { worker = 0; claim = 2 } ∷ record { worker = 1; claim = 0 } ∷ [];
    })

abbrev bare : ℕ → ℕ → List ℕ
bare a t = encode (record { claims = a; workers = t; rules = []; questions = [] })

abbrev changed : ℕ → ℕ → List ℕ → List ℕ
changed b x s = set s b x

abbrev pub answers : List (List ℕ × Check)
answers =
    (small, Accepted) ∷
    -- "Job of 36 bytes, T 1, other counts 0: accepted."; "A 4,096 passes, 4,097 is 3. T 32 passes, 33 is 3."
    (bare 0 1, Accepted) ∷
    (bare 4096 1, Accepted) ∷
    (bare 4097 1, Refused 3 4) ∷
    (bare 0 32, Accepted) ∷
    (bare 0 33, Refused 3 16) ∷
    (bare 0 0, Refused 3 16) ∷
    -- the length; the first word
    ([], Refused 1 0) ∷
    (take 35 small, Refused 1 35) ∷
    (take 57 small, Refused 2 0) ∷
    (changed 0 59 small, Refused 2 0) ∷
    -- 6,146 rules; 16,387 literals; 1,026 questions
    (changed 9 24 small, Refused 3 8) ∷
    (changed 13 64 small, Refused 3 12) ∷
    (changed 21 4 small, Refused 3 20) ∷
    -- offsets; one question too few for the total
    (changed 24 37 small, Refused 4 24) ∷
    (changed 28 45 small, Refused 4 28) ∷
    (changed 32 51 small, Refused 4 32) ∷
    (changed 20 1 small, Refused 4 0) ∷
    -- a head that is no claim; one below the head before it
    (changed 36 3 small, Refused 5 36) ∷
    (changed 36 1 (changed 40 0 small), Refused 5 40) ∷
    -- a body past the literals; bodies that end short of them, also where a missing record adds nothing
    (changed 42 3 small, Refused 6 40) ∷
    (changed 42 1 small, Refused 6 44) ∷
    (changed 42 255 (changed 43 255 small), Refused 6 44) ∷
    -- "All heads are scanned before bodies."
    (changed 38 9 (changed 40 3 small), Refused 5 40) ∷
    -- a literal that is no claim, negated; a worker that is none; a question for no claim
    (changed 46 3 small, Refused 7 46) ∷
    (changed 50 2 small, Refused 8 50) ∷
    (changed 56 3 small, Refused 8 54) ∷
    []

pub record AnswersRight : Type 0 where
  pub stated : map (λ a. check_job a.0) answers ≡ map (λ a. a.1) answers

pub record Reading : Type 0 where
  -- nothing else is accepted, and nothing else is refused
  pub exact : (s : List ℕ) → Bytes s → (Accepted ≡ check_job s) ↔ ((j : Job) × Valid j × (s ≡ encode j))
  -- the bytes mean the job that they encode
  pub meaning : (j : Job) → Valid j → job_of (encode j) ≡ j
  -- numbers and places
  pub worked : AnswersRight
