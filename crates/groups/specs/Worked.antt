-- Jobs with groups, and what the call answers of them by the order's rows: worked out by hand, and computed (proofs/Worked).
--   field qs           ten claims, of which claim 1 is group 1's, claim 2 group 2's, and the others are public; questions qs
--   groups, workers    one byte a claim, one a worker: worker w is of group w, worker 0 of none
--   bytes              a job byte by byte: 0 if not 1, worker 0 asks 0
--   admissions         a job, its lists, and the answer
--   before, after      two jobs that differ only in a rule of claim 1
--   AdmissionsRight    the theorem
use Rattle.std.specs.Prelude.{ℕ, List, [], ◌∷◌, map, ◌≡◌}
use Rattle.job.specs.Job.{Job, ◌if◌, missing_record}
use Rattle.job.specs.Encoding.{encode}
use Rattle.job.specs.Check.{Check}
use Rattle.job.specs.Check.{Accepted, Refused}
use Rattle.job.specs.declared.Literal.TheVariants.{Plain, Negated}
use Rattle.job.specs.declared.Question.{Question}
use Rattle.groups.specs.Groups.{admit_check, DifferElsewhere}

-- questions stand at bytes 98, 102, 106, ..
abbrev field : List Question → List ℕ
field qs =
    encode
    (record {
      claims = 10;
      workers = 3;
      rules =
          (0 if Plain 1 ∷ []) ∷
          -- an unpublished claim that rests on a public one
          (1 if Plain 4 ∷ []) ∷
          (2 if []) ∷
          -- a public claim that rests on an unpublished one, by its second literal, which is negated
          (3 if Plain 4 ∷ Negated 2 ∷ []) ∷
          missing_record 4 ∷
          (5 if Plain 0 ∷ []) ∷
          -- a ring, and one that leads to group 2
          (6 if Plain 7 ∷ []) ∷
          (7 if Plain 4 ∷ Negated 6 ∷ []) ∷
          (8 if Plain 9 ∷ []) ∷
          (9 if Plain 8 ∷ Plain 2 ∷ []) ∷
          [];
      questions = qs;
    })

abbrev asks : ℕ → ℕ → Question
asks w c = record { worker = w; claim = c }

abbrev groups : List ℕ
groups = 0 ∷ 1 ∷ 2 ∷ 0 ∷ 0 ∷ 0 ∷ 0 ∷ 0 ∷ 0 ∷ 0 ∷ []

abbrev workers : List ℕ
workers = 0 ∷ 1 ∷ 2 ∷ []

abbrev bytes : List ℕ
bytes =
    46 ∷ 0 ∷ 0 ∷ 0 ∷ 2 ∷ 0 ∷ 0 ∷ 0 ∷ 1 ∷ 0 ∷ 0 ∷ 0 ∷ 1 ∷ 0 ∷ 0 ∷ 0 ∷ 1 ∷ 0 ∷ 0 ∷ 0 ∷ 1 ∷ 0 ∷ 0 ∷ 0 ∷ 36 ∷ 0 ∷ 0 ∷ 0 ∷ 40 ∷ 0 ∷ 0 ∷ 0 ∷ 42 ∷ 0 ∷ 0 ∷ 0 ∷
    0 ∷ 0 ∷ 1 ∷ 0 ∷ 1 ∷ 128 ∷ 0 ∷ 0 ∷ 0 ∷ 0 ∷ []

pub record Case : Type 0 where
  pub job : List ℕ
  pub claim_groups : List ℕ
  pub worker_groups : List ℕ
  pub answer : Check

abbrev lent : List ℕ → List ℕ → List ℕ → Check → Case
lent s gs ws r = record { job = s; claim_groups = gs; worker_groups = ws; answer = r }

abbrev pub admissions : List Case
admissions =
    -- each within its group: what is public, one's own claim, what leads to it, a missing record, rings
    lent (field (asks 1 5 ∷ asks 1 1 ∷ asks 2 3 ∷ asks 0 4 ∷ asks 2 4 ∷ asks 0 6 ∷ asks 2 8 ∷ [])) groups workers Accepted ∷
    lent (field []) groups workers Accepted ∷
    -- a foreign claim itself; one step away; two; by a second literal; through a ring
    lent (field (asks 2 1 ∷ [])) groups workers (Refused 21 98) ∷
    lent (field (asks 2 0 ∷ [])) groups workers (Refused 21 98) ∷
    lent (field (asks 2 5 ∷ [])) groups workers (Refused 21 98) ∷
    lent (field (asks 1 3 ∷ [])) groups workers (Refused 21 98) ∷
    lent (field (asks 1 8 ∷ [])) groups workers (Refused 21 98) ∷
    -- a worker of group 0 has public claims only
    lent (field (asks 0 1 ∷ [])) groups workers (Refused 21 98) ∷
    lent (field (asks 0 5 ∷ [])) groups workers (Refused 21 98) ∷
    -- the first such question in file order, whoever puts it, and though another worker may put it
    lent (field (asks 1 5 ∷ asks 2 5 ∷ asks 0 3 ∷ [])) groups workers (Refused 21 102) ∷
    lent (field (asks 2 3 ∷ asks 1 0 ∷ asks 1 3 ∷ [])) groups workers (Refused 21 106) ∷
    -- byte by byte, with the groups 7 and 8, and the highest ones; and all public
    lent bytes (0 ∷ 7 ∷ []) (7 ∷ []) Accepted ∷
    lent bytes (0 ∷ 7 ∷ []) (8 ∷ []) (Refused 21 42) ∷
    lent bytes (255 ∷ 255 ∷ []) (255 ∷ []) Accepted ∷
    lent bytes (0 ∷ 255 ∷ []) (127 ∷ []) (Refused 21 42) ∷
    lent bytes (0 ∷ 0 ∷ []) (0 ∷ []) Accepted ∷
    -- lists of wrong length, too short and too long, the claims' first, before any question
    lent bytes (7 ∷ []) (8 ∷ []) (Refused 20 1) ∷
    lent bytes (7 ∷ 7 ∷ 0 ∷ []) (8 ∷ []) (Refused 20 3) ∷
    lent bytes (7 ∷ 7 ∷ []) [] (Refused 20 0) ∷
    lent bytes (7 ∷ 7 ∷ []) (8 ∷ 7 ∷ []) (Refused 20 2) ∷
    lent bytes (7 ∷ 7 ∷ 7 ∷ []) [] (Refused 20 3) ∷
    -- rows 1 to 8 before that
    lent [] [] workers (Refused 1 0) ∷
    lent (field (asks 3 0 ∷ [])) [] [] (Refused 8 98) ∷
    []

-- 0 always; 1 always, and then no more
abbrev pub before : Job
before = record { claims = 2; workers = 1; rules = (0 if []) ∷ (1 if []) ∷ []; questions = asks 0 0 ∷ [] }

abbrev pub after : Job
after = record { claims = 2; workers = 1; rules = (0 if []) ∷ []; questions = asks 0 0 ∷ [] }

pub record AdmissionsRight : Type 0 where
  pub stated : map (λ a. admit_check a.job a.claim_groups a.worker_groups) admissions ≡ map (λ a. a.answer) admissions
  -- claim 1 is group 7's: for workers of group 8 and of none the two differ only elsewhere
  pub differ : DifferElsewhere before after (0 ∷ 7 ∷ []) 8
  pub differ_public : DifferElsewhere before after (0 ∷ 7 ∷ []) 0
