-- Demands 2 and 3 for an accepted job of bytes s: what holds of every list of calls, and of every two, from freshly started tables.
--   Fresh s t        t is long enough for the job: a table to be started
--   from s t xs      the table after the list xs, from t freshly started; history s t xs   its turns
--   Asked j c        a question names c or leads to it through all literals of rules (semantics/specs/Leads: LeadsTo)
--   FalseAmong       one of some literals is complete and false
--   OthersBehind     the literals of rules of complete claims whose claims aren't complete stand behind a complete false one
--   OpenedFor        what a worker opens a claim for
--   alone j          the same job with one worker, worker 0, in every question
--   turns n          n single turns of worker 0
--   bound j          2L + A + 3Q
--   extended_mark    the mark that completion gives, by the job extended for its missing records
--   Promise s        the demands, a field a clause; the model that they speak of is that of the job extended for its missing records
use Rattle.std.specs.Prelude.{ℕ, zero, suc, ◌+◌, ◌*◌, ◌<◌, ◌≤◌, ◌≡◌, List, [], ◌∷◌, ◌++◌, map, ◌↔◌, length, get_or}
use Rattle.job.specs.Job.{Job, Rule, claim_of, literal_count}
use Rattle.job.specs.Format.{job_of}
use Rattle.job.specs.Encoding.{encode, ◌∈◌}
use Rattle.job.specs.Checks.{check_job}
use Rattle.job.specs.Check.{Accepted}
use Rattle.job.specs.declared.Literal.{Literal}
use Rattle.job.specs.declared.Question.{Question}
use Rattle.semantics.specs.Model.{program_of, False, verdict, literal_verdict, byte_of, exchange, known_of}
use Rattle.semantics.specs.Missing.{extended, as_written, MissingRecords}
use Rattle.semantics.specs.Leads.{LeadsTo}
use Rattle.semantics.specs.Textbook.{Textbook}
use Rattle.table.specs.Questions.{asked_by, question_claim}
use Rattle.table.specs.Layout.{used, mark, answered, kept, answer_word, mark_of, values}
use Rattle.table.specs.Newest.{NewestOf, Owns}
use Rattle.table.specs.Ranges.{check_table, InRange}
use Rattle.table.specs.Start.{start_words}
use Rattle.table.specs.Reading.{reading_of, reading_value}
use Rattle.waiting.specs.Runs.{Rounds}
use Rattle.turn.specs.Turn.{completed_mark, turn}
use Rattle.turn.specs.declared.Kind.TheVariants.{Idle}
use Rattle.steps.specs.Agreeing.{Agree}
use Rattle.calls.specs.Taken.{Started, Taken}
use Rattle.calls.specs.Alike.{Alike}
use Rattle.calls.specs.Lists.{Call, turning, after, turns_of, Event, events, IsAnswered, answer_of, AllAnswered, Complete}

abbrev pub Fresh : List ℕ → List ℕ → Type 0
Fresh s t = used (job_of s) ≤ length t

abbrev pub from : List ℕ → List ℕ → List Call → List ℕ
from s t xs = after s (start_words (job_of s) t) xs

abbrev pub history : List ℕ → List ℕ → List Call → List Event
history s t xs = events s (start_words (job_of s) t) xs

pub record Asked (j : Job) (c : ℕ) : Type 0 where
  pub question : Question
  pub is : question ∈ j.questions
  pub leads : LeadsTo j question.claim c

-- "a complete false one": a literal is false if it is plain and its claim is false, or negated and its claim is true
pub record FalseAmong (j : Job) (t : List ℕ) (ls : List Literal) : Type 0 where
  pub literal : Literal
  pub is : literal ∈ ls
  pub complete : Complete t (claim_of literal)
  pub false : literal_verdict (program_of j) literal ≡ False

-- (02, order 5) "each literal of their rules whose claim isn't complete stands behind a complete false one."
abbrev pub OthersBehind : Job → List ℕ → Type 0
OthersBehind j t =
    (r : Rule) → r ∈ j.rules → Complete t r.head → (before : List Literal) (l : Literal) (rest : List Literal) → r.body ≡ before ++ (l ∷ rest)
    → (Complete t (claim_of l) → ⊥) → FalseAmong j t before

-- what w opens claim b for: its next question, or a literal of a rule of its own open claims that stands behind no complete false one
pub data OpenedFor (j : Job) (t : List ℕ) (w b : ℕ) : Type 0 where
  question : answered j t w < length (asked_by j w) → question_claim j w (answered j t w) ≡ b → OpenedFor j t w b
  literal :
      (r : Rule) → r ∈ j.rules → mark t r.head ≡ w + 1 → (before : List Literal) (l : Literal) (rest : List Literal) → r.body ≡ before ++ (l ∷ rest)
      → claim_of l ≡ b → (FalseAmong j t before → ⊥) → OpenedFor j t w b

-- "One worker asking everything: the same job with T 1 and worker 0 in every question"
unfoldable pub alone : Job → Job
alone j =
    record { claims = j.claims; workers = 1; rules = j.rules; questions = map (λ (q : Question). record { worker = 0; claim = q.claim }) j.questions }

unfoldable pub turns : ℕ → List Call
turns zero = []
turns (suc n) = turning 0 ∷ turns n

abbrev pub bound : Job → ℕ
bound j = 2 * literal_count j + j.claims + 3 * length j.questions

-- (02, order 2) the mark that completion gives, by the job extended for its missing records
abbrev pub extended_mark : Job → List ℕ → ℕ → ℕ
extended_mark j t c = mark_of (verdict (exchange (known_of (values j t)) (as_written (extended j))) c)

pub record Promise (s : List ℕ) : Type 0 where
  -- demand 2: "a complete claim is marked true, false or undefined exactly as it is in the well-founded model of the whole job"
  pub verdicts :
      (t : List ℕ) → Fresh s t → (xs : List Call) (c : ℕ) → c < (job_of s).claims → Complete (from s t xs) c
      → reading_value (reading_of (mark (from s t xs) c)) ≡ byte_of (verdict (program_of (job_of s)) c)
  -- demand 3: "claims complete after both have equal values"
  pub values :
      (t u : List ℕ) → Fresh s t → Fresh s u → (xs ys : List Call) (c : ℕ) → c < (job_of s).claims → Complete (from s t xs) c → Complete (from s u ys) c
      → reading_of (mark (from s t xs) c) ≡ reading_of (mark (from s u ys) c)
  -- (02, order 5) "Of the claims complete when all is answered, demand 3 then promises only that the questions name or lead to them,"
  -- and of those complete after any list
  pub claims :
      (t : List ℕ) → Fresh s t → (xs : List Call) (c : ℕ) → c < (job_of s).claims → Complete (from s t xs) c → Asked (job_of s) c
  -- "and that each literal of their rules whose claim isn't complete stands behind a complete false one."
  pub literals : (t : List ℕ) → Fresh s t → (xs : List Call) → OthersBehind (job_of s) (from s t xs)
  -- "Most rules fail at their first literal, and we open claims for nothing": no longer, in any turn after any list
  pub opened :
      (t : List ℕ) → Fresh s t → (xs : List Call) (w b : ℕ) → w < (job_of s).workers → b < (job_of s).claims → mark (from s t xs) b ≡ 0
      → (mark (turn (job_of s) (from s t xs) w).table b ≡ 0 → ⊥) → OpenedFor (job_of s) (from s t xs) w b
  -- starting gives such a table, where it is long enough
  pub starts : (t : List ℕ) → Started s t
  -- every further call of the job's own workers and claims is taken, answers what it did, and no other is
  pub taken : (t : List ℕ) → Fresh s t → (xs : List Call) → Taken s (from s t xs)
  -- for the table is as rows 9 and 10 want it
  pub accepted : (t : List ℕ) → Fresh s t → (xs : List Call) → Accepted ≡ check_table (job_of s) (from s t xs)
  -- (02, order 3) "10 also covers a third word that isn't what a search finds": of the tables in range, also those that no run made, it accepts
  -- those in which each worker's third word is its newest open claim + 1, or 0
  pub newest :
      (t : List ℕ) → InRange (job_of s) t
      → (Accepted ≡ check_table (job_of s) t)
      ↔ ((w : ℕ) → w < (job_of s).workers → NewestOf t (Owns (job_of s).claims t w) (kept (job_of s) t w))
  -- "Opening, takeover and completion keep it right for every worker touched, losers included.": on all of them
  pub kept :
      (t : List ℕ) (w : ℕ) → w < (job_of s).workers → Accepted ≡ check_table (job_of s) t → Accepted ≡ check_table (job_of s) (turn (job_of s) t w).table
  -- "Words past those used never change.": in no turn, on none of these tables
  pub past :
      (t : List ℕ) (w : ℕ) → w < (job_of s).workers → Accepted ≡ check_table (job_of s) t
      → (length (turn (job_of s) t w).table ≡ length t) × ((i : ℕ) → used (job_of s) ≤ i → get_or (turn (job_of s) t w).table i 0 ≡ get_or t i 0)
  -- words past those used decide nothing: on tables that agree on the words used, also those that no run made, calls answer the same and
  -- leave such tables
  pub alike : (t u : List ℕ) → Agree (job_of s) t u → (xs : List Call) → Alike s t u xs
  -- and starting makes such tables of any two, whatever they held
  pub starts_alike : (t u : List ℕ) → Fresh s t → Fresh s u → Agree (job_of s) (start_words (job_of s) t) (start_words (job_of s) u)
  -- a complete claim keeps its value in every further turn
  pub stays :
      (t : List ℕ) → Fresh s t → (xs : List Call) (w c : ℕ) → w < (job_of s).workers → c < (job_of s).claims → Complete (from s t xs) c
      → mark (turn (job_of s) (from s t xs) w).table c ≡ mark (from s t xs) c
  -- "each answered question has the answer that one worker asking everything in sequence gets", by the question's position in the file
  pub answers :
      (t u : List ℕ) → Fresh s t → Fresh (encode (alone (job_of s))) u → (xs : List Call) (w k : ℕ) → w < (job_of s).workers → k < length (asked_by (job_of s) w)
      → IsAnswered (history s t xs) w k
      → (n : ℕ) → AllAnswered (alone (job_of s)) (history (encode (alone (job_of s))) u (turns n))
      → answer_of (job_of s) (history s t xs) w k ≡ answer_of (alone (job_of s)) (history (encode (alone (job_of s))) u (turns n)) 0 (get_or (asked_by (job_of s) w) k 0)
  -- that job is accepted, and its one worker's turns answer all
  pub alone_accepted : Accepted ≡ check_job (encode (alone (job_of s)))
  pub alone_answers :
      (u : List ℕ) → Fresh (encode (alone (job_of s))) u → (n : ℕ) → bound (job_of s) ≤ n
      → AllAnswered (alone (job_of s)) (history (encode (alone (job_of s))) u (turns n))
  -- the answer of a question is its claim's verdict in the well-founded model of the whole job
  pub right :
      (t : List ℕ) → Fresh s t → (xs : List Call) (w k : ℕ) → w < (job_of s).workers → k < length (asked_by (job_of s) w) → IsAnswered (history s t xs) w k
      → answer_of (job_of s) (history s t xs) w k ≡ byte_of (verdict (program_of (job_of s)) (question_claim (job_of s) w k))
  -- "its question word holds it"
  pub holds :
      (t : List ℕ) → Fresh s t → (xs : List Call) (w k : ℕ) → w < (job_of s).workers → k < length (asked_by (job_of s) w) → IsAnswered (history s t xs) w k
      → get_or (from s t xs) (answer_word (job_of s) (get_or (asked_by (job_of s) w) k 0)) 0 ≡ answer_of (job_of s) (history s t xs) w k
  -- "all is answered exactly when no worker's next turn would change anything"
  pub quiet :
      (t : List ℕ) → Fresh s t → (xs : List Call)
      → AllAnswered (job_of s) (history s t xs) ↔ ((w : ℕ) → w < (job_of s).workers → (turn (job_of s) (from s t xs) w).table ≡ from s t xs)
  -- "A turn changes something exactly when its kind isn't idle."
  pub changes :
      (t : List ℕ) → Fresh s t → (xs : List Call) (w : ℕ) → w < (job_of s).workers
      → ((turn (job_of s) (from s t xs) w).kind ≡ Idle) ↔ ((turn (job_of s) (from s t xs) w).table ≡ from s t xs)
  -- "after every list whose turns hold 2L + A + 3Q rounds, one following another, all is answered"
  pub rounds :
      (t : List ℕ) → Fresh s t → (xs : List Call) → Rounds (job_of s).workers (bound (job_of s)) (turns_of s (start_words (job_of s) t) xs)
      → AllAnswered (job_of s) (history s t xs)
  -- (02, order 2) "The model, completion and plain evaluation all follow this, and agreement with the 1991 model is then with the job so extended."
  pub missing : MissingRecords (job_of s)
  -- (02, order 9) that model by greatest unfounded sets, and which claims are not undefined in it
  pub textbook : Textbook (job_of s)
  -- what a turn completes, on every table, also one that no run made
  pub completion : (t : List ℕ) (c : ℕ) → c < (job_of s).claims → completed_mark (job_of s) t c ≡ extended_mark (job_of s) t c
