-- What is promised of a text and its job (02, order 1). Lines has what a text says, Checks rows 15 and 16.
--   Unfit s k               line k is the first line of s that doesn't fit: the lines before it are a text, and no text takes it in
--   InLimits l              lines l are within the limits, in row 15's words
--   front k l               the first k lines of l
--   Past l k                line k is the first line of l that takes it past the limits
--   Sorting                 what `sorted` does: each head's rules, in their order; heads never fall
--   Made l out out' r n     what the call gives of a text that says l: its answer r, the job's length n, the bytes out' where `out` was lent
--   Typing s out out' r n   the whole promise, of every text s
use Rattle.std.specs.Prelude.{ℕ, ◌+◌, ◌-◌, ◌<◌, ◌≤◌, List, ◌++◌, ◌≡◌, ◌↔◌, ◌⊎◌, length, take, drop}
use Rattle.job.specs.Job.{claim_of, Rule, body_count, most_claims, most_rules, most_literals, most_workers, most_questions}
use Rattle.job.specs.Checks.{check_job}
use Rattle.job.specs.Format.{job_of}
use Rattle.job.specs.Encoding.{encode, Valid, Rising, ◌∈◌}
use Rattle.job.specs.declared.Literal.{Literal}
use Rattle.job.specs.declared.Question.{Question}
use Rattle.job.specs.Check.{Check}
use Rattle.job.specs.Check.{Accepted, Refused}
use Rattle.semantics.specs.Model.{program, program_of}
use Rattle.lines.specs.Checks.{check_lines}
use Rattle.lines.specs.Worked.{Worked}
use Rattle.lines.specs.Lines.{RuleLine, Lines, text_of, line_count, typed, job_from, headed, sorted}

-- "14 over all lines, one that doesn't fit (line 1 if there are none)"; "Place: the line, from 1"
pub record Unfit (s : List ℕ) (k : ℕ) : Type 0 where
  -- the lines before it are the text of some lines; the first line has none before it
  pub before : (k ≡ 1) ⊎ ((l : Lines) × (rest : List ℕ) × (s ≡ text_of l ++ rest) × (k ≡ line_count l + 1))
  -- whatever the text begins with that is a text of lines ends before it
  pub here : (l : Lines) (rest : List ℕ) → s ≡ text_of l ++ rest → line_count l < k
  -- and it is not the end of the text
  pub more : (l : Lines) → s ≡ text_of l → ⊥

-- row 15's words, of the lines: "a count past 01's limits, T 0, or a claim or worker not below its count"
pub record InLimits (l : Lines) : Type 0 where
  pub claims_most : l.claims ≤ most_claims
  pub workers_least : 1 ≤ l.workers
  pub workers_most : l.workers ≤ most_workers
  pub rules_most : length l.rules ≤ most_rules
  pub literals_most : body_count (typed l) ≤ most_literals
  pub questions_most : length l.questions ≤ most_questions
  pub heads : (r : RuleLine) → r ∈ l.rules → r.head < l.claims
  pub literals : (r : RuleLine) → r ∈ l.rules → (m : Literal) → m ∈ r.body → claim_of m < l.claims
  pub askers : (q : Question) → q ∈ l.questions → q.worker < l.workers
  pub asked : (q : Question) → q ∈ l.questions → q.claim < l.claims

-- the first k lines of l, k at least 1: its first line, then rules, then questions
abbrev pub front : ℕ → Lines → Lines
front k l =
    record {
      claims = l.claims;
      workers = l.workers;
      rules = take (k - 1) l.rules;
      questions = take (k - 1 - length l.rules) l.questions;
    }

-- "Place: the line, from 1", of row 15
pub record Past (l : Lines) (k : ℕ) : Type 0 where
  -- the lines before it are within the limits; the first line has none before it
  pub before : (k ≡ 1) ⊎ ((2 ≤ k) × InLimits (front (k - 1) l))
  -- with it they are not
  pub here : InLimits (front k l) → ⊥
  -- and it is a line of the text
  pub line : k ≤ line_count l

-- "Rules come out sorted by head, one head's in line order"
pub record Sorting : Type 0 where
  pub same : (a : ℕ) (rs : List Rule) (h : ℕ) → h < a → headed h (sorted a rs) ≡ headed h rs
  pub rise : (a : ℕ) (rs : List Rule) → Rising 0 (sorted a rs)

pub record Made (l : Lines) (out out' : List ℕ) (r : Check) (n : ℕ) : Type 0 where
  -- rows 15 and 16
  pub answer : r ≡ check_lines l (length out)
  -- accepted exactly where the lines are within the limits and the output has room
  pub exactly : (r ≡ Accepted) ↔ (InLimits l × (length (encode (job_from l)) ≤ length out))
  -- refused by 15 at line k exactly where that is the first line that takes them past the limits
  pub fifteen : (k : ℕ) → (r ≡ Refused 15 k) ↔ Past l k
  -- "16 output too short", place "the bytes needed"
  pub short : (place : ℕ) → r ≡ Refused 16 place → InLimits l × (length out < length (encode (job_from l))) × (place ≡ length (encode (job_from l)))
  -- the output begins with the job's bytes; "Bytes past what is written stay."
  pub bytes : r ≡ Accepted → out' ≡ encode (job_from l) ++ drop (length (encode (job_from l))) out
  pub size : r ≡ Accepted → n ≡ length (encode (job_from l))
  -- "The job is accepted and holds those lines and nothing else."
  pub accepted : r ≡ Accepted → Accepted ≡ check_job (encode (job_from l))
  pub holds : r ≡ Accepted → job_of (encode (job_from l)) ≡ job_from l
  pub valid : r ≡ Accepted → Valid (job_from l)
  pub count : r ≡ Accepted → length (job_from l).rules ≡ length l.rules
  -- its model is that of the rules as they are typed
  pub model : r ≡ Accepted → program_of (job_from l) ≡ program l.claims (typed l)

pub record Typing (s out out' : List ℕ) (r : Check) (n : ℕ) : Type 0 where
  -- a text says some lines, or has a first line that doesn't fit
  pub read : ((l : Lines) × (s ≡ text_of l)) ⊎ ((k : ℕ) × Unfit s k)
  -- and no text says two
  pub one : (l k : Lines) → text_of l ≡ text_of k → l ≡ k
  -- row 14
  pub unfit : (k : ℕ) → (r ≡ Refused 14 k) ↔ Unfit s k
  pub made : (l : Lines) → s ≡ text_of l → Made l out out' r n
  -- refused: nothing is written
  pub kept : (number place : ℕ) → r ≡ Refused number place → out' ≡ out
  pub none : (number place : ℕ) → r ≡ Refused number place → n ≡ 0
  pub sorting : Sorting
  -- a text worked out by hand
  pub worked : Worked
