-- Missing records (02, order 2): "the job so extended", in the order's words, and what holds of the verdicts of a valid job (proofs/Missing).
-- The model reads such a record as its head's own negation (specs/Model: body_of); that this is what the order says is Extension.
-- A missing record: a rule whose body is undefined, `c :- undefined` in tabled Prologs.
--   Missing j c          claim c has a missing record
--   extended_rule u r    rule r; a missing record is the rule of its head whose only literal is u
--   extended j           the job so extended: one claim more, u, whose only rule is its own negation, and each rule so
--   as_written j         the program of a job by 01 alone: every body as it stands
--   Extension j          the verdicts of j are those of the job so extended, also with known verdicts exchanged in both
--   HeldBy j c           a rule of c holds: it is no missing record, its plain claims are true and its negated ones false
--   MissingClaims j      a claim with a missing record is true exactly where a rule of it holds, else undefined, and never false
--   NoneMissing j        without missing records the program of j is what it was
--   MissingRecords j     all of these, of job j
use Rattle.std.specs.Prelude.{ℕ, suc, ◌<◌, ◌≤◌, ◌≡◌, true, false, cond, [], ◌∷◌, ◌++◌, map, ◌↔◌}
use Rattle.std.proofs.Math.Option.{Option, none}
use Rattle.job.specs.Job.{Rule, Job, ◌if◌}
use Rattle.job.specs.Encoding.{◌∈◌}
use Rattle.job.specs.declared.Literal.TheVariants.{Plain, Negated}
use Rattle.semantics.specs.Model.{Program, bodies_by, program_of, Verdict, True, False, Undefined, verdict, exchange}

-- "A rule record with body length 65,535 .. makes its head missing"
abbrev pub Missing : Job → ℕ → Type 0
Missing j c = (r : Rule) × r ∈ j.rules × (r.head ≡ c) × (r.missing ≡ true)

-- "the head counts as having one more rule, whose only literal is undefined."
abbrev pub extended_rule : ℕ → Rule → Rule
extended_rule u r = r.head if cond r.missing (Plain u ∷ []) r.body

abbrev pub extended : Job → Job
extended j =
    let u = j.claims in
    record {
      claims = suc u;
      workers = j.workers;
      rules = map (extended_rule u) j.rules ++ ((u if Negated u ∷ []) ∷ []);
      questions = j.questions;
    }

abbrev pub as_written : Job → Program
as_written j = record { claims = j.claims; bodies = bodies_by (λ r. r.body) j.rules }

-- "The model, completion and plain evaluation all follow this, and agreement with the 1991 model is then with the job so extended."
pub record Extension (j : Job) : Type 0 where
  pub undefined : verdict (as_written (extended j)) j.claims ≡ Undefined
  pub same : (c : ℕ) → c < j.claims → verdict (program_of j) c ≡ verdict (as_written (extended j)) c
  -- completion: whatever verdicts of the job's claims a table shows, right or not
  pub exchanged :
      (known : ℕ → Option Verdict) → ((c : ℕ) → j.claims ≤ c → known c ≡ none) → (c : ℕ) → c < j.claims
      → verdict (exchange known (program_of j)) c ≡ verdict (exchange known (as_written (extended j))) c

-- "A rule that holds still makes it true."
pub record HeldBy (j : Job) (c : ℕ) : Type 0 where
  pub rule : Rule
  pub there : rule ∈ j.rules
  pub heads : rule.head ≡ c
  pub ordinary : rule.missing ≡ false
  pub plain : (d : ℕ) → Plain d ∈ rule.body → verdict (program_of j) d ≡ True
  pub negated : (d : ℕ) → Negated d ∈ rule.body → verdict (program_of j) d ≡ False

pub record MissingClaims (j : Job) : Type 0 where
  -- so of every claim
  pub is_true : (c : ℕ) → c < j.claims → (verdict (program_of j) c ≡ True) ↔ HeldBy j c
  pub else_undefined : (c : ℕ) → c < j.claims → Missing j c → (HeldBy j c → ⊥) → verdict (program_of j) c ≡ Undefined
  pub never_false : (c : ℕ) → c < j.claims → Missing j c → verdict (program_of j) c ≡ False → ⊥

-- "P1 and the other marked fields are unchanged, having no such record."
abbrev pub NoneMissing : Job → Type 0
NoneMissing j = ((r : Rule) → r ∈ j.rules → r.missing ≡ false) → program_of j ≡ as_written j

pub record MissingRecords (j : Job) : Type 0 where
  -- "has no literals": so it has no place in a cursor, costs no turn and leads nowhere
  pub no_literals : (r : Rule) → r ∈ j.rules → r.missing ≡ true → r.body ≡ []
  pub extension : Extension j
  pub claims : MissingClaims j
  pub unchanged : NoneMissing j
