-- What order 7 promises of the form (specs/Form), and of the order of bytes. Each record is a theorem: proofs/Laws has its proof.
--   Follows r t       rule t stands behind rule r in a form, in the order's own words
--   Ordered rs        each rule stands so behind all before it
--   OneWay j          how the form of job j is written
--   OneForm s         all that is promised of the form of the job that bytes s hold, where they are accepted
--   at_most s t       s is t or comes before it: the first difference decides
--   ByteOrder         the order on byte strings, and over the forms
use Rattle.std.specs.Prelude.{ℕ, ◌<◌, ◌≤◌, ◌≡◌, Bool, true, false, not, List, [], ◌∷◌, ◌++◌, ◌↔◌, ◌⊎◌, T, ltb, length}
use Rattle.job.specs.Job.{Rule, Job}
use Rattle.job.specs.Format.{job_of}
use Rattle.job.specs.Checks.{check_job}
use Rattle.job.specs.Encoding.{◌∈◌, field_of, encode, Valid}
use Rattle.job.specs.Check.{Accepted}
use Rattle.job.specs.declared.Literal.{Literal}
use Rattle.semantics.specs.Model.{program_of, verdict}
use Rattle.forms.specs.Order.{lex}
use Rattle.forms.specs.Sorting.{Rises}
use Rattle.forms.specs.Form.{form, form_bytes, SameRules, earlier}
use Rattle.forms.specs.Worked.{FormsRight}

-- "bodies of a head by length and then by literals without repeats, missing records kept once and last"
pub data Follows (r t : Rule) : Type 0 where
  by_head : r.head < t.head → Follows r t
  missing_last : r.head ≡ t.head → r.missing ≡ false → t.missing ≡ true → Follows r t
  by_length : r.head ≡ t.head → r.missing ≡ t.missing → length r.body < length t.body → Follows r t
  by_literals :
      r.head ≡ t.head → r.missing ≡ t.missing → length r.body ≡ length t.body
      → (p : List Literal) (x y : Literal) (s u : List Literal) → r.body ≡ p ++ x ∷ s → t.body ≡ p ++ y ∷ u → field_of x < field_of y
      → Follows r t

abbrev pub Ordered : List Rule → Type 0
Ordered [] = Unit {0}
Ordered (r ∷ rs) = ((t : Rule) → t ∈ rs → Follows r t) × Ordered rs

pub record OneWay (j : Job) : Type 0 where
  -- "literals of a body rising as 16-bit numbers without repeats"
  pub literals : (r : Rule) → r ∈ (form j).rules → Rises (λ l k. ltb (field_of l) (field_of k)) r.body
  pub rules : Ordered (form j).rules
  -- and no rule stands behind itself: none stands there twice
  pub once : (r : Rule) → Follows r r → ⊥
  -- "each head's set of bodies (each a set of literals), missing included", and all else as it was
  pub says : SameRules j (form j)

pub record OneForm (s : List ℕ) : Type 0 where
  pub accepted : Accepted ≡ check_job (form_bytes s)
  pub holds : job_of (form_bytes s) ≡ form (job_of s)
  pub one_way : OneWay (job_of s)
  pub shorter : length (form_bytes s) ≤ length s
  -- "Two jobs get equal bytes exactly when counts of claims and workers, questions in their order, and each head's set of bodies .. are equal."
  pub equal : (t : List ℕ) → Accepted ≡ check_job t → (form_bytes s ≡ form_bytes t) ↔ SameRules (job_of s) (job_of t)
  -- "Doing it again changes nothing; verdicts are the same."
  pub again : form_bytes (form_bytes s) ≡ form_bytes s
  pub verdicts : (c : ℕ) → verdict (program_of (job_of (form_bytes s))) c ≡ verdict (program_of (job_of s)) c
  -- forms written out by hand
  pub worked : FormsRight

abbrev pub at_most : List ℕ → List ℕ → Bool
at_most s t = not (lex ltb t s)

-- "Jobs are ordered by these bytes, the first difference deciding; that order is total over the forms."
pub record ByteOrder : Type 0 where
  pub reflexive : (s : List ℕ) → T (at_most s s)
  pub antisymmetric : (s t : List ℕ) → T (at_most s t) → T (at_most t s) → s ≡ t
  pub transitive : (s t u : List ℕ) → T (at_most s t) → T (at_most t u) → T (at_most s u)
  pub total : (s t : List ℕ) → T (at_most s t) ⊎ T (at_most t s)
  pub decides : (p s t : List ℕ) (x y : ℕ) → x < y → T (lex ltb (p ++ x ∷ s) (p ++ y ∷ t))
  pub begins : (p t : List ℕ) (y : ℕ) → T (lex ltb p (p ++ y ∷ t))
  pub strictly : (s t : List ℕ) → T (lex ltb s t) ↔ (T (at_most s t) × (s ≡ t → ⊥))
  -- over the forms: their first difference decides; of two jobs one comes first, or they say the same
  pub jobs :
      (j k : Job) (p s t : List ℕ) (x y : ℕ) → encode (form j) ≡ p ++ x ∷ s → encode (form k) ≡ p ++ y ∷ t → x < y → T (earlier j k)
  pub forms : (j k : Job) → Valid j → Valid k → T (earlier j k) ⊎ T (earlier k j) ⊎ SameRules j k
  pub not_both : (j k : Job) → T (earlier j k) → SameRules j k → ⊥
