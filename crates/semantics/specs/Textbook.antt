-- Order 9 of 02, 'The textbook's other wording': the model by greatest unfounded sets (specs/Unfounded) is 01's by alternating sets
-- (specs/Model). Each record is a theorem: proofs/Textbook has a proof of it for every program and every valid job.
--   GreatestUnfounded P I   U_P(I) is the greatest unfounded set: the union of all
--   Operator P I            W_P(I) is T_P(I) and the negations of U_P(I)
--   LeastFixpoint P         well_founded P is the least fixpoint of W_P; no claim is both true and false in it
--   SameVerdicts P          it gives the verdicts that K and U give
--   BothWordings P          all of these, and what 01's wording says (specs/Theorems)
--   Textbook j              what holds of the verdicts of job j
use Rattle.std.specs.Prelude.{ℕ, ◌<◌, ◌≡◌, not, ◌↔◌, T}
use Rattle.base.specs.Sets.{Claims, ◌⊆◌}
use Rattle.job.specs.Job.{Job}
use Rattle.job.specs.declared.Literal.TheVariants.{Plain, Negated}
use Rattle.semantics.specs.Model.{Program, program_of, K, U, verdict}
use Rattle.semantics.specs.Theorems.{LeastSet, Alternation, Meaning, SameModel}
use Rattle.semantics.specs.Missing.{extended, as_written}
use Rattle.semantics.specs.Unfounded.{Interpretation, Consistent, Unfounded, AnyUnfounded, unfounded, AnyTrue, W, well_founded, ◌⊑◌, verdict_by}
use Rattle.semantics.specs.Leads.{NotUndefined}

pub record GreatestUnfounded (P : Program) (I : Interpretation) : Type 0 where
  pub is_unfounded : Unfounded P I (unfounded P I)
  pub greatest : (X : Claims) → Unfounded P I X → X ⊆ unfounded P I
  pub union : (c : ℕ) → T (unfounded P I c) ↔ AnyUnfounded P I c

pub record Operator (P : Program) (I : Interpretation) : Type 0 where
  pub true_in : (c : ℕ) → T (W P I (Plain c)) ↔ AnyTrue P I c
  pub false_in : (c : ℕ) → T (W P I (Negated c)) ↔ AnyUnfounded P I c

pub record LeastFixpoint (P : Program) : Type 0 where
  pub monotonic : (I J : Interpretation) → I ⊑ J → W P I ⊑ W P J
  pub fixpoint : W P (well_founded P) ≡ well_founded P
  pub least : (I : Interpretation) → W P I ⊑ I → well_founded P ⊑ I
  pub consistent : Consistent (well_founded P)

pub record SameVerdicts (P : Program) : Type 0 where
  pub same_true : (c : ℕ) → well_founded P (Plain c) ≡ K P c
  pub same_false : (c : ℕ) → well_founded P (Negated c) ≡ not (U P c)
  pub same_verdict : (c : ℕ) → verdict_by (well_founded P) c ≡ verdict P c

pub record BothWordings (P : Program) : Type 0 where
  -- 01's
  pub least_set : LeastSet P
  pub alternation : Alternation P
  pub meaning : Meaning P
  pub same_model : SameModel P
  -- the textbook's
  pub greatest_unfounded : (I : Interpretation) → GreatestUnfounded P I
  pub operator : (I : Interpretation) → Operator P I
  pub least_fixpoint : LeastFixpoint P
  -- they agree
  pub same_verdicts : SameVerdicts P

pub record Textbook (j : Job) : Type 0 where
  -- "it and 01's alternating sets give the same three verdicts for every accepted job", in which a missing record is read as its head's negation,
  pub own : BothWordings (program_of j)
  -- and in the words of order 2: "agreement with the 1991 model is then with the job so extended", each rule of it as it stands
  pub written : BothWordings (as_written (extended j))
  pub same : (c : ℕ) → c < j.claims → verdict_by (well_founded (as_written (extended j))) c ≡ verdict (program_of j) c
  -- "Show also that a claim is not undefined if .."
  pub not_undefined : NotUndefined j
