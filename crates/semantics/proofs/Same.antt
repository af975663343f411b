-- The least fixpoint of W_P gives the verdicts that K and U give (specs/Textbook: SameVerdicts, BothWordings). Assumes nothing.
use Prim.Native.Nat.{ℕ}
use mathlib.Core.Path.{◌≡◌, refl, ◌∙◌, ap₂}
use mathlib.Core.Bool.{Bool, true, false, not, cond}
use Rattle.base.proofs.Bools.{same}
use Rattle.job.specs.declared.Literal.{Literal}
use Rattle.job.specs.declared.Literal.TheVariants.{Plain, Negated}
use Rattle.semantics.specs.Model.{Program, K, U, True, False, Undefined, judge, verdict}
use Rattle.semantics.specs.Unfounded.{well_founded, verdict_by}
use Rattle.semantics.specs.Textbook.{BothWordings}
use Rattle.semantics.proofs.Theorems.{least_set, alternation, meaning, same_model}
use Rattle.semantics.proofs.Greatest.{greatest_unfounded}
use Rattle.semantics.proofs.Alternating.{alternating, alternating-closed, alternating-least}
use Rattle.semantics.proofs.Reached.{operator, reached, reached-least, least_fixpoint}

judged : (k u : Bool) → cond k True (cond (not u) False Undefined) ≡ judge k u
judged true u = refl
judged false true = refl
judged false false = refl

module _ (P : Program) where
  is_alternating : (l : Literal) → well_founded P l ≡ alternating P l
  is_alternating l =
      same (well_founded P l) (alternating P l) (reached-least P (alternating P) (alternating-closed P) l) (alternating-least P (well_founded P) (reached P) l)

  same-verdict : (c : ℕ) → verdict_by (well_founded P) c ≡ verdict P c
  unfolding verdict
  same-verdict c =
      ap₂ (λ (t f : Bool). cond t True (cond f False Undefined)) (is_alternating (Plain c)) (is_alternating (Negated c)) ∙ judged (K P c) (U P c)

  pub both_wordings : BothWordings P
  both_wordings =
      record {
        least_set = least_set P;
        alternation = alternation P;
        meaning = meaning P;
        same_model = same_model P;
        greatest_unfounded = greatest_unfounded P;
        operator = operator P;
        least_fixpoint = least_fixpoint P;
        same_verdicts = record { same_true = λ c. is_alternating (Plain c); same_false = λ c. is_alternating (Negated c); same_verdict = same-verdict };
      }
