-- K and the claims outside U, as an interpretation, are the least to which W_P adds nothing. Assumes nothing.
--   alternating P       the claims of K, and the negations of those outside U
--   alternating_apart   it is consistent
--   alternating-closed  W_P adds nothing to it
--   alternating-least   an interpretation to which W_P adds nothing holds it
use Prim.Native.Nat.{ℕ}
use mathlib.Core.Bool.{Bool, false, not}
use mathlib.Core.Logic.{⊎_elim}
use lib.Dec.{T, T_not, not_T}
use Rattle.base.specs.Sets.{Claims, ◌⊆◌}
use Rattle.base.proofs.Bools.{or_left, or_right, or_cases, twice-not}
use Rattle.job.specs.Encoding.{◌∈◌}
use Rattle.job.specs.declared.Literal.{Literal}
use Rattle.job.specs.declared.Literal.TheVariants.{Plain, Negated}
use Rattle.semantics.specs.Model.{Body, Program, holds, step, D, K, U}
use Rattle.semantics.specs.Derived.{Derived, rule}
use Rattle.semantics.specs.Unfounded.{Interpretation, Consistent, is_false, plain_in, witness, Unfounded, unfounded, W, ◌⊑◌}
use Rattle.semantics.proofs.Heads.{pass-each, one-fails, heads_of, heads-by}
use Rattle.semantics.proofs.LeastSet.{step_by, step-inside, D-closed, D-least, D-antitone}
use Rattle.semantics.proofs.Alternation.{K⊆U, K-least}
use Rattle.semantics.proofs.ByRule.{U-derived, K-rule}
use Rattle.semantics.proofs.Greatest.{greatest_unfounded}

abbrev pub alternating : Program → Interpretation
alternating P (Plain c) = K P c
alternating P (Negated c) = not (U P c)

module _ (P : Program) where
  abbrev A : Interpretation
  A = alternating P

  pub alternating_apart : Consistent A
  alternating_apart c k n = T_not (U P c) n (K⊆U P c k)

  -- a witness is none for a rule that fires against K
  no-witness :
      (b : Body) → ((d : ℕ) → Plain d ∈ b → T (U P d) × (T (unfounded P A d) → ⊥)) → ((d : ℕ) → Negated d ∈ b → T (K P d) → ⊥)
      → (l : Literal) → l ∈ b → T (witness A (unfounded P A) l) → ⊥
  no-witness b p n (Plain d) m t =
      ⊎_elim (λ f. T_not (U P d) f (p d m).0) (p d m).1 (or_cases (is_false A (Plain d)) (plain_in (unfounded P A) (Plain d)) t)
  no-witness b p n (Negated d) m t =
      ⊎_elim (n d m) (λ f. f) (or_cases (is_false A (Negated d)) (plain_in (unfounded P A) (Negated d)) t)

  derived-founded : (c : ℕ) → Derived P (K P) c → T (unfounded P A c) → ⊥
  derived-founded c (rule b h m p n) t =
      let w = (greatest_unfounded P A).is_unfounded c b t (h, m) in
      no-witness b (λ d k. ((U-derived P d).1 (p d k), derived-founded d (p d k))) n w.0 w.1 w.2

  pub alternating-closed : W P A ⊑ A
  alternating-closed (Plain c) t =
      let r = heads-by A P c t in
      K-rule P c r.0 r.1 (λ d m. r.2 (Plain d) m) (λ d m. T_not (U P d) (r.2 (Negated d) m))
  alternating-closed (Negated c) t = not_T (U P c) (λ u. derived-founded c ((U-derived P c).0 u) t)

  module _ (I : Interpretation) (still : W P I ⊑ I) where
    trues : Claims
    trues c = I (Plain c)

    -- what is not derived against the true claims is unfounded
    rest : Claims
    rest c = not (D P trues c)

    why : (l : Literal) → (T (holds trues (D P trues) l) → ⊥) → T (witness I rest l)
    unfolding trues rest
    why (Plain d) n = or_right (is_false I (Plain d)) (rest d) (not_T (D P trues d) n)
    why (Negated d) n = or_left (I (Plain d)) false (twice-not (I (Plain d)) n)

    rest-unfounded : Unfounded P I rest
    unfolding rest step
    rest-unfounded c b t r =
        let test : Literal → Bool = holds trues (D P trues) in
        let f = one-fails test b (λ a. T_not (D P trues c) t (D-closed P trues c (heads_of test P c b r (pass-each test b a)))) in
        (f.0, f.1, why f.0 f.2)

    rest-false : (c : ℕ) → T (rest c) → T (I (Negated c))
    rest-false c t = still (Negated c) ((greatest_unfounded P I).greatest rest rest-unfounded c t)

    -- so two rounds of D add nothing to the true claims
    true_step : step P (D P trues) trues ⊆ trues
    unfolding trues rest
    true_step c t =
        let r = step_by (D P trues) trues P c t in
        still (Plain c) (heads_of I P c r.0 (step-inside P (D P trues) trues c t, r.1) (literal r.0 r.2 r.3))
      where
        literal :
            (b : Body) → ((d : ℕ) → Plain d ∈ b → T (I (Plain d))) → ((d : ℕ) → Negated d ∈ b → T (D P trues d) → ⊥)
            → (l : Literal) → l ∈ b → T (I l)
        literal b p n (Plain d) m = p d m
        literal b p n (Negated d) m = rest-false d (not_T (D P trues d) (n d m))

    K-true : K P ⊆ trues
    K-true = K-least P trues (D-least P (D P trues) trues true_step)

    pub alternating-least : alternating P ⊑ I
    unfolding trues rest U
    alternating-least (Plain c) t = K-true c t
    alternating-least (Negated c) t = rest-false c (not_T (D P trues c) (λ d. T_not (U P c) t (D-antitone P trues (K P) K-true c d)))
