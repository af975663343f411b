-- U by over-deletion (counters/specs/Counters): what is left of U is derived against the new K. Assumes nothing.
--   stage_in   what is derived in some steps is in D(S)
--   again      a claim that a step against K₀ gave, and that is left, comes by a step against K
--   sunk       what is left is in D(K)
use Rattle.counters.proofs.Owning.{Owned}
use Rattle.counters.proofs.Positions.{holds_wider}
use Prim.Native.Nat.{ℕ, zero, suc, ◌<◌}
use mathlib.Core.Path.{◌≡◌, refl, subst, subst⁻¹}
use mathlib.Core.List.{List}
use mathlib.Core.Logic.{by_cases}
use lib.Dec.{T}
use lib.ListN.{get_or}
use Rattle.base.specs.Sets.{Claims, ◌⊆◌, iterate, set_of}
use Rattle.base.proofs.Choose.{t?}
use Rattle.job.specs.Format.{rules, head_at, literal_at, job_of}
use Rattle.job.specs.Accepted.{WellFormed}
use Rattle.job.specs.declared.Literal.{Literal}
use Rattle.job.specs.declared.Literal.TheVariants.{Plain, Negated}
use Rattle.semantics.specs.Model.{program_of, Program, holds, step, D}
use Rattle.semantics.proofs.LeastSet.{step_more, D-closed}
use Rattle.counters.specs.Positions.{Within, Counts, fail_base}
use Rattle.counters.specs.Counters.{lacking}
use Rattle.counters.specs.Doubts.{Kept}
use Rattle.model.proofs.Steps.{step-rule, step-missing, ByStep, by-rule, by-missing, rule_of_step}
use Rattle.counters.proofs.Lacking.{nothing_lacks, all_hold}

stage_in : (P : Program) (S : Claims) (n : ℕ) → iterate (step P S) n ⊆ D P S
unfolding iterate
stage_in P S zero c t = absurd t
stage_in P S (suc n) c t = D-closed P S c (step_more S S (iterate (step P S) n) (D P S) (λ d u. u) (stage_in P S n) P c t)

-- a literal that holds in both of two sets, whose common claims are in a third, and against the second's
holds_both : (K₀ W K U X : Claims) → ((d : ℕ) → T (W d) → T (U d) → T (X d)) → (x : Literal) → T (holds K₀ W x) → T (holds K U x) → T (holds K X x)
holds_both K₀ W K U X f (Plain d) t v = f d t v
holds_both K₀ W K U X f (Negated d) t v = v

module _ (s : List ℕ) (good : WellFormed s) (K₀ K : Claims) (own cnt₀ cnt u₀ u : List ℕ) (owned : Owned s own) where
  abbrev P : Program
  P = program_of (job_of s)

  module _ (counts₀ : Counts s own cnt₀ fail_base (lacking s K₀ (set_of u₀))) (counts : Counts s own cnt fail_base (lacking s K (set_of u))) (made : set_of u₀ ≡ D P K₀) (same : Kept s K cnt₀ cnt u) where
    -- W is a stage of D(K₀)
    module _ (W : Claims) (early : W ⊆ D P K₀) (before : (d : ℕ) → T (W d) → T (set_of u d) → T (D P K d)) where
      -- the literals of a rule that fired against K₀, and whose head is left and not in K
      still-hold :
          (r : ℕ) → r < rules s → T (set_of u (head_at s r)) → (T (K (head_at s r)) → ⊥)
          → ((p : ℕ) → Within s p r → T (holds K₀ W (literal_at s (rules s) p)))
          → (p : ℕ) → Within s p r → T (holds K (D P K) (literal_at s (rules s) p))
      still-hold r l v out f p w =
          let in₀ : W ⊆ set_of u₀ = subst⁻¹ (λ (X : Claims). W ⊆ X) made early in
          let z₀ : get_or cnt₀ r 0 ≡ 0 = nothing_lacks s good K₀ (set_of u₀) owned counts₀ r l refl (λ j i. holds_wider K₀ W (set_of u₀) in₀ (literal_at s (rules s) j) (f j i)) in
          let now = all_hold s good K (set_of u) owned counts r l (same.kept r l z₀ v out) in
          holds_both K₀ W K (set_of u) (D P K) before (literal_at s (rules s) p) (f p w) (now.1 p w)

      again : (c : ℕ) → T (set_of u c) → (T (K c) → ⊥) → ByStep s K₀ W c → T (step P K (D P K) c)
      again c v out (by-rule r l h m f) =
          subst (λ (d : ℕ). T (step P K (D P K) d)) h
          (step-rule s K (D P K) good r l m
          (still-hold r l (subst⁻¹ (λ (d : ℕ). T (set_of u d)) h v) (λ k. out (subst (λ (d : ℕ). T (K d)) h k)) f))
      again c v out (by-missing r l h m n) =
          subst (λ (d : ℕ). T (step P K (D P K) d)) h
          (step-missing s K (D P K) good r l m (λ k. out (subst (λ (d : ℕ). T (K d)) h k)))

    module _ (below : K ⊆ D P K) where
      by_stages : (n c : ℕ) → T (iterate (step P K₀) n c) → T (set_of u c) → T (D P K c)
      unfolding iterate
      by_stages zero c t v = absurd t
      by_stages (suc n) c t v =
          by_cases (t? (K c)) (below c)
          (λ out.
          D-closed P K c
          (again (iterate (step P K₀) n) (stage_in P K₀ n) (by_stages n) c v out (rule_of_step s K₀ (iterate (step P K₀) n) c t)))

      pub sunk : set_of u ⊆ set_of u₀ → set_of u ⊆ D (program_of (job_of s)) K
      unfolding D
      sunk fewer c v = by_stages P.claims c (subst (λ (X : Claims). T (X c)) made (fewer c v)) v
