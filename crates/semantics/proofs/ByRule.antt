-- K and U by the rules: what a rule puts into K, and the derivations of what is in U. Assumes nothing.
use Prim.Native.Nat.{ℕ, ◌<◌}
use mathlib.Core.Path.{subst, subst⁻¹}
use mathlib.Core.Logic.{◌↔◌}
use lib.Dec.{T}
use Rattle.base.specs.Sets.{Claims}
use Rattle.job.specs.Encoding.{◌∈◌}
use Rattle.job.specs.declared.Literal.TheVariants.{Plain, Negated}
use Rattle.semantics.specs.Model.{Body, Program, RuleOf, K, U}
use Rattle.semantics.specs.Derived.{Derived, rule}
use Rattle.semantics.proofs.LeastSet.{D-inside, D-derived}
use Rattle.semantics.proofs.Alternation.{K_fix}

module _ (P : Program) (c : ℕ) where
  pub K-derived : T (K P c) ↔ Derived P (U P) c
  K-derived =
      (λ t. (D-derived P (U P) c).0 (subst (λ (S : Claims). T (S c)) (K_fix P) t), λ d. subst⁻¹ (λ (S : Claims). T (S c)) (K_fix P) ((D-derived P (U P) c).1 d))

  pub U-derived : T (U P c) ↔ Derived P (K P) c
  unfolding U
  U-derived = D-derived P (K P) c

  pub U-inside : T (U P c) → c < P.claims
  unfolding U
  U-inside t = D-inside P (K P) c t

module _ (P : Program) (c : ℕ) (b : Body) (r : RuleOf P c b) where
  pub K-rule : ((d : ℕ) → Plain d ∈ b → T (K P d)) → ((d : ℕ) → Negated d ∈ b → T (U P d) → ⊥) → T (K P c)
  K-rule p n = (K-derived P c).1 (rule b r.0 r.1 (λ d m. (K-derived P d).0 (p d m)) n)
