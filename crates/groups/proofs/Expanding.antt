-- Meeting the claims of a stretch of literals (specs/Scopes: Expanded). Assumes nothing.
--   expanded-more   one more;   expanded-to   up to here
use Prim.Native.Nat.{ℕ, ◌+◌, ◌≤◌, ◌<◌}
use mathlib.Core.Path.{◌≡◌, sym, ◌∙◌, ap, subst, subst⁻¹}
use mathlib.Core.Logic.{by_cases}
use native.Mathlib.Decide.{ℕ_discrete}
use native.Mathlib.Omega.{arith}
use lib.Dec.{T}
use Rattle.job.specs.Job.{Job, most_claims}
use Rattle.groups.specs.Scopes.{scope, settled, Work, visit, Expanded}
use Rattle.groups.proofs.Scopes.{visit-fits, visit-queued, visit-there, visit-keeps}
use Rattle.groups.proofs.Searching.{searching-visit}

module _ (j : Job) (g : ℕ) (f : ℕ → ℕ) (a : ℕ) where
  visited : (y : ℕ) (k₀ k : Work) → Expanded j g f a y k₀ k → a ≤ y → f y < most_claims → Expanded j g f a (y + 1) k₀ (visit g (f y) k)
  visited y k₀ k x from low =
      record {
        fits = visit-fits g (f y) k x.fits low;
        queued = λ n l.
            let q = x.queued n l in
            let r = visit-queued g (f y) k x.fits low n q.0 in
            (r.0, r.1 ∙ q.1);
        keeps = λ d t. visit-keeps g (f y) k x.fits low d (x.keeps d t);
        met = λ z l h.
            by_cases (ℕ_discrete z y) (λ e. subst⁻¹ (λ (u : ℕ). T (settled g (scope (visit g (f y) k).scopes (f u)))) e (visit-there g (f y) k x.fits low))
            (λ n. visit-keeps g (f y) k x.fits low (f z) (x.met z l (omega arith)));
        carries = λ gs c i ways search.
            searching-visit j gs g c i (f y) k x.fits low (ways y from (omega arith)) (x.carries gs c i (λ z l h. ways z l (omega arith)) search);
      }

  pub expanded-more :
      (y b z : ℕ) (k₀ k k' : Work) → Expanded j g f a y k₀ k → a ≤ y → b ≡ f y → f y < most_claims → visit g b k ≡ k' → z ≡ y + 1
      → Expanded j g f a z k₀ k'
  expanded-more y b z k₀ k k' x from e low v q =
      subst⁻¹ (λ (u : ℕ). Expanded j g f a u k₀ k') q
      (subst (Expanded j g f a (y + 1) k₀) (ap (λ (u : ℕ). visit g u k) (sym e) ∙ v) (visited y k₀ k x from low))

  pub expanded-to : (y e : ℕ) (k₀ k : Work) → Expanded j g f a y k₀ k → y ≡ e → Expanded j g f a e k₀ k
  expanded-to y e k₀ k x q = subst (λ (u : ℕ). Expanded j g f a u k₀ k) q x
