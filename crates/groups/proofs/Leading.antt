-- What a claim leads to by one step, by the places of its literals among the job's. Assumes nothing.
--   leads_at, at-leads   from the step to the place, and back
use Prim.Native.Nat.{ℕ, ◌+◌, ◌-◌, ◌<◌, ◌≤◌}
use mathlib.Core.Path.{◌≡◌, refl, subst, subst⁻¹}
use mathlib.Core.List.{List}
use native.Mathlib.Omega.{arith}
use Rattle.base.proofs.Members.{span_all, span_at}
use Rattle.job.specs.Accepted.{WellFormed}
use Rattle.job.specs.Claims.{claim_start}
use Rattle.job.specs.Encoding.{◌∈◌}
use Rattle.job.specs.Format.{rules, literal_at, job_of}
use Rattle.job.specs.Job.{claim_of}
use Rattle.job.specs.declared.Literal.{Literal}
use Rattle.job.proofs.Contiguous.{claim-literals}
use Rattle.job.proofs.Valid.{well_formed-valid}
use Rattle.semantics.specs.Leads.{Leads}
use Rattle.semantics.specs.Missing.{as_written}
use Rattle.semantics.proofs.Leads.{used, uses-literal}

module _ (s : List ℕ) (good : WellFormed s) (c : ℕ) where
  pub record At (d : ℕ) : Type 0 where
    pub at : ℕ
    pub from : claim_start s c ≤ at
    pub to : at < claim_start s (c + 1)
    pub is : claim_of (literal_at s (rules s) at) ≡ d

  pub leads_at : (d : ℕ) → Leads (as_written (job_of s)) c d → At d
  leads_at d (l, u, e) =
      let p = claim-literals s good c in
      let m = subst (λ (ls : List Literal). l ∈ ls) p.part (uses-literal (job_of s) c l u) in
      span_all (λ x. claim_of x ≡ d → At d) (literal_at s (rules s)) (claim_start s c) (claim_start s (c + 1) - claim_start s c)
      (λ i a b q. record { at = i; from = a; to = omega (arith, p.ordered); is = q }) l m e

  pub at-leads : (i : ℕ) → claim_start s c ≤ i → i < claim_start s (c + 1) → Leads (as_written (job_of s)) c (claim_of (literal_at s (rules s) i))
  at-leads i a b =
      let p = claim-literals s good c in
      let m = span_at (literal_at s (rules s)) (claim_start s c) (claim_start s (c + 1) - claim_start s c) i a (omega arith) in
      let k = subst⁻¹ (λ (ls : List Literal). literal_at s (rules s) i ∈ ls) p.part m in
      (literal_at s (rules s) i, used (job_of s) (well_formed-valid s good) c (literal_at s (rules s) i) k, refl)
