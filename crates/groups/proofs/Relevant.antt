-- Rules headed by another group's claims change no verdict of what a worker may ask for: that is a closed set (semantics/specs/Relevance).
-- Assumes nothing.
--   closed            what may be put leads to what may be put, also by the program that is evaluated
--   same-verdict      it has the same verdict in both jobs
--   still_permitted   and may be put in both
use Prim.Native.Nat.{ℕ, ◌<◌}
use mathlib.Core.Path.{◌≡◌, refl, ◌∙◌, ap, subst, subst⁻¹}
use mathlib.Core.Bool.{Bool, true, false, cond}
use mathlib.Core.List.Memᴰ
use mathlib.Core.List.{List, [], ◌∷◌}
use Rattle.base.specs.Graph.{here, step}
use Rattle.base.proofs.Paths.{trans}
use Rattle.job.specs.Encoding.{◌∈◌}
use Rattle.job.specs.Job.{Rule, Job, claim_of}
use Rattle.job.specs.declared.Literal.{Literal}
use Rattle.job.specs.declared.Literal.TheVariants.{Negated}
use Rattle.semantics.specs.Leads.{Leads, LeadsTo}
use Rattle.semantics.specs.Missing.{as_written}
use Rattle.semantics.specs.Model.{Body, body_of, bodies_by, program, program_of, verdict}
use Rattle.semantics.specs.Relevance.{Closed, SameRules}
use Rattle.semantics.proofs.Bodies.{bodies_at, bodies_out}
use Rattle.semantics.proofs.RelevanceCovered.{closed_same}
use Rattle.groups.specs.Groups.{Open, MayPut, DifferElsewhere}

-- the bodies of a claim whose rules are among another list's too
carried :
    (f : Rule → Body) (rs ts : List Rule) (c : ℕ) → ((r : Rule) → r.head ≡ c → r ∈ rs → r ∈ ts)
    → (b : Body) → b ∈ bodies_by f rs c → b ∈ bodies_by f ts c
carried f rs ts c h b m =
    let r = bodies_out f rs c b m in
    subst⁻¹ (λ (y : Body). y ∈ bodies_by f ts c) r.3 (bodies_at f ts r.0 c (h r.0 r.2 r.1) r.2)

module _ (j : Job) (gs : List ℕ) (g : ℕ) where
  -- a missing record leads to its own head at most
  by-rule :
      (c : ℕ) (l : Literal) → c < j.claims → MayPut j gs g c → (r : Rule) → r ∈ j.rules → r.head ≡ c
      → (b : Bool) → r.missing ≡ b → l ∈ cond b (Negated r.head ∷ []) r.body → MayPut j gs g (claim_of l)
  by-rule c l low may r m e true q k =
      let z : claim_of l ≡ c = ap claim_of (Memᴰ.eq_of_singleton k) ∙ e in
      subst⁻¹ (MayPut j gs g) z may
  by-rule c l low may r m e false q k =
      λ d p. may d (step (l, (r.body, (low, bodies_at (λ (x : Rule). x.body) j.rules r c m e), k), refl) p)

  closed : Closed (program_of j) (MayPut j gs g)
  unfolding program
  closed c d may (l, u, q) =
      let r = bodies_out body_of j.rules c u.0 u.1.1 in
      subst (MayPut j gs g) q
      (by-rule c l u.1.0 may r.0 r.1 r.2 r.0.missing refl (subst (λ (b : Body). l ∈ b) r.3 u.2))

  module _ (j' : Job) (alike : DifferElsewhere j j' gs g) where
    there : (c : ℕ) → Open gs g c → (r : Rule) → r.head ≡ c → r ∈ j.rules → r ∈ j'.rules
    there c o r e = (alike.rules r (subst⁻¹ (Open gs g) e o)).0

    back : (c : ℕ) → Open gs g c → (r : Rule) → r.head ≡ c → r ∈ j'.rules → r ∈ j.rules
    back c o r e = (alike.rules r (subst⁻¹ (Open gs g) e o)).1

    same-rules : SameRules (MayPut j gs g) (program_of j) (program_of j')
    unfolding program
    same-rules c b may = (
      λ x. (subst⁻¹ (λ (n : ℕ). c < n) alike.claims x.0, carried body_of j.rules j'.rules c (there c (may c here)) b x.1),
      λ x. (subst (λ (n : ℕ). c < n) alike.claims x.0, carried body_of j'.rules j.rules c (back c (may c here)) b x.1),
    )

    pub same-verdict : (c : ℕ) → MayPut j gs g c → (d : ℕ) → LeadsTo j c d → verdict (program_of j') d ≡ verdict (program_of j) d
    same-verdict c may d p = closed_same (program_of j) (program_of j') (MayPut j gs g) closed same-rules d (λ e q. may e (trans p q))

    -- what is led to in the other job is led to in this one
    back_step : (c d : ℕ) → MayPut j gs g c → Leads (as_written j') c d → Leads (as_written j) c d
    back_step c d may (l, u, q) =
        let low : c < j.claims = subst (λ (n : ℕ). c < n) alike.claims u.1.0 in
        (l, (u.0, (low, carried (λ (x : Rule). x.body) j'.rules j.rules c (back c (may c here)) u.0 u.1.1), u.2), q)

    pub still_permitted : {c : ℕ} → MayPut j gs g c → MayPut j' gs g c
    still_permitted {c} may d here = may c here
    still_permitted {c} may d (step x p) = let y = back_step c _ may x in still_permitted (λ e q. may e (step y q)) d p
