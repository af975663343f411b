-- What holds of the verdicts of a valid job with missing records, and of one without (specs/Missing). Assumes nothing.
--   held, holding     a true claim and the rule that derives it
--   kept              a claim with a missing record is in U
--   missing_records   the theorem; missing_of   of the job of accepted bytes
use Prim.Native.Nat.{ℕ, ◌<◌}
use mathlib.Core.Path.{◌≡◌, refl, ◌∙◌, ap, ap₂, subst, subst⁻¹, fun_ext}
use mathlib.Core.Bool.{false, cond}
use mathlib.Core.List.Memᴰ
use mathlib.Core.List.{List, [], ◌∷◌}
use lib.Dec.{T, eqb}
use Rattle.job.specs.Job.{Rule, Job}
use Rattle.job.specs.Encoding.{◌∈◌, Valid}
use Rattle.job.specs.Format.{job_of}
use Rattle.job.specs.Accepted.{WellFormed}
use Rattle.job.proofs.Valid.{well_formed-valid}
use Rattle.job.specs.declared.Literal.TheVariants.{Plain, Negated}
use Rattle.semantics.specs.Model.{Body, body_of, bodies_by, Program, program, program_of, K, U}
use Rattle.semantics.specs.Derived.{Derived, rule}
use Rattle.semantics.specs.Missing.{Missing, HeldBy, MissingClaims, NoneMissing, MissingRecords}
use Rattle.semantics.proofs.Bodies.{bodies_at, bodies_out}
use Rattle.semantics.proofs.Alternation.{K⊆U, verdict-true, verdict-false, verdict-undefined}
use Rattle.semantics.proofs.ByRule.{K-derived, K-rule}
use Rattle.semantics.proofs.Extends.{negation-holds}
use Rattle.semantics.proofs.Extended.{either, body-missing, body_own, extension}

module _ (j : Job) where
  abbrev P : Program
  P = program_of j

  -- a true claim, by the rule that derives it
  held_by : (c : ℕ) → T (K P c) → Derived P (U P) c → HeldBy j c
  unfolding program
  held_by c k (rule b h m p n) =
      let q = bodies_out body_of j.rules c b m in
      either q.0.missing
      (λ e.
      let f : b ≡ Negated c ∷ [] = q.3 ∙ body-missing q.0 e q.2 in
      absurd (n c (subst⁻¹ (λ (x : Body). Negated c ∈ x) f (Memᴰ.head refl)) (K⊆U P c k)))
      (λ e.
      let f : b ≡ q.0.body = q.3 ∙ body_own q.0 e in
      record {
        rule = q.0;
        there = q.1;
        heads = q.2;
        ordinary = e;
        plain = λ d i. (verdict-true P d).1 ((K-derived P d).1 (p d (subst⁻¹ (λ (x : Body). Plain d ∈ x) f i)));
        negated = λ d i. (verdict-false P d).1 (n d (subst⁻¹ (λ (x : Body). Negated d ∈ x) f i));
      })

  held : (c : ℕ) → T (K P c) → HeldBy j c
  held c k = held_by c k ((K-derived P c).0 k)

  -- and back
  holding : (c : ℕ) → c < j.claims → HeldBy j c → T (K P c)
  unfolding program
  holding c l h =
      let r = h.rule in
      let there = subst (λ (b : Body). b ∈ bodies_by body_of j.rules c) (body_own r h.ordinary) (bodies_at body_of j.rules r c h.there h.heads) in
      K-rule P c r.body (l, there) (λ d m. (verdict-true P d).0 (h.plain d m)) (λ d m. (verdict-false P d).0 (h.negated d m))

  -- a claim with a missing record is in U
  kept : (c : ℕ) → c < j.claims → Missing j c → (T (K P c) → ⊥) → T (U P c)
  unfolding program U
  kept c l m n =
      let e = body-missing m.0 m.3 m.2 in
      negation-holds P (K P) c l (subst (λ (b : Body). b ∈ bodies_by body_of j.rules c) e (bodies_at body_of j.rules m.0 c m.1 m.2)) n

  pub missing_claims : MissingClaims j
  missing_claims =
      record {
        is_true = λ c l. (λ e. held c ((verdict-true P c).0 e), λ h. (verdict-true P c).1 (holding c l h));
        else_undefined = λ c l m n. let k : T (K P c) → ⊥ = λ t. n (held c t) in (verdict-undefined P c).1 (k, kept c l m k);
        never_false = λ c l m e. let out = (verdict-false P c).0 e in out (kept c l m (λ k. out (K⊆U P c k)));
      }

plain-bodies : (rs : List Rule) (c : ℕ) → ((r : Rule) → r ∈ rs → r.missing ≡ false) → bodies_by body_of rs c ≡ bodies_by (λ r. r.body) rs c
plain-bodies [] c h = refl
plain-bodies (r ∷ rs) c h =
    ap₂ (λ (b : Body) (bs : List Body). cond (eqb r.head c) (b ∷ bs) bs) (body_own r (h r (Memᴰ.head refl))) (plain-bodies rs c (λ q m. h q (Memᴰ.tail m)))

pub none_missing : (j : Job) → NoneMissing j
unfolding program
none_missing j h = ap (λ (f : ℕ → List Body). record { claims = j.claims; bodies = f }) (fun_ext (λ c. plain-bodies j.rules c h))

pub missing_records : (j : Job) → Valid j → MissingRecords j
missing_records j v = record { no_literals = v.missing; extension = extension j v; claims = missing_claims j; unchanged = none_missing j }

-- of the job of accepted bytes
pub missing_of : (s : List ℕ) → WellFormed s → MissingRecords (job_of s)
missing_of s w = missing_records (job_of s) (well_formed-valid s w)
