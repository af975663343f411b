-- The verdicts of a valid job are those of the job extended in the order's words (specs/Missing: Extension). Assumes nothing.
--   body-missing, body_own   the body that a rule is read with
--   extends-job              the extended job's program, as it stands, extends the job's (proofs/Extends)
use Prim.Native.Nat.{ℕ, ◌<◌}
use mathlib.Core.Path.{◌≡◌, refl, sym, ◌∙◌, ap, subst, subst⁻¹}
use mathlib.Core.Bool.{Bool, true, false}
use mathlib.Core.List.Memᴰ
use mathlib.Core.List.{List, [], ◌∷◌, map}
use mathlib.Core.Logic.{◌⊎◌, inl, inr, ⊎_elim}
use native.Mathlib.Omega.{arith}
use Rattle.job.specs.Job.{Rule, Job, claim_of, ◌if◌}
use Rattle.job.specs.Encoding.{◌∈◌, Valid}
use Rattle.job.specs.declared.Literal.{Literal}
use Rattle.job.specs.declared.Literal.TheVariants.{Plain, Negated}
use Rattle.semantics.specs.Model.{Body, body_of, bodies_by, program, program_of}
use Rattle.semantics.specs.Missing.{extended_rule, extended, as_written, Extension}
use Rattle.semantics.proofs.Bodies.{bodies_at, bodies_out}
use Rattle.semantics.proofs.Extends.{Extends, extends-verdict, extends-undefined, exchange_extends}

-- a test and what it is
pub either : {C : Type 0} (t : Bool) → (t ≡ true → C) → (t ≡ false → C) → C
either true p q = p refl
either false p q = q refl

pub body-missing : (r : Rule) {c : ℕ} → r.missing ≡ true → r.head ≡ c → body_of r ≡ Negated c ∷ []
body-missing r e h = rw (e, h)

pub body_own : (r : Rule) → r.missing ≡ false → body_of r ≡ r.body
body_own r e = rw e

module _ (j : Job) (v : Valid j) where
  abbrev u : ℕ
  u = j.claims

  abbrev written : Rule → Body
  written r = r.body

  -- the rules of the extended job
  abbrev rules⁺ : List Rule
  rules⁺ = (extended j).rules

  rule-in : (r : Rule) → r ∈ j.rules → extended_rule u r ∈ rules⁺
  rule-in r m = Memᴰ.append_left _ (Memᴰ.map (extended_rule u) m)

  data Of (r : Rule) : Type 0 where
    own : r ≡ (u if Negated u ∷ []) → Of r
    read : (q : Rule) → q ∈ j.rules → r ≡ extended_rule u q → Of r

  rule_out : (r : Rule) → r ∈ rules⁺ → Of r
  rule_out r m =
      ⊎_elim (λ k. let q = Memᴰ.of_map (extended_rule u) j.rules k in read q.0 q.1 (sym q.2)) (λ k. own (Memᴰ.eq_of_singleton k))
      (Memᴰ.append_cases (map (extended_rule u) j.rules) m)

  -- a body of the extended rule of r, by whether r is missing
  body⁺ : (r : Rule) → (r.missing ≡ true → (extended_rule u r).body ≡ Plain u ∷ []) × (r.missing ≡ false → (extended_rule u r).body ≡ r.body)
  body⁺ r = (λ e. rw e, λ e. rw e)

  inside : (c : ℕ) (b : Body) → b ∈ bodies_by body_of j.rules c → (l : Literal) → l ∈ b → claim_of l < u
  inside c b m l k =
      let q = bodies_out body_of j.rules c b m in
      let r = q.0 in
      let k' = subst (λ (x : Body). l ∈ x) q.3 k in
      either r.missing
      (λ e.
      let h : claim_of l ≡ r.head = ap claim_of (Memᴰ.eq_of_singleton (subst (λ (x : Body). l ∈ x) (body-missing r e refl) k')) in
      subst⁻¹ (λ (n : ℕ). n < u) h (v.heads r q.1))
      (λ e. v.literals r q.1 l (subst (λ (x : Body). l ∈ x) (body_own r e) k'))

  only : (b : Body) → b ∈ bodies_by written rules⁺ u → b ≡ Negated u ∷ []
  only b m =
      let q = bodies_out written rules⁺ u b m in
      look q.0 q.2 q.3 (rule_out q.0 q.1)
    where
      look : (r : Rule) → r.head ≡ u → b ≡ r.body → Of r → b ≡ Negated u ∷ []
      look r h e (own f) = e ∙ ap (λ (x : Rule). x.body) f
      look r h e (read s n f) =
          let l = v.heads s n in
          let g : s.head ≡ u = sym (ap (λ (x : Rule). x.head) f) ∙ h in
          absurd (omega arith)

  to : (c : ℕ) (b : Body) → b ∈ bodies_by body_of j.rules c → (b ∈ bodies_by written rules⁺ c) ⊎ ((b ≡ Negated c ∷ []) × (Plain u ∷ []) ∈ bodies_by written rules⁺ c)
  to c b m =
      let q = bodies_out body_of j.rules c b m in
      let r = q.0 in
      let there = bodies_at written rules⁺ (extended_rule u r) c (rule-in r q.1) q.2 in
      either r.missing
      (λ e. inr (q.3 ∙ body-missing r e q.2, subst (λ (x : Body). x ∈ bodies_by written rules⁺ c) ((body⁺ r).0 e) there))
      (λ e. inl (subst⁻¹ (λ (x : Body). x ∈ bodies_by written rules⁺ c) (q.3 ∙ (body_own r e ∙ sym ((body⁺ r).1 e))) there))

  back : (c : ℕ) (b : Body) → c < u → b ∈ bodies_by written rules⁺ c → (b ∈ bodies_by body_of j.rules c) ⊎ ((b ≡ Plain u ∷ []) × (Negated c ∷ []) ∈ bodies_by body_of j.rules c)
  back c b l m =
      let q = bodies_out written rules⁺ c b m in
      look q.0 q.2 q.3 (rule_out q.0 q.1)
    where
      look : (r : Rule) → r.head ≡ c → b ≡ r.body → Of r → (b ∈ bodies_by body_of j.rules c) ⊎ ((b ≡ Plain u ∷ []) × (Negated c ∷ []) ∈ bodies_by body_of j.rules c)
      look r h e (own f) =
          let g : u ≡ c = sym (ap (λ (x : Rule). x.head) f) ∙ h in
          absurd (omega arith)
      look r h e (read s n f) =
          let g : s.head ≡ c = sym (ap (λ (x : Rule). x.head) f) ∙ h in
          let d : b ≡ (extended_rule u s).body = e ∙ ap (λ (x : Rule). x.body) f in
          let there = bodies_at body_of j.rules s c n g in
          either s.missing
          (λ i. inr (d ∙ (body⁺ s).0 i, subst (λ (x : Body). x ∈ bodies_by body_of j.rules c) (body-missing s i g) there))
          (λ i. inl (subst⁻¹ (λ (x : Body). x ∈ bodies_by body_of j.rules c) (d ∙ ((body⁺ s).1 i ∙ sym (body_own s i))) there))

  extends-job : Extends (program_of j) (as_written (extended j))
  unfolding program
  extends-job =
      record {
        one_more = refl;
        inside = λ c b l m. inside c b m;
        own_rule = bodies_at written rules⁺ (u if Negated u ∷ []) u (Memᴰ.append_right (map (extended_rule u) j.rules) (Memᴰ.head refl)) refl;
        only_rule = only;
        to = λ c b l m. to c b m;
        back = back;
      }

  pub extension : Extension j
  unfolding program
  extension =
      record {
        undefined = extends-undefined (program_of j) (as_written (extended j)) extends-job;
        same = extends-verdict (program_of j) (as_written (extended j)) extends-job;
        exchanged = λ known past. extends-verdict _ _ (exchange_extends (program_of j) (as_written (extended j)) extends-job known past);
      }
