-- What a claim leads to, by its literals in file order (specs/Leads). Assumes nothing.
--   used, uses-literal     a literal among a claim's, in file order, is in a rule of it, and back
--   leads-low, reach-low   what a claim leads to, by one step and by any, is a claim
use Prim.Native.Nat.{ℕ, ◌<◌}
use mathlib.Core.Path.{◌≡◌, refl, sym, ap, subst, subst⁻¹}
use mathlib.Core.Bool.{Bool, true, false, cond}
use mathlib.Core.List.Memᴰ
use mathlib.Core.List.{List, [], ◌∷◌}
use mathlib.Core.Logic.{⊎_elim}
use borrow.Author.Tests.{eqb-true, eq-eqb}
use lib.Dec.{eqb}
use Rattle.base.specs.Graph.{here, step}
use Rattle.job.specs.Job.{Rule, Job, literals_of}
use Rattle.job.specs.Encoding.{◌∈◌, Valid}
use Rattle.job.specs.declared.Literal.{Literal}
use Rattle.semantics.specs.Missing.{as_written}
use Rattle.semantics.specs.Leads.{Uses, Leads, LeadsTo}
use Rattle.semantics.proofs.Bodies.{bodies_at, bodies_out}

abbrev Holder : List Rule → ℕ → Literal → Type 0
Holder rs c l = (r : Rule) × r ∈ rs × (r.head ≡ c) × l ∈ r.body

holder : (rs : List Rule) (c : ℕ) (l : Literal) → l ∈ literals_of c rs → Holder rs c l
unfolding literals_of
holder [] c l m = absurd (Memᴰ.not-nil m)
holder (r ∷ rs) c l m =
    ⊎_elim (first (eqb r.head c) refl) (λ k. let q = holder rs c l k in (q.0, Memᴰ.tail q.1, q.2, q.3))
    (Memᴰ.append_cases (cond (eqb r.head c) r.body []) m)
  where
    first : (t : Bool) → eqb r.head c ≡ t → l ∈ cond t r.body [] → Holder (r ∷ rs) c l
    first true e k = (r, Memᴰ.head refl, eqb-true r.head c e, k)
    first false e k = absurd (Memᴰ.not-nil k)

pub used : (j : Job) → Valid j → (c : ℕ) (l : Literal) → l ∈ literals_of c j.rules → Uses (as_written j) c l
used j v c l m =
    let q = holder j.rules c l m in
    let r = q.0 in
    (r.body, (subst (λ (h : ℕ). h < j.claims) q.2 (v.heads r q.1), bodies_at (λ (x : Rule). x.body) j.rules r c q.1 q.2), q.3)

in-literals : (rs : List Rule) (r : Rule) (l : Literal) → r ∈ rs → l ∈ r.body → l ∈ literals_of r.head rs
unfolding literals_of
in-literals [] r l m k = absurd (Memᴰ.not-nil m)
in-literals (x ∷ rs) r l m k =
    ⊎_elim (λ e. Memᴰ.append_left (literals_of r.head rs) (first e)) (λ i. Memᴰ.append_right (cond (eqb x.head r.head) x.body []) (in-literals rs r l i k))
    (Memᴰ.cases_cons m)
  where
    first : r ≡ x → l ∈ cond (eqb x.head r.head) x.body []
    first e =
        subst⁻¹ (λ (b : Bool). l ∈ cond b x.body []) (eq-eqb x.head r.head (ap (λ (y : Rule). y.head) (sym e)))
        (subst (λ (y : Rule). l ∈ y.body) e k)

module _ (j : Job) where
  -- the rule that has the literal
  user : (c : ℕ) (l : Literal) → Uses (as_written j) c l → Holder j.rules c l
  user c l u =
      let r = bodies_out (λ (x : Rule). x.body) j.rules c u.0 u.1.1 in
      (r.0, r.1, r.2, subst (λ (b : List Literal). l ∈ b) r.3 u.2)

  pub uses-literal : (c : ℕ) (l : Literal) → Uses (as_written j) c l → l ∈ literals_of c j.rules
  uses-literal c l u =
      let q = user c l u in
      subst (λ (h : ℕ). l ∈ literals_of h j.rules) q.2 (in-literals j.rules q.0 l q.1 q.3)

  module _ (v : Valid j) where
    pub leads-low : (c d : ℕ) → Leads (as_written j) c d → d < j.claims
    leads-low c d (l, u, e) = let q = user c l u in subst (λ (x : ℕ). x < j.claims) e (v.literals q.0 q.1 l q.3)

    pub reach-low : {c d : ℕ} → LeadsTo j c d → c < j.claims → d < j.claims
    reach-low here l = l
    reach-low (step e p) l = reach-low p (leads-low _ _ e)
