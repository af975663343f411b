-- Jobs that say the same have the same model (02, order 7: "verdicts are the same"). Assumes nothing.
--   read_same      rules that say the same are read with the same literals
--   rule-there     a rule of the one program has one in the other with the same literals
--   heads_same     so the heads of the rules that pass a test are the same, and with them all that the model is made of
use Prim.Native.Nat.{ℕ}
use mathlib.Core.Path.{◌≡◌, sym, ◌∙◌, subst}
use mathlib.Core.Bool.{Bool, true, false, cond}
use mathlib.Core.List.{[], ◌∷◌}
use lib.Dec.{T}
use Rattle.base.specs.Sets.{iterate}
use Rattle.base.proofs.Bools.{same}
use Rattle.job.specs.Job.{Rule, Job}
use Rattle.job.specs.declared.Literal.{Literal}
use Rattle.job.specs.declared.Literal.TheVariants.{Negated}
use Rattle.semantics.specs.Model.{Body, RuleOf, body_of, program, program_of, holds, heads, step, D, stage, K, U, judge, verdict}
use Rattle.semantics.proofs.Heads.{heads_of, heads-by}
use Rattle.semantics.proofs.Bodies.{bodies_at, bodies_out}
use Rattle.forms.specs.Sorting.{Same}
use Rattle.forms.specs.Form.{SameRules}
use Rattle.forms.proofs.Sorting.{same_refl}
use Rattle.forms.proofs.Keys.{key-sym}

read_as : (a : Bool) (x : ℕ) (s t : Body) → Same s t → Same (cond a (Negated x ∷ []) s) (cond a (Negated x ∷ []) t)
read_as true x s t h = same_refl (Negated x ∷ [])
read_as false x s t h = h

read_same : (r t : Rule) → r.head ≡ t.head → r.missing ≡ t.missing → Same r.body t.body → Same (body_of r) (body_of t)
read_same r t e m h = rw (← e, ← m) (read_as r.missing r.head r.body t.body h)

rule-there : (j k : Job) → SameRules j k → (c : ℕ) (b : Body) → RuleOf (program_of j) c b → (d : Body) × RuleOf (program_of k) c d × Same b d
unfolding program
rule-there j k h c b m =
    let r = bodies_out body_of j.rules c b m.1 in
    let t = h.there r.0 r.1 in (
      body_of t.0,
      (rw (← h.claims) m.0, bodies_at body_of k.rules t.0 c t.1 (sym t.2 ∙ r.2)),
      subst (λ (x : Body). Same x (body_of t.0)) (sym r.3) (read_same r.0 t.0 t.2 t.3 t.4),
    )

heads-there : (j k : Job) → SameRules j k → (test : Literal → Bool) (c : ℕ) → T (heads (program_of j) test c) → T (heads (program_of k) test c)
heads-there j k h test c t =
    let b = heads-by test (program_of j) c t in
    let d = rule-there j k h c b.0 b.1 in
    heads_of test (program_of k) c d.0 d.1 (λ l m. b.2 l (d.2.back l m))

module _ (j k : Job) (h : SameRules j k) where
  heads_same : (test : Literal → Bool) (c : ℕ) → heads (program_of j) test c ≡ heads (program_of k) test c
  heads_same test c =
      same (heads (program_of j) test c) (heads (program_of k) test c) (heads-there j k h test c) (heads-there k j (key-sym h) test c)

  step_same : step (program_of j) ≡ step (program_of k)
  unfolding step
  step_same = λ i S W c. heads_same (holds S W) c i

  D_same : D (program_of j) ≡ D (program_of k)
  unfolding D program
  D_same = λ i S. iterate (step_same i S) (h.claims i)

  K_same : K (program_of j) ≡ K (program_of k)
  unfolding K stage program
  K_same = λ i. iterate (λ W. D_same i (D_same i W)) (h.claims i)

  U_same : U (program_of j) ≡ U (program_of k)
  unfolding U
  U_same = λ i. D_same i (K_same i)

  pub verdict_same : (c : ℕ) → verdict (program_of j) c ≡ verdict (program_of k) c
  unfolding verdict
  verdict_same c = λ i. judge (K_same i c) (U_same i c)
