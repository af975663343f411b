-- The heads of the rules all of whose literals pass a test, by the rule (specs/Model: heads). Assumes nothing.
--   pass-each, each_pass     a body that passes, by its literals
--   one-fails                a body that does not pass has a literal that does not
--   heads_of, heads-by       from the rule, and back to it
--   heads-inside             a head is a claim
--   heads_more               a test that more literals pass
use Prim.Native.Nat.{ℕ, ◌<◌}
use mathlib.Core.Path.{refl, subst, subst⁻¹}
use mathlib.Core.Bool.{Bool}
use mathlib.Core.List.Memᴰ
use mathlib.Core.List.{List, [], ◌∷◌}
use mathlib.Core.Logic.{⊎_elim, by_cases}
use lib.Dec.{T, ltb, ltb→lt, lt→ltb}
use Rattle.base.specs.Sets.{◌⊆◌}
use Rattle.base.proofs.Bools.{and_in, and_left, and_right, or_left, or_right, or_cases}
use Rattle.base.proofs.Choose.{t?}
use Rattle.job.specs.Encoding.{◌∈◌}
use Rattle.job.specs.declared.Literal.{Literal}
use Rattle.semantics.specs.Model.{Body, Program, RuleOf, all_pass, any_pass, heads}

module _ (test : Literal → Bool) where
  pub pass-each : (b : Body) → T (all_pass test b) → (l : Literal) → l ∈ b → T (test l)
  pass-each [] t l m = absurd (Memᴰ.not-nil m)
  pass-each (k ∷ b) t l m =
      ⊎_elim (λ e. subst⁻¹ (λ (x : Literal). T (test x)) e (and_left (test k) (all_pass test b) t))
      (pass-each b (and_right (test k) (all_pass test b) t) l) (Memᴰ.cases_cons m)

  pub each_pass : (b : Body) → ((l : Literal) → l ∈ b → T (test l)) → T (all_pass test b)
  each_pass [] h = tt
  each_pass (l ∷ b) h = and_in (test l) (all_pass test b) (h l (Memᴰ.head refl)) (each_pass b (λ k m. h k (Memᴰ.tail m)))

  pub one-fails : (b : Body) → (T (all_pass test b) → ⊥) → (l : Literal) × l ∈ b × (T (test l) → ⊥)
  one-fails [] n = absurd (n tt)
  one-fails (l ∷ b) n =
      by_cases (t? (test l))
      (λ y. let r = one-fails b (λ t. n (and_in (test l) (all_pass test b) y t)) in (r.0, Memᴰ.tail r.1, r.2))
      (λ f. (l, Memᴰ.head refl, f))

  any_of : (bs : List Body) (b : Body) → b ∈ bs → T (all_pass test b) → T (any_pass test bs)
  any_of [] b m t = absurd (Memᴰ.not-nil m)
  any_of (x ∷ bs) b m t =
      ⊎_elim (λ e. or_left (all_pass test x) (any_pass test bs) (subst (λ (y : Body). T (all_pass test y)) e t))
      (λ k. or_right (all_pass test x) (any_pass test bs) (any_of bs b k t)) (Memᴰ.cases_cons m)

  any-by : (bs : List Body) → T (any_pass test bs) → (b : Body) × b ∈ bs × T (all_pass test b)
  any-by [] t = absurd t
  any-by (x ∷ bs) t =
      ⊎_elim (λ h. (x, Memᴰ.head refl, h)) (λ h. let r = any-by bs h in (r.0, Memᴰ.tail r.1, r.2))
      (or_cases (all_pass test x) (any_pass test bs) t)

  module _ (P : Program) (c : ℕ) where
    pub heads_of : (b : Body) → RuleOf P c b → ((l : Literal) → l ∈ b → T (test l)) → T (heads P test c)
    unfolding heads
    heads_of b r h =
        and_in (ltb c P.claims) (any_pass test (P.bodies c)) (lt→ltb c P.claims r.0) (any_of (P.bodies c) b r.1 (each_pass b h))

    pub heads-by : T (heads P test c) → (b : Body) × RuleOf P c b × ((l : Literal) → l ∈ b → T (test l))
    unfolding heads
    heads-by t =
        let r = any-by (P.bodies c) (and_right (ltb c P.claims) (any_pass test (P.bodies c)) t) in
        (r.0, (ltb→lt c P.claims (and_left (ltb c P.claims) (any_pass test (P.bodies c)) t), r.1), pass-each r.0 r.2)

    pub heads-inside : T (heads P test c) → c < P.claims
    heads-inside t = (heads-by t).1.0

pub heads_more : (P : Program) (test test' : Literal → Bool) → ((l : Literal) → T (test l) → T (test' l)) → heads P test ⊆ heads P test'
heads_more P test test' more c t =
    let r = heads-by test P c t in
    heads_of test' P c r.0 r.1 (λ l m. more l (r.2 l m))
