-- A program E that has one claim more than P, u, whose only rule is its own negation, and in which rules `c if not c` of P are `c if u`, has the
-- verdicts of P, and u is undefined in it. Assumes nothing.
--   Extends P E                        E is P so extended
--   negation-holds                     a claim with a rule `c if not c`
--   E-below, P-below                   what is derived in E, by what is closed in P; and what is derived in P, in E
--   extends-undefined, extends-verdict the theorem
--   exchange_extends                   so it stays with known verdicts exchanged in both
use Prim.Native.Nat.{ℕ, suc, ◌<◌, ◌≤◌}
use mathlib.Core.Path.{◌≡◌, refl, ◌∙◌, ap, ap₂, subst, subst⁻¹}
use mathlib.Core.Bool.{Bool, true, false, cond, ◌&&◌}
use mathlib.Core.List.Memᴰ
use mathlib.Core.List.{List, [], ◌∷◌}
use mathlib.Core.Logic.{◌⊎◌, inl, ⊎_elim, by_cases}
use mathlib.Core.Option.{Option, none, some}
use native.Mathlib.Decide.{ℕ_discrete}
use native.Mathlib.Omega.{arith}
use borrow.Author.Tests.{eq-eqb, ne_eqb}
use lib.Dec.{T, eqb}
use Rattle.base.specs.Sets.{Claims, ◌⊆◌}
use Rattle.base.proofs.Bools.{and_in, and_left, and_right, same}
use Rattle.base.proofs.Choose.{t?}
use Rattle.job.specs.Job.{claim_of}
use Rattle.job.specs.Encoding.{◌∈◌}
use Rattle.job.specs.declared.Literal.{Literal}
use Rattle.job.specs.declared.Literal.TheVariants.{Plain, Negated}
use Rattle.semantics.specs.Model.{Body, Program, step, D, K, U, Verdict, Undefined, judge, verdict, exchanged_bodies, exchange}
use Rattle.semantics.proofs.Bodies.{settled-claim}
use Rattle.semantics.proofs.LeastSet.{step-inside, step_of, step_by, D-closed, D-least, D-inside, D-antitone}
use Rattle.semantics.proofs.Alternation.{K_fix, K-least, K⊆U, verdict-undefined}

pub record Extends (P E : Program) : Type 0 where
  pub one_more : E.claims ≡ suc P.claims
  pub inside : (c : ℕ) (b : Body) → c < P.claims → b ∈ P.bodies c → (l : Literal) → l ∈ b → claim_of l < P.claims
  pub own_rule : (Negated P.claims ∷ []) ∈ E.bodies P.claims
  pub only_rule : (b : Body) → b ∈ E.bodies P.claims → b ≡ Negated P.claims ∷ []
  pub to :
      (c : ℕ) (b : Body) → c < P.claims → b ∈ P.bodies c
      → (b ∈ E.bodies c) ⊎ ((b ≡ Negated c ∷ []) × (Plain P.claims ∷ []) ∈ E.bodies c)
  pub back :
      (c : ℕ) (b : Body) → c < P.claims → b ∈ E.bodies c
      → (b ∈ P.bodies c) ⊎ ((b ≡ Plain P.claims ∷ []) × (Negated c ∷ []) ∈ P.bodies c)

-- bodies of one literal
plain-only : (d u : ℕ) → Plain d ∈ (Plain u ∷ []) → d ≡ u
plain-only d u m = ap claim_of (Memᴰ.eq_of_singleton m)

negated-only : (d u : ℕ) → Negated d ∈ (Negated u ∷ []) → d ≡ u
negated-only d u m = ap claim_of (Memᴰ.eq_of_singleton m)

no_plain : (d u : ℕ) → Plain d ∈ (Negated u ∷ []) → ⊥
no_plain d u m =
    let e : Plain d ≡ Negated u = Memᴰ.eq_of_singleton m in
    let z : ◌≡◌ {A = ℕ} 0 1 = cc in
    omega arith

no-negated : (d u : ℕ) → Negated d ∈ (Plain u ∷ []) → ⊥
no-negated d u m =
    let e : Negated d ≡ Plain u = Memᴰ.eq_of_singleton m in
    let z : ◌≡◌ {A = ℕ} 0 1 = cc in
    omega arith

-- a claim with a rule `c if not c` is derived where it is not in S
pub negation-holds : (P : Program) (S : Claims) (c : ℕ) → c < P.claims → (Negated c ∷ []) ∈ P.bodies c → (T (S c) → ⊥) → T (D P S c)
negation-holds P S c l m n =
    D-closed P S c
    (step_of S (D P S) P c (Negated c ∷ []) l m (λ d k. absurd (no_plain d c k)) (λ d k s. n (subst (λ (y : ℕ). T (S y)) (negated-only d c k) s)))

-- the set W below u, with u in it or not (t)
module _ (u : ℕ) (W : Claims) (t : Bool) where
  with_u : Claims
  with_u c = cond (eqb c u) t (W c)

  at_u : with_u u ≡ t
  unfolding with_u
  at_u = rw (eq-eqb u u refl)

  below_u : (c : ℕ) → c < u → with_u c ≡ W c
  unfolding with_u
  below_u c l = rw (ne_eqb c u (λ e. omega arith))

module _ (P E : Program) (x : Extends P E) where
  abbrev u : ℕ
  u = P.claims

  in-E : (c : ℕ) → c < u → c < E.claims
  in-E c l = omega (arith, x.one_more)

  below : (c : ℕ) → c < E.claims → (c ≡ u → ⊥) → c < u
  below c l n = omega (arith, x.one_more)

  -- u's rule, and a rule `c if u`
  u-holds : (S : Claims) → (T (S u) → ⊥) → T (D E S u)
  u-holds S = negation-holds E S u (omega (arith, x.one_more)) x.own_rule

  by_u : (S : Claims) (c : ℕ) → c < u → (Plain u ∷ []) ∈ E.bodies c → T (D E S u) → T (D E S c)
  by_u S c l m h =
      D-closed E S c
      (step_of S (D E S) E c (Plain u ∷ []) (in-E c l) m (λ d k. subst⁻¹ (λ (y : ℕ). T (D E S y)) (plain-only d u k) h) (λ d k s. no-negated d u k))

  -- what is derived in E lies in a set that is closed in P, u apart
  module _ (S S' W : Claims) (t : Bool) (closed : step P S' W ⊆ W) (fewer : (d : ℕ) → d < u → T (S' d) → T (S d))
      (own : (T (S u) → ⊥) → T t) (held : T t → (c : ℕ) → c < u → (Negated c ∷ []) ∈ P.bodies c → T (W c)) where
    E-below : D E S ⊆ with_u u W t
    E-below = D-least E S (with_u u W t) at
      where
        at_own : (c : ℕ) → c ≡ u → T (step E S (with_u u W t) c) → T (with_u u W t c)
        at_own c e q =
            let r = step_by S (with_u u W t) E c q in
            let f : r.0 ≡ Negated u ∷ [] = x.only_rule r.0 (subst (λ (y : ℕ). r.0 ∈ E.bodies y) e r.1) in
            let n = r.3 u (subst⁻¹ (λ (b : Body). Negated u ∈ b) f (Memᴰ.head refl)) in
            subst⁻¹ T (ap (with_u u W t) e ∙ at_u u W t) (own n)

        at_other : (c : ℕ) → c < u → T (step E S (with_u u W t) c) → T (W c)
        at_other c l q =
            let r = step_by S (with_u u W t) E c q in
            ⊎_elim
            (λ m.
            closed c
            (step_of S' W P c r.0 l m (λ d k. subst T (below_u u W t d (x.inside c r.0 l m (Plain d) k)) (r.2 d k))
            (λ d k s. r.3 d k (fewer d (x.inside c r.0 l m (Negated d) k) s))))
            (λ m. held (subst T (at_u u W t) (r.2 u (subst⁻¹ (λ (b : Body). Plain u ∈ b) m.0 (Memᴰ.head refl)))) c l m.1)
            (x.back c r.0 l r.1)

        at : step E S (with_u u W t) ⊆ with_u u W t
        at c q =
            by_cases (ℕ_discrete c u) (λ e. at_own c e q)
            (λ n. let l = below c (step-inside E S (with_u u W t) c q) n in subst⁻¹ T (below_u u W t c l) (at_other c l q))

  -- what is derived in P is derived in E, if rules `c if u` stand for the rules `c if not c`
  module _ (S S' : Claims) (fewer : (d : ℕ) → d < u → T (S' d) → T (S d))
      (stands : (c : ℕ) → c < u → T (D P S c) → (T (S c) → ⊥) → (Plain u ∷ []) ∈ E.bodies c → T (D E S' c)) where
    P-below : D P S ⊆ D E S'
    P-below c t = and_right (D P S c) (D E S' c) (D-least P S both at c t)
      where
        both : Claims
        both d = D P S d && D E S' d

        at : step P S both ⊆ both
        at d q =
            let r = step_by S both P d q in
            let l = step-inside P S both d q in
            let in-P = D-closed P S d (step_of S (D P S) P d r.0 l r.1 (λ e k. and_left (D P S e) (D E S' e) (r.2 e k)) r.3) in
            and_in (D P S d) (D E S' d) in-P
            (⊎_elim
            (λ m.
            D-closed E S' d
            (step_of S' (D E S') E d r.0 (in-E d l) m (λ e k. and_right (D P S e) (D E S' e) (r.2 e k))
            (λ e k s. r.3 e k (fewer e (x.inside d r.0 l r.1 (Negated e) k) s))))
            (λ m. stands d l in-P (r.3 d (subst⁻¹ (λ (b : Body). Negated d ∈ b) m.0 (Memᴰ.head refl))) m.1)
            (x.to d r.0 l r.1))

  -- K and U of the two
  K-within : (c : ℕ) → T (K P c) → c < u
  K-within c t = D-inside P (U P) c (subst (λ (W : Claims). T (W c)) (K_fix P) t)

  K-closed : step P (U P) (K P) ⊆ K P
  K-closed = subst⁻¹ (λ (W : Claims). step P (U P) W ⊆ W) (K_fix P) (D-closed P (U P))

  u-outside : T (K P u) → ⊥
  u-outside t = let l = K-within u t in omega arith

  U⊆DK : U P ⊆ D E (K P)
  unfolding U
  U⊆DK = P-below (K P) (K P) (λ d l t. t) (λ c l t n m. by_u (K P) c l m (u-holds (K P) u-outside))

  wide-U : Claims
  wide-U = with_u u (U P) true

  wide⊆DK : wide-U ⊆ D E (K P)
  unfolding wide-U with_u
  wide⊆DK c t =
      by_cases (ℕ_discrete c u) (λ e. subst⁻¹ (λ (y : ℕ). T (D E (K P) y)) e (u-holds (K P) u-outside))
      (λ n. U⊆DK c (subst (λ (b : Bool). T (cond b true (U P c))) (ne_eqb c u n) t))

  D_wide⊆K : D E wide-U ⊆ K P
  unfolding wide-U
  D_wide⊆K c t =
      let narrow = E-below wide-U (U P) (K P) false K-closed (λ d l s. subst⁻¹ T (below_u u (U P) true d l) s) (λ n. n (subst⁻¹ T (at_u u (U P) true) tt)) (λ no. absurd no) c t in
      by_cases (ℕ_discrete c u) (λ e. absurd (subst T (ap (with_u u (K P) false) e ∙ at_u u (K P) false) narrow))
      (λ n. subst T (below_u u (K P) false c (below c (D-inside E wide-U c t) n)) narrow)

  KE⊆K : K E ⊆ K P
  KE⊆K = K-least E (K P) (λ c t. D_wide⊆K c (D-antitone E (D E (K P)) wide-U wide⊆DK c t))

  U⊆DKE : U P ⊆ D P (K E)
  unfolding U
  U⊆DKE = D-antitone P (K P) (K E) KE⊆K

  UE⊆wide : U E ⊆ with_u u (D P (K E)) true
  unfolding U
  UE⊆wide =
      E-below (K E) (K E) (D P (K E)) true (D-closed P (K E)) (λ d l t. t) (λ n. tt)
      (λ no c l m. by_cases (t? (K E c)) (λ k. U⊆DKE c (K⊆U P c (KE⊆K c k))) (negation-holds P (K E) c l m))

  UE⊆DKE : (c : ℕ) → c < u → T (U E c) → T (D P (K E) c)
  UE⊆DKE c l t = subst T (below_u u (D P (K E)) true c l) (UE⊆wide c t)

  DDKE⊆K : D P (D P (K E)) ⊆ K P
  DDKE⊆K c t = subst⁻¹ (λ (W : Claims). T (W c)) (K_fix P) (D-antitone P (D P (K E)) (U P) U⊆DKE c t)

  K⊆KE : K P ⊆ K E
  K⊆KE =
      K-least P (K E)
      (subst⁻¹ (λ (W : Claims). D P (D P (K E)) ⊆ W) (K_fix E)
      (P-below (D P (K E)) (U E) UE⊆DKE (λ c l t n m. absurd (n (U⊆DKE c (K⊆U P c (DDKE⊆K c t)))))))

  U⊆UE : U P ⊆ U E
  unfolding U
  U⊆UE c t = D-antitone E (K P) (K E) KE⊆K c (U⊆DK c t)

  UE⊆U : (c : ℕ) → c < u → T (U E c) → T (U P c)
  unfolding U
  UE⊆U c l t = D-antitone P (K E) (K P) K⊆KE c (UE⊆DKE c l t)

  pub extends-verdict : (c : ℕ) → c < u → verdict P c ≡ verdict E c
  unfolding verdict
  extends-verdict c l = ap₂ judge (same (K P c) (K E c) (K⊆KE c) (KE⊆K c)) (same (U P c) (U E c) (U⊆UE c) (UE⊆U c l))

  pub extends-undefined : verdict E u ≡ Undefined
  unfolding U
  extends-undefined = (verdict-undefined E u).1 (λ t. u-outside (KE⊆K u t), u-holds (K E) (λ t. u-outside (KE⊆K u t)))

-- known verdicts of claims of P exchanged in both
module _ (P E : Program) (x : Extends P E) (known : ℕ → Option Verdict) (past : (c : ℕ) → P.claims ≤ c → known c ≡ none) where
  u-kept : (exchange known E).bodies P.claims ≡ E.bodies P.claims
  u-kept = rw (past P.claims (omega arith)) refl

  pub exchange_extends : Extends (exchange known P) (exchange known E)
  exchange_extends =
      record {
        one_more = x.one_more;
        inside = λ c b l m. inside_at c b l (known c) m;
        own_rule = subst⁻¹ (λ (bs : List Body). (Negated P.claims ∷ []) ∈ bs) u-kept x.own_rule;
        only_rule = λ b m. x.only_rule b (subst (λ (bs : List Body). b ∈ bs) u-kept m);
        to = λ c b l m. to_at c b l (known c) m;
        back = λ c b l m. back_at c b l (known c) m;
      }
    where
      inside_at : (c : ℕ) (b : Body) → c < P.claims → (o : Option Verdict) → b ∈ exchanged_bodies c o (P.bodies c) → (l : Literal) → l ∈ b → claim_of l < P.claims
      inside_at c b h none m l k = x.inside c b h m l k
      inside_at c b h (some v) m l k = subst⁻¹ (λ (y : ℕ). y < P.claims) (settled-claim c v b l m k) h

      to_at :
          (c : ℕ) (b : Body) → c < P.claims → (o : Option Verdict) → b ∈ exchanged_bodies c o (P.bodies c)
          → (b ∈ exchanged_bodies c o (E.bodies c)) ⊎ ((b ≡ Negated c ∷ []) × (Plain P.claims ∷ []) ∈ exchanged_bodies c o (E.bodies c))
      to_at c b h none m = x.to c b h m
      to_at c b h (some v) m = inl m

      back_at :
          (c : ℕ) (b : Body) → c < P.claims → (o : Option Verdict) → b ∈ exchanged_bodies c o (E.bodies c)
          → (b ∈ exchanged_bodies c o (P.bodies c)) ⊎ ((b ≡ Plain P.claims ∷ []) × (Negated c ∷ []) ∈ exchanged_bodies c o (P.bodies c))
      back_at c b h none m = x.back c b h m
      back_at c b h (some v) m = inl m
