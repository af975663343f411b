-- Exchanging rules outside a closed set changes no verdict inside (specs/Relevance: Relevance), by programs that stand for a part. Assumes nothing.
--   exchanged-verdict    a claim whose verdict is exchanged has it
--   closed_same          a closed set, and whatever rules there are outside
--   remaining known bs   the bodies of bs that have not failed by a known verdict; remaining_in, _of   which those are
--   covered_same         whatever is exchanged outside a covered set: both programs are stood for by one without the rules that have failed
--   relevance            the theorem
use Prim.Native.Nat.{ℕ, ◌<◌}
use mathlib.Core.Path.{◌≡◌, refl, sym, ◌∙◌, ap, subst, subst⁻¹}
use mathlib.Core.Bool.{Bool, true, false, not, cond}
use mathlib.Core.List.Memᴰ
use mathlib.Core.List.{List, [], ◌∷◌}
use mathlib.Core.Logic.{◌↔◌, ◌⊎◌, inl, inr, ⊎_elim, by_cases}
use mathlib.Core.Option.{Option, none, some}
use native.Mathlib.Omega.{arith}
use lib.Dec.{T}
use Rattle.base.specs.Sets.{Claims}
use Rattle.base.proofs.Bools.{is, is-not, twice-not}
use Rattle.base.proofs.Choose.{t?}
use Rattle.job.specs.Job.{claim_of}
use Rattle.job.specs.Encoding.{◌∈◌}
use Rattle.job.specs.declared.Literal.{Literal}
use Rattle.job.specs.declared.Literal.TheVariants.{Plain, Negated}
use Rattle.semantics.specs.Model.{Body, Program, RuleOf, K, U, Verdict, True, False, Undefined, verdict, literal_verdict, opposite, settled, exchanged_bodies, exchange}
use Rattle.semantics.specs.Derived.{Derived, rule}
use Rattle.semantics.specs.Relevance.{moved, by, from, there, Stands, Closed, SameRules, says_true, says_false, denied, stands, Known, Covers, Elsewhere, Relevance}
use Rattle.semantics.proofs.Heads.{one-fails}
use Rattle.semantics.proofs.Alternation.{U_fix, K⊆U, verdict-true, verdict-undefined, verdict_none}
use Rattle.semantics.proofs.ByRule.{K-derived, K-rule}
use Rattle.semantics.proofs.Bodies.{settled-claim}
use Rattle.semantics.proofs.Extends.{negation-holds}
use Rattle.semantics.proofs.Relevance.{standing}

moved_same : (l : Literal) → moved (λ (c : ℕ). c) l ≡ l
moved_same (Plain c) = refl
moved_same (Negated c) = refl

-- a claim whose verdict is exchanged has it
module _ (P : Program) (known : ℕ → Option Verdict) (d : ℕ) (h : d < P.claims) where
  abbrev E : Program
  E = exchange known P

  settled-bodies : (v : Verdict) → known d ≡ some v → E.bodies d ≡ settled d v
  settled-bodies v e = ap (λ (o : Option Verdict). exchanged_bodies d o (P.bodies d)) e

  has-own : known d ≡ some Undefined → (Negated d ∷ []) ∈ E.bodies d
  has-own e = subst⁻¹ (λ (bs : List Body). (Negated d ∷ []) ∈ bs) (settled-bodies Undefined e) (Memᴰ.head refl)

  not_own : known d ≡ some Undefined → Derived E (U E) d → T (U E d) → ⊥
  not_own e (rule b g m p n) t =
      let q : b ≡ Negated d ∷ [] = Memᴰ.eq_of_singleton (subst (λ (bs : List Body). b ∈ bs) (settled-bodies Undefined e) m) in
      n d (subst⁻¹ (λ (y : Body). Negated d ∈ y) q (Memᴰ.head refl)) t

  pub exchanged-verdict : (v : Verdict) → known d ≡ some v → verdict (exchange known P) d ≡ v
  exchanged-verdict True e =
      let m : [] ∈ E.bodies d = subst⁻¹ (λ (bs : List Body). [] ∈ bs) (settled-bodies True e) (Memᴰ.head refl) in
      (verdict-true E d).1 (K-rule E d [] (h, m) (λ x k. absurd (Memᴰ.not-nil k)) (λ x k. absurd (Memᴰ.not-nil k)))
  exchanged-verdict False e = verdict_none E d (settled-bodies False e)
  exchanged-verdict Undefined e =
      let no : T (K E d) → ⊥ = λ t. not_own e ((K-derived E d).0 t) (K⊆U E d t) in
      (verdict-undefined E d).1 (no, subst⁻¹ (λ (W : Claims). T (W d)) (U_fix E) (negation-holds E (K E) d h (has-own e) no))

-- a closed set
module _ (P Q : Program) (X : ℕ → Type 0) (closed : Closed P X) (same_rules : SameRules X P Q) where
  closed-stands : Stands P Q X (λ c. c)
  closed-stands =
      record {
        kept = λ i b x r.
            inr (b, (same_rules i b x).0 r, λ l k. from (closed i (claim_of l) x (l, (b, r, k), refl)) (subst⁻¹ (λ (y : Literal). y ∈ b) (moved_same l) k));
        only = λ i b x r.
            let q = (same_rules i b x).1 r in
            (b, q, λ l k. there l k (closed i (claim_of l) x (l, (b, q, k), refl)) (moved_same l));
      }

  pub closed_same : (c : ℕ) → X c → verdict Q c ≡ verdict P c
  closed_same = standing P Q X (λ c. c) closed-stands

-- the bodies that have not failed by a known verdict
module _ (known : ℕ → Option Verdict) where
  remaining : List Body → List Body
  remaining [] = []
  remaining (b ∷ bs) = cond (stands known b) (b ∷ remaining bs) (remaining bs)

  remaining_in : (bs : List Body) (b : Body) → b ∈ remaining bs → b ∈ bs × T (stands known b)
  unfolding remaining
  remaining_in [] b m = absurd (Memᴰ.not-nil m)
  remaining_in (x ∷ bs) b m = go (stands known x) refl m (remaining_in bs b)
    where
      go :
          (f : Bool) → stands known x ≡ f → b ∈ cond f (x ∷ remaining bs) (remaining bs)
          → (b ∈ remaining bs → b ∈ bs × T (stands known b)) → b ∈ (x ∷ bs) × T (stands known b)
      go false e k ih = let r = ih k in (Memᴰ.tail r.0, r.1)
      go true e k ih =
          ⊎_elim (λ q. (Memᴰ.head q, subst⁻¹ (λ (y : Body). T (stands known y)) q (is (stands known x) e)))
          (λ k'. let r = ih k' in (Memᴰ.tail r.0, r.1)) (Memᴰ.cases_cons k)

  remaining_of : (bs : List Body) (b : Body) → b ∈ bs → T (stands known b) → b ∈ remaining bs
  unfolding remaining
  remaining_of [] b m t = absurd (Memᴰ.not-nil m)
  remaining_of (x ∷ bs) b m t = go (stands known x) refl (Memᴰ.cases_cons m) (λ k. remaining_of bs b k t)
    where
      go :
          (f : Bool) → stands known x ≡ f → (b ≡ x) ⊎ (b ∈ bs) → (b ∈ bs → b ∈ remaining bs)
          → b ∈ cond f (x ∷ remaining bs) (remaining bs)
      go true e (inl q) ih = Memᴰ.head q
      go true e (inr k) ih = Memᴰ.tail (ih k)
      go false e (inl q) ih = absurd (is-not (stands known x) e (subst (λ (y : Body). T (stands known y)) q t))
      go false e (inr k) ih = ih k

says-true : (o : Option Verdict) → T (says_true o) → o ≡ some True
says-true (some True) t = refl
says-true (some False) t = absurd t
says-true (some Undefined) t = absurd t
says-true none t = absurd t

says-false : (o : Option Verdict) → T (says_false o) → o ≡ some False
says-false (some True) t = absurd t
says-false (some False) t = refl
says-false (some Undefined) t = absurd t
says-false none t = absurd t

module _ (P : Program) (X : ℕ → Type 0) (known : ℕ → Option Verdict) (covers : Covers known P X) where
  Both : ℕ → Type 0
  Both c = X c ⊎ Known known c

  without : Program
  without = record { claims = P.claims; bodies = λ c. remaining known ((exchange known P).bodies c) }

  literal_both : (c : ℕ) (b : Body) (l : Literal) → Both c → RuleOf (exchange known P) c b → T (stands known b) → l ∈ b → Both (claim_of l)
  unfolding Both
  literal_both c b l x r t k = look (known c) refl x r.1
    where
      look : (o : Option Verdict) → known c ≡ o → X c ⊎ Known known c → b ∈ exchanged_bodies c o (P.bodies c) → X (claim_of l) ⊎ Known known (claim_of l)
      look (some v) e y m = inr (subst⁻¹ (Known known) (settled-claim c v b l m k) (v, e))
      look none e (inl y) m = covers.rules c b y e (r.0, m) t l k
      look none e (inr y) m =
          let z : none ≡ some y.0 = sym e ∙ y.1 in
          let q : ◌≡◌ {A = ℕ} 0 1 = cc in
          absurd (omega arith)

  -- any exchange that has the known verdicts, and nothing else of X
  module _
      (given : ℕ → Option Verdict) (has : (c : ℕ) (v : Verdict) → known c ≡ some v → given c ≡ some v)
      (inside : (c : ℕ) → X c → given c ≡ known c)
    where
      fails : (l : Literal) → T (denied known l) → literal_verdict (exchange given P) l ≡ False
      fails (Plain d) t =
          let e : known d ≡ some False = says-false (known d) t in
          exchanged-verdict P given d (covers.claims d False e) False (has d False e)
      fails (Negated d) t =
          let e : known d ≡ some True = says-true (known d) t in
          ap opposite (exchanged-verdict P given d (covers.claims d True e) True (has d True e))

      both-given : (c : ℕ) → Both c → given c ≡ known c
      unfolding Both
      both-given c (inl x) = inside c x
      both-given c (inr k) = has c k.0 k.1 ∙ sym k.1

      given-rule : (c : ℕ) (b : Body) → Both c → RuleOf (exchange given P) c b ↔ RuleOf (exchange known P) c b
      given-rule c b x =
          let e : (exchange given P).bodies c ≡ (exchange known P).bodies c = ap (λ (o : Option Verdict). exchanged_bodies c o (P.bodies c)) (both-given c x) in
          (λ r. (r.0, subst (λ (bs : List Body). b ∈ bs) e r.1), λ r. (r.0, subst⁻¹ (λ (bs : List Body). b ∈ bs) e r.1))

      without-stands : Stands (exchange given P) without Both (λ c. c)
      unfolding without
      without-stands =
          record {
            kept = λ i b x r.
                let q = (given-rule i b x).0 r in
                by_cases (t? (stands known b))
                (λ t. inr (
                  b,
                  (r.0, remaining_of known ((exchange known P).bodies i) b q.1 t),
                  λ l k. from (literal_both i b l x q t k) (subst⁻¹ (λ (y : Literal). y ∈ b) (moved_same l) k),
                ))
                (λ n.
                let f = one-fails (λ l. not (denied known l)) b n in
                inl (by f.0 f.1 (fails f.0 (twice-not (denied known f.0) f.2))));
            only = λ i b x r.
                let q = remaining_in known ((exchange known P).bodies i) b r.1 in
                (b, (given-rule i b x).1 (r.0, q.0), λ l k. there l k (literal_both i b l x (r.0, q.0) q.1 k) (moved_same l));
          }

      without_same : (c : ℕ) → X c → verdict without c ≡ verdict (exchange given P) c
      unfolding Both
      without_same c x = standing (exchange given P) without Both (λ d. d) without-stands c (inl x)

  covered_same : (known' : ℕ → Option Verdict) → Elsewhere X known known' → (c : ℕ) → X c → verdict (exchange known' P) c ≡ verdict (exchange known P) c
  covered_same known' e c x =
      sym (without_same known' e.kept e.inside c x) ∙ without_same known (λ d v q. q) (λ d y. refl) c x

pub relevance : (P : Program) → Relevance P
relevance P =
    record {
      closed_set = λ X Q closed same_rules. closed_same P Q (λ c. T (X c)) closed same_rules;
      covered = λ X known known' covers e. covered_same P (λ c. T (X c)) known covers known' e;
    }
