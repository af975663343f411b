-- A program that stands for a part of another has the verdicts of that part (specs/Relevance: Standing). Assumes nothing.
--   true-in, open_in, not-false, not_open   a literal by its verdict, against sets that lie around K and U
--   rounds        what goes from a set inside K over to the next round's holds of K
--   into          what is derived in P is derived in Q, against a set with no more than what stands against it in P
--   back          what is derived in Q is derived in P, in the same way
--   fires, fired  a rule that fires, by its literals, and back
--   U_in, U_out   what is not false, in Q by P and in P by Q, against sets inside K
--   K_in, K_out   what is true
--   standing      the theorem
use Prim.Native.Nat.{ℕ, zero, suc}
use mathlib.Core.Path.{◌≡◌, refl, ap₂, subst, subst⁻¹}
use mathlib.Core.Logic.{⊎_elim, by_cases}
use lib.Dec.{T, T_not, not_T}
use Rattle.base.specs.Sets.{Claims, ◌⊆◌, nothing, iterate}
use Rattle.base.proofs.Bools.{same}
use Rattle.base.proofs.Choose.{t?}
use Rattle.job.specs.Encoding.{◌∈◌}
use Rattle.job.specs.declared.Literal.{Literal}
use Rattle.job.specs.declared.Literal.TheVariants.{Plain, Negated}
use Rattle.semantics.specs.Model.{Body, Program, RuleOf, holds, step, D, stage, K, U, Verdict, True, False, Undefined, judge, verdict, opposite, literal_verdict}
use Rattle.semantics.specs.Derived.{Derived, rule}
use Rattle.semantics.specs.Relevance.{Failed, by, Comes, from, instead, Goes, there, sure, Stands, Standing}
use Rattle.semantics.proofs.Heads.{heads_of}
use Rattle.semantics.proofs.LeastSet.{D-closed, D-antitone, D-derived}
use Rattle.semantics.proofs.Alternation.{K_fix, U_fix, K⊆U, verdict-true, verdict-false, verdict-undefined}

was-false : (v : Verdict) → opposite v ≡ True → v ≡ False
was-false True e = cc
was-false False e = refl
was-false Undefined e = cc

was-true : (v : Verdict) → opposite v ≡ False → v ≡ True
was-true True e = refl
was-true False e = cc
was-true Undefined e = cc

was_open : (v : Verdict) → opposite v ≡ Undefined → v ≡ Undefined
was_open True e = cc
was_open False e = cc
was_open Undefined e = refl

-- a literal by its verdict
module _ (P : Program) (S W : Claims) where
  true-in : S ⊆ U P → K P ⊆ W → (l : Literal) → literal_verdict P l ≡ True → T (holds S W l)
  true-in s w (Plain d) e = w d ((verdict-true P d).0 e)
  true-in s w (Negated d) e = not_T (S d) (λ t. (verdict-false P d).0 (was-false (verdict P d) e) (s d t))

  open_in : S ⊆ K P → U P ⊆ W → (l : Literal) → literal_verdict P l ≡ Undefined → T (holds S W l)
  open_in s w (Plain d) e = w d ((verdict-undefined P d).0 e).1
  open_in s w (Negated d) e = not_T (S d) (λ t. ((verdict-undefined P d).0 (was_open (verdict P d) e)).0 (s d t))

  not-false : K P ⊆ S → W ⊆ U P → (l : Literal) → literal_verdict P l ≡ False → T (holds S W l) → ⊥
  not-false s w (Plain d) e t = (verdict-false P d).0 e (w d t)
  not-false s w (Negated d) e t = T_not (S d) t (s d ((verdict-true P d).0 (was-true (verdict P d) e)))

  not_open : U P ⊆ S → W ⊆ K P → (l : Literal) → literal_verdict P l ≡ Undefined → T (holds S W l) → ⊥
  not_open s w (Plain d) e t = ((verdict-undefined P d).0 e).0 (w d t)
  not_open s w (Negated d) e t = T_not (S d) t (s d ((verdict-undefined P d).0 (was_open (verdict P d) e)).1)

-- the rounds of the alternation
module _ (P : Program) where
  K_of : D P (U P) ⊆ K P
  K_of = subst⁻¹ (λ (W : Claims). D P (U P) ⊆ W) (K_fix P) (λ c t. t)

  K-by : K P ⊆ D P (U P)
  K-by = subst (λ (W : Claims). K P ⊆ W) (K_fix P) (λ c t. t)

  U_of : D P (K P) ⊆ U P
  U_of = subst⁻¹ (λ (W : Claims). D P (K P) ⊆ W) (U_fix P) (λ c t. t)

  U-below : (S : Claims) → S ⊆ K P → U P ⊆ D P S
  U-below S s = subst⁻¹ (λ (W : Claims). W ⊆ D P S) (U_fix P) (D-antitone P (K P) S s)

  round-below : (S : Claims) → S ⊆ K P → D P (D P S) ⊆ K P
  round-below S s c t = K_of c (D-antitone P (D P S) (U P) (U-below S s) c t)

  module _ (M : Claims → Type 0) (start : M nothing) (next : (S : Claims) → S ⊆ K P → M S → M (D P (D P S))) where
    at_stage : (n : ℕ) → (stage P n ⊆ K P) × M (stage P n)
    unfolding stage iterate
    at_stage zero = (λ c t. absurd t, start)
    at_stage (suc n) = let r = at_stage n in (round-below (stage P n) r.0, next (stage P n) r.0 r.1)

    rounds : M (K P)
    unfolding K
    rounds = (at_stage P.claims).1

-- a rule that fires
module _ (P : Program) (S : Claims) where
  fires : (c : ℕ) (b : Body) → RuleOf P c b → ((l : Literal) → l ∈ b → T (holds S (D P S) l)) → T (D P S c)
  unfolding step
  fires c b r each = D-closed P S c (heads_of (holds S (D P S)) P c b r each)

  fired :
      (b : Body) → ((d : ℕ) → Plain d ∈ b → Derived P S d) → ((d : ℕ) → Negated d ∈ b → T (S d) → ⊥)
      → (l : Literal) → l ∈ b → T (holds S (D P S) l)
  fired b p n (Plain d) k = (D-derived P S d).1 (p d k)
  fired b p n (Negated d) k = not_T (S d) (n d k)

module _ (P Q : Program) (X : ℕ → Type 0) (at : ℕ → ℕ) (stands : Stands P Q X at) where
  -- of P's rules that fire none has failed; and where one has an undefined literal, the claim's own negation does no harm
  module _
      (S S' : Claims) (fewer : (d : ℕ) → X d → T (S' d) → T (S (at d)))
      (not_false : (l : Literal) → literal_verdict P l ≡ False → T (holds S (D P S) l) → ⊥)
      (own : (i : ℕ) (l : Literal) → literal_verdict P l ≡ Undefined → T (holds S (D P S) l) → T (S' i) → T (D Q S' i))
    where
      comes :
          (i : ℕ) (b : Body) → ((d : ℕ) → X d → Plain (at d) ∈ b → T (D Q S' d)) → ((l : Literal) → l ∈ b → T (holds S (D P S) l))
          → (T (D Q S' i) → ⊥) → (l : Literal) → Comes P X at i b l → T (holds S' (D Q S') l)
      comes i b plain each n (Plain d) (from x k) = plain d x k
      comes i b plain each n (Negated d) (from x k) = not_T (S' d) (λ t. T_not (S (at d)) (each (Negated (at d)) k) (fewer d x t))
      comes i b plain each n l (instead e m k u) =
          subst⁻¹ (λ (y : Literal). T (holds S' (D Q S') y)) e (not_T (S' i) (λ t. n (own i m u (each m k) t)))

      into-derived : (i v : ℕ) → X i → Derived P S v → v ≡ at i → T (D Q S' i)
      into-derived i v x (rule b h m p n) e =
          by_cases (t? (D Q S' i)) (λ t. t)
          (λ no. ⊎_elim (λ f. absurd (failed f))
          (λ q. fires Q S' i q.0 q.1 (λ l k. comes i b (λ d y k'. into-derived d (at d) y (p (at d) k') refl) (fired P S b p n) no l (q.2 l k)))
          (stands.kept i b x (subst (λ (y : ℕ). RuleOf P y b) e (h, m))))
        where
          failed : Failed P b → ⊥
          failed (by l k e) = not_false l e (fired P S b p n l k)

      into : (i : ℕ) → X i → T (D P S (at i)) → T (D Q S' i)
      into i x t = into-derived i (at i) x ((D-derived P S (at i)).0 t) refl

  -- what is true in P holds; and what is undefined does, where the head is not in the set that stands against it
  module _
      (S S' : Claims) (fewer : (d : ℕ) → X d → T (S (at d)) → T (S' d))
      (yes : (l : Literal) → literal_verdict P l ≡ True → T (holds S (D P S) l))
      (own : (i : ℕ) → T (D Q S' i) → (T (S' i) → ⊥) → (l : Literal) → literal_verdict P l ≡ Undefined → T (holds S (D P S) l))
    where
      goes :
          (i : ℕ) (c : Body) → T (D Q S' i) → ((d : ℕ) → X d → Plain d ∈ c → T (D P S (at d))) → ((d : ℕ) → Negated d ∈ c → T (S' d) → ⊥)
          → (l : Literal) → Goes P X at i c l → T (holds S (D P S) l)
      goes i c t plain n l (there (Plain d) k x e) = subst (λ (y : Literal). T (holds S (D P S) y)) e (plain d x k)
      goes i c t plain n l (there (Negated d) k x e) =
          subst (λ (y : Literal). T (holds S (D P S) y)) e (not_T (S (at d)) (λ s. n d k (fewer d x s)))
      goes i c t plain n l (sure e) = yes l e
      goes i c t plain n l (instead u k) = own i t (n i k) l u

      back-derived : (i : ℕ) → X i → Derived Q S' i → T (D P S (at i))
      back-derived i x (rule c h m p n) =
          let q = stands.only i c x (h, m) in
          let t : T (D Q S' i) = (D-derived Q S' i).1 (rule c h m p n) in
          fires P S (at i) q.0 q.1 (λ l k. goes i c t (λ d y k'. back-derived d y (p d k')) n l (q.2 l k))

      back : (i : ℕ) → X i → T (D Q S' i) → T (D P S (at i))
      back i x t = back-derived i x ((D-derived Q S' i).0 t)

  U_in : (S : Claims) → S ⊆ K Q → ((d : ℕ) → X d → T (S d) → T (K P (at d))) → (i : ℕ) → X i → T (U P (at i)) → T (D Q S i)
  U_in S s fewer i x t =
      into (K P) S fewer (not-false P (K P) (D P (K P)) (λ c k. k) (U_of P)) (λ d l u h k. U-below Q S s d (K⊆U Q d (s d k))) i x
      (subst (λ (W : Claims). T (W (at i))) (U_fix P) t)

  U_out : (S : Claims) → S ⊆ K P → ((d : ℕ) → X d → T (S (at d)) → T (K Q d)) → (i : ℕ) → X i → T (U Q i) → T (D P S (at i))
  U_out S s fewer i x t =
      back S (K Q) fewer (true-in P S (D P S) (λ c k. K⊆U P c (s c k)) (λ c k. U-below P S s c (K⊆U P c k)))
      (λ d k n. open_in P S (D P S) s (U-below P S s)) i x
      (subst (λ (W : Claims). T (W i)) (U_fix Q) t)

  K_out : (i : ℕ) → X i → T (K Q i) → T (K P (at i))
  K_out = rounds Q (λ (S : Claims). (i : ℕ) → X i → T (S i) → T (K P (at i))) (λ i x t. absurd t) next
    where
      next :
          (S : Claims) → S ⊆ K Q → ((d : ℕ) → X d → T (S d) → T (K P (at d))) → (i : ℕ) → X i → T (D Q (D Q S) i) → T (K P (at i))
      next S s ih i x t =
          K_of P (at i)
          (back (U P) (D Q S) (U_in S s ih) (true-in P (U P) (D P (U P)) (λ c k. k) (K-by P))
          (λ d k n l u. absurd (n (U-below Q S s d (K⊆U Q d (round-below Q S s d k))))) i x t)

  K_in : (i : ℕ) → X i → T (K P (at i)) → T (K Q i)
  K_in = rounds P (λ (S : Claims). (i : ℕ) → X i → T (S (at i)) → T (K Q i)) (λ i x t. absurd t) next
    where
      next :
          (S : Claims) → S ⊆ K P → ((d : ℕ) → X d → T (S (at d)) → T (K Q d)) → (i : ℕ) → X i → T (D P (D P S) (at i)) → T (K Q i)
      next S s ih i x t =
          K_of Q i
          (into (D P S) (U Q) (U_out S s ih)
          (not-false P (D P S) (D P (D P S)) (λ c k. U-below P S s c (K⊆U P c k)) (λ c k. K⊆U P c (round-below P S s c k)))
          (λ d l u h k. absurd (not_open P (D P S) (D P (D P S)) (U-below P S s) (round-below P S s) l u h)) i x t)

  stood : (i : ℕ) → X i → verdict Q i ≡ verdict P (at i)
  unfolding verdict
  stood i x =
      ap₂ judge (same (K Q i) (K P (at i)) (K_out i x) (K_in i x))
      (same (U Q i) (U P (at i)) (λ t. U_of P (at i) (U_out (K P) (λ c k. k) K_in i x t)) (λ t. U_of Q i (U_in (K Q) (λ c k. k) K_out i x t)))

pub standing : (P Q : Program) → Standing P Q
standing P Q = stood P Q
