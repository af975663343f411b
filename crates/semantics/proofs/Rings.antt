-- An undefined claim leads to a claim that leads back to itself through a negation, in any program. Assumes nothing.
--   Open P c         claim c is in U and not in K: it is undefined
--   Descends P c     c leads through a negation to an undefined claim
--   open_descends    an undefined claim does: else the derivation that puts it into U would put it into K
--   undefined-ring   so it would go on for ever, if it never came back
use Prim.Native.Nat.{ℕ, zero, suc, ◌<◌}
use mathlib.Core.Path.{◌≡◌, refl, ap, subst⁻¹}
use mathlib.Core.List.Memᴰ
use mathlib.Core.List.{List, [], ◌∷◌}
use mathlib.Core.Logic.{◌⊎◌, inl, inr, ⊎_elim, by_cases}
use native.Mathlib.Omega.{arith}
use lib.Dec.{T}
use Rattle.base.specs.Graph.{Reach, here, step, steps}
use Rattle.base.proofs.Choose.{t?}
use Rattle.base.proofs.Paths.{trans}
use Rattle.base.proofs.Acyclic.{ring}
use Rattle.job.specs.Encoding.{◌∈◌}
use Rattle.job.specs.declared.Literal.{Literal}
use Rattle.job.specs.declared.Literal.TheVariants.{Plain, Negated}
use Rattle.semantics.specs.Model.{Body, Program, RuleOf, K, U, Undefined, verdict}
use Rattle.semantics.specs.Derived.{Derived, rule}
use Rattle.semantics.specs.Leads.{Uses, Leads, ThroughNegation}
use Rattle.semantics.proofs.Alternation.{verdict-undefined}
use Rattle.semantics.proofs.ByRule.{K-rule, U-derived, U-inside}

-- each element as wanted, or one that is not
all_or : {A B : Type 0} (Q : A → Type 0) (xs : List A) → ((x : A) → x ∈ xs → Q x ⊎ B) → ((x : A) → x ∈ xs → Q x) ⊎ B
all_or Q [] f = inl (λ x m. absurd (Memᴰ.not-nil m))
all_or Q (y ∷ xs) f =
    ⊎_elim
    (λ q.
    ⊎_elim (λ g. inl (λ x m. ⊎_elim (λ e. subst⁻¹ Q e q) (g x) (Memᴰ.cases_cons m))) inr
    (all_or Q xs (λ x m. f x (Memᴰ.tail m))))
    inr (f y (Memᴰ.head refl))

module _ (P : Program) where
  abbrev Open : ℕ → Type 0
  Open c = (T (K P c) → ⊥) × T (U P c)

  abbrev Descends : ℕ → Type 0
  Descends c = (d : ℕ) × ThroughNegation P c d × Open d

  -- a literal that holds for K, against U
  Firm : Literal → Type 0
  Firm (Plain d) = T (K P d)
  Firm (Negated d) = T (U P d) → ⊥

  on-plain : (c d : ℕ) → Uses P c (Plain d) → Descends d → Descends c
  on-plain c d u (e, (x, y, p, n, q), o) = (e, (x, y, step (Plain d, u, refl) p, n, q), o)

  on-negated : (c d : ℕ) → Uses P c (Negated d) → Open d → Descends c
  on-negated c d u o = (d, (c, d, here, u, here), o)

  K-by : (c : ℕ) (b : Body) → RuleOf P c b → ((l : Literal) → l ∈ b → Firm l) → T (K P c)
  unfolding Firm
  K-by c b r firm = K-rule P c b r (λ d m. firm (Plain d) m) (λ d m. firm (Negated d) m)

  firm-or :
      (c : ℕ) (b : Body) → RuleOf P c b → ((d : ℕ) → Plain d ∈ b → T (K P d) ⊎ Descends d)
      → ((d : ℕ) → Negated d ∈ b → T (K P d) → ⊥) → (l : Literal) → l ∈ b → Firm l ⊎ Descends c
  unfolding Firm
  firm-or c b r p n (Plain d) m = ⊎_elim inl (λ g. inr (on-plain c d (b, r, m) g)) (p d m)
  firm-or c b r p n (Negated d) m = by_cases (t? (U P d)) (λ u. inr (on-negated c d (b, r, m) (n d m, u))) inl

  true_or-on : (c : ℕ) → Derived P (K P) c → T (K P c) ⊎ Descends c
  true_or-on c (rule b h m p n) =
      ⊎_elim (λ firm. inl (K-by c b (h, m) firm)) inr (all_or Firm b (firm-or c b (h, m) (λ d k. true_or-on d (p d k)) n))

  open_descends : (c : ℕ) → Open c → Descends c
  open_descends c o = ⊎_elim (λ k. absurd (o.0 k)) (λ g. g) (true_or-on c ((U-derived P c).0 o.1))

  -- from claim to claim through negations
  Onward : ℕ → ℕ → Type 0
  Onward x y = ThroughNegation P x y × (y < P.claims)

  through_reach : {x y : ℕ} → ThroughNegation P x y → Reach (Leads P) x y
  through_reach (a, b, p, n, q) = trans p (step (Negated b, n, refl) q)

  onward_reach : {x y : ℕ} → Reach Onward x y → Reach (Leads P) x y
  unfolding Onward
  onward_reach here = here
  onward_reach (step e p) = trans (through_reach e.0) (onward_reach p)

  walk : (n d : ℕ) → Open d → (w : ℕ) × (p : Reach Onward d w) × (steps p ≡ n)
  unfolding Onward
  walk zero d o = (d, here, refl)
  walk (suc n) d o =
      let g = open_descends d o in
      let rest = walk n g.0 g.2 in
      (rest.0, step (g.1, U-inside P g.0 g.2.1) rest.1, ap suc rest.2)

  pub undefined-ring : (c : ℕ) → verdict P c ≡ Undefined → (d : ℕ) × Reach (Leads P) c d × ThroughNegation P d d
  unfolding Onward
  undefined-ring c e =
      let o = (verdict-undefined P c).0 e in
      let w = walk (suc P.claims) c o in
      let r = ring P.claims (λ x y k. k.1) (U-inside P c o.1) w.1 (omega (arith, w.2)) in
      let t = r.3.0 in
      (r.0, onward_reach r.2, (t.0, t.1, t.2, t.3, trans t.4 (onward_reach r.4)))
