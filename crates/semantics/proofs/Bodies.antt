-- The bodies of a claim's rules, by the rules of a list, each rule read by f (specs/Model: bodies_by). Assumes nothing.
--   RuleBy f rs c b         b is the body of a rule of the list with head c
--   bodies_in, bodies_out   from the rule to its body among the head's, and back
--   settled-claim           the literals of the rules that a known verdict stands for are of its own claim
use Prim.Native.Nat.{ℕ}
use mathlib.Core.Path.{◌≡◌, refl, sym, ap, subst}
use mathlib.Core.Bool.{Bool, true, false, cond}
use mathlib.Core.Logic.{⊎_elim}
use mathlib.Core.List.Memᴰ
use mathlib.Core.List.{List, [], ◌∷◌}
use borrow.Author.Tests.{eq-eqb, eqb-true}
use lib.Dec.{eqb}
use Rattle.job.specs.Job.{Rule, claim_of}
use Rattle.job.specs.Encoding.{◌∈◌}
use Rattle.job.specs.declared.Literal.{Literal}
use Rattle.semantics.specs.Model.{Body, bodies_by, Verdict, True, False, Undefined, settled}

module _ (f : Rule → Body) where
  abbrev pub RuleBy : List Rule → ℕ → Body → Type 0
  RuleBy rs c b = (r : Rule) × r ∈ rs × (r.head ≡ c) × (b ≡ f r)

  skip : (t : Bool) (b x : Body) (bs : List Body) → b ∈ bs → b ∈ cond t (x ∷ bs) bs
  skip true b x bs m = Memᴰ.tail m
  skip false b x bs m = m

  pub bodies_in : (rs : List Rule) (r : Rule) → r ∈ rs → f r ∈ bodies_by f rs r.head
  bodies_in [] r m = absurd (Memᴰ.not-nil m)
  bodies_in (x ∷ rs) r m =
      ⊎_elim
      (λ e.
      let q : r.head ≡ x.head = ap (λ (y : Rule). y.head) {x = r} {y = x} e in
      let b : f r ≡ f x = ap f {x = r} {y = x} e in
      rw (eq-eqb x.head r.head (sym q)) (Memᴰ.head b))
      (λ k. skip (eqb x.head r.head) (f r) (f x) (bodies_by f rs r.head) (bodies_in rs r k))
      (Memᴰ.cases_cons m)

  later : (x : Rule) (rs : List Rule) (c : ℕ) (b : Body) → RuleBy rs c b → RuleBy (x ∷ rs) c b
  later x rs c b q = (q.0, Memᴰ.tail q.1, q.2, q.3)

  one_out :
      (x : Rule) (rs : List Rule) (c : ℕ) (b : Body) → (b ∈ bodies_by f rs c → RuleBy rs c b) → (t : Bool)
      → eqb x.head c ≡ t → b ∈ cond t (f x ∷ bodies_by f rs c) (bodies_by f rs c) → RuleBy (x ∷ rs) c b
  one_out x rs c b rec true e m =
      ⊎_elim (λ q. (x, Memᴰ.head refl, eqb-true x.head c e, q)) (λ k. later x rs c b (rec k)) (Memᴰ.cases_cons m)
  one_out x rs c b rec false e m = later x rs c b (rec m)

  pub bodies_out : (rs : List Rule) (c : ℕ) (b : Body) → b ∈ bodies_by f rs c → RuleBy rs c b
  bodies_out [] c b m = absurd (Memᴰ.not-nil m)
  bodies_out (x ∷ rs) c b m = one_out x rs c b (bodies_out rs c b) (eqb x.head c) refl m

  pub bodies_at : (rs : List Rule) (r : Rule) (c : ℕ) → r ∈ rs → r.head ≡ c → f r ∈ bodies_by f rs c
  bodies_at rs r c m e = subst (λ (d : ℕ). f r ∈ bodies_by f rs d) e (bodies_in rs r m)

pub settled-claim : (c : ℕ) (v : Verdict) (b : Body) (l : Literal) → b ∈ settled c v → l ∈ b → claim_of l ≡ c
settled-claim c True b l m k = absurd (Memᴰ.not-nil (subst (λ (x : Body). l ∈ x) (Memᴰ.eq_of_singleton m) k))
settled-claim c False b l m k = absurd (Memᴰ.not-nil m)
settled-claim c Undefined b l m k = ap claim_of (Memᴰ.eq_of_singleton (subst (λ (x : Body). l ∈ x) (Memᴰ.eq_of_singleton m) k))
