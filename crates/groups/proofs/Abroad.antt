-- The claims that lead abroad are exactly those that lead to a foreign claim (specs/Groups: abroad). Assumes nothing.
--   abroad-to, to-abroad         from the set to the way, and back
--   permitted, not-abroad        the same of a question
use Prim.Native.Nat.{ℕ, zero, suc, ◌<◌}
use mathlib.Core.Path.{◌≡◌, refl, subst, subst⁻¹}
use mathlib.Core.Bool.{false}
use mathlib.Core.List.Memᴰ
use mathlib.Core.List.{List, [], ◌∷◌}
use mathlib.Core.Logic.{⊎_elim}
use lib.Dec.{T, ltb, ltb→lt, lt→ltb}
use Rattle.base.specs.Graph.{here, step}
use Rattle.base.specs.Sets.{Claims, ◌⊆◌, iterate}
use Rattle.base.proofs.Bools.{is-not, is_false, and_in, and_left, and_right, or_left, or_right, or_cases, or_map}
use Rattle.base.proofs.Sets.{iterate-closed}
use Rattle.job.specs.Encoding.{◌∈◌, Valid}
use Rattle.job.specs.Job.{Job, claim_of, literals_of}
use Rattle.job.specs.declared.Literal.{Literal}
use Rattle.semantics.specs.Leads.{LeadsTo}
use Rattle.semantics.proofs.Leads.{used, uses-literal, leads-low}
use Rattle.groups.specs.Groups.{MayPut, foreign, leaves, nearer, abroad}
use Rattle.groups.proofs.Foreign.{foreign_open, open-foreign}

leaves_by : (W : Claims) (ls : List Literal) → T (leaves W ls) → (l : Literal) × l ∈ ls × T (W (claim_of l))
unfolding leaves
leaves_by W [] t = absurd t
leaves_by W (l ∷ ls) t =
    ⊎_elim (λ h. (l, Memᴰ.head refl, h)) (λ h. let r = leaves_by W ls h in (r.0, Memᴰ.tail r.1, r.2)) (or_cases (W (claim_of l)) (leaves W ls) t)

leaves_of : (W : Claims) (ls : List Literal) (l : Literal) → l ∈ ls → T (W (claim_of l)) → T (leaves W ls)
unfolding leaves
leaves_of W [] l m t = absurd (Memᴰ.not-nil m)
leaves_of W (x ∷ ls) l m t =
    ⊎_elim (λ e. or_left (W (claim_of x)) (leaves W ls) (subst (λ (y : Literal). T (W (claim_of y))) e t))
    (λ k. or_right (W (claim_of x)) (leaves W ls) (leaves_of W ls l k t)) (Memᴰ.cases_cons m)

module _ (j : Job) (v : Valid j) (gs : List ℕ) (g : ℕ) where
  pub record Way (c : ℕ) : Type 0 where
    pub to : ℕ
    pub leads : LeadsTo j c to
    pub foreign : T (foreign gs g to)

  way : (n c : ℕ) → T (iterate (nearer j gs g) n c) → Way c
  unfolding iterate nearer
  way zero c t = absurd t
  way (suc n) c t =
      let W = iterate (nearer j gs g) n in
      ⊎_elim (λ h. record { to = c; leads = here; foreign = h })
      (λ h.
      let l = leaves_by W (literals_of c j.rules) h in
      let r = way n (claim_of l.0) l.2 in
      record { to = r.to; leads = step (l.0, used j v c l.0 l.1, refl) r.leads; foreign = r.foreign })
      (or_cases (foreign gs g c) (leaves W (literals_of c j.rules)) (and_right (ltb c j.claims) _ t))

  pub abroad-to : (c : ℕ) → T (abroad j gs g c) → Way c
  unfolding abroad
  abroad-to c t = way j.claims c t

  rises : (S W : Claims) → S ⊆ W → nearer j gs g S ⊆ nearer j gs g W
  unfolding nearer
  rises S W h c t =
      and_in (ltb c j.claims) _ (and_left (ltb c j.claims) _ t)
      (or_map (foreign gs g c) (foreign gs g c) (leaves S (literals_of c j.rules)) (leaves W (literals_of c j.rules)) (λ x. x)
      (λ x. let l = leaves_by S (literals_of c j.rules) x in leaves_of W (literals_of c j.rules) l.0 l.1 (h (claim_of l.0) l.2))
      (and_right (ltb c j.claims) _ t))

  inside : (W : Claims) (c : ℕ) → T (nearer j gs g W c) → c < j.claims
  unfolding nearer
  inside W c t = ltb→lt c j.claims (and_left (ltb c j.claims) _ t)

  closed : (c : ℕ) → T (nearer j gs g (abroad j gs g) c) → T (abroad j gs g c)
  unfolding abroad
  closed = iterate-closed j.claims (nearer j gs g) rises inside

  pub to-abroad : {c d : ℕ} → LeadsTo j c d → T (foreign gs g d) → c < j.claims → T (abroad j gs g c)
  unfolding nearer
  to-abroad {c} here t l = closed c (and_in (ltb c j.claims) _ (lt→ltb c j.claims l) (or_left (foreign gs g c) _ t))
  to-abroad {c} (step {y = e} (k, u, q) p) t l =
      let next : T (abroad j gs g e) = to-abroad p t (leads-low j v c e (k, u, q)) in
      closed c (and_in (ltb c j.claims) _ (lt→ltb c j.claims l)
      (or_right (foreign gs g c) _ (leaves_of (abroad j gs g) (literals_of c j.rules) k (uses-literal j c k u) (subst⁻¹ (λ (x : ℕ). T (abroad j gs g x)) q next))))

  pub permitted : (c : ℕ) → c < j.claims → abroad j gs g c ≡ false → MayPut j gs g c
  permitted c l e d p = foreign_open gs g d (λ t. is-not _ e (to-abroad p t l))

  pub not-abroad : (c : ℕ) → MayPut j gs g c → abroad j gs g c ≡ false
  not-abroad c may = is_false _ (λ t. let r = abroad-to c t in open-foreign gs g r.to (may r.to r.leads) r.foreign)
