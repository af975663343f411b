-- The rules of a part, by the job's (specs/Part). Assumes nothing.
--   flat_in, flat_out            what is in a list joined from parts
--   literals-in, literals_out    the literals of a body whose claims are in the part
--   body_in, own_in, body_out    a body of the part: a literal that is in the part, the head's own negation, and back
--   Made t place i r r'          rule r of the job makes rule r' of the part's claim i
--   made_in, made_out, made-head which those are, and their head
--   claim_in, _out, -head        the rules of one claim of the part
--   Source j t place ms r'       where rule r' of the part comes from
--   part_in, part_out            the rules of the part
--   member-set, number-below, number-back   the claims of a part are numbered
use Prim.Native.Nat.{ℕ, ◌-◌, ◌<◌}
use mathlib.Core.Path.{◌≡◌, refl, ap, subst}
use mathlib.Core.Bool.{Bool, true, false, not, cond}
use mathlib.Core.List.Memᴰ
use mathlib.Core.List.{List, [], ◌∷◌, flat_map}
use mathlib.Core.Logic.{◌⊎◌, inl, inr, ⊎_elim}
use native.Mathlib.Omega.{arith}
use borrow.Author.Tests.{eq-eqb, eqb-true}
use lib.Dec.{T, T_not, eqb}
use lib.ListN.{length, get_or}
use Rattle.base.specs.Lists.{upto}
use Rattle.base.specs.Sets.{set_of}
use Rattle.base.proofs.Bools.{is, is-not, is_true, twice-not}
use Rattle.base.proofs.Members.{span_all, span_at}
use Rattle.base.proofs.ByteSets.{set-yes, set-no}
use Rattle.job.specs.Job.{Rule, ◌if◌, missing_record, Job, claim_of}
use Rattle.job.specs.Encoding.{◌∈◌}
use Rattle.job.specs.declared.Literal.{Literal}
use Rattle.job.specs.declared.Literal.TheVariants.{Plain, Negated}
use Rattle.semantics.specs.Model.{Body, all_pass}
use Rattle.semantics.specs.Relevance.{moved}
use Rattle.semantics.proofs.Heads.{pass-each, one-fails}
use Rattle.parts.specs.Part.{Numbered, renumbered, within, undecided, standing, part_literals, part_body, part_rule, claim_rules, part}

pub flat_in : {A B : Type 0} (f : A → List B) (xs : List A) (x : A) (y : B) → x ∈ xs → y ∈ f x → y ∈ flat_map f xs
unfolding flat_map
flat_in f [] x y m k = absurd (Memᴰ.not-nil m)
flat_in {A} {B} f (a ∷ xs) x y m k =
    ⊎_elim (λ e. Memᴰ.append_left (flat_map f xs) (subst (λ (z : A). y ∈ f z) e k)) (λ n. Memᴰ.append_right (f a) (flat_in f xs x y n k)) (Memᴰ.cases_cons m)

pub flat_out : {A B : Type 0} (f : A → List B) (xs : List A) (y : B) → y ∈ flat_map f xs → (x : A) × x ∈ xs × y ∈ f x
unfolding flat_map
flat_out f [] y m = absurd (Memᴰ.not-nil m)
flat_out f (a ∷ xs) y m =
    ⊎_elim (λ k. (a, Memᴰ.head refl, k)) (λ k. let q = flat_out f xs y k in (q.0, Memᴰ.tail q.1, q.2)) (Memᴰ.append_cases (f a) m)

-- the literals whose claims are in the part
module _ (place : List ℕ) where
  pub literals-in : (b : Body) (m : Literal) → m ∈ b → T (within place m) → renumbered place m ∈ part_literals place b
  unfolding part_literals
  literals-in [] m k t = absurd (Memᴰ.not-nil k)
  literals-in (l ∷ b) m k t = go (within place l) refl (Memᴰ.cases_cons k) (λ n. literals-in b m n t)
    where
      go :
          (w : Bool) → within place l ≡ w → (m ≡ l) ⊎ (m ∈ b) → (m ∈ b → renumbered place m ∈ part_literals place b)
          → renumbered place m ∈ cond w (renumbered place l ∷ part_literals place b) (part_literals place b)
      go true e (inl q) ih = Memᴰ.head (ap (renumbered place) q)
      go true e (inr n) ih = Memᴰ.tail (ih n)
      go false e (inl q) ih = absurd (is-not (within place l) e (subst (λ (y : Literal). T (within place y)) q t))
      go false e (inr n) ih = ih n

  abbrev From : Body → Literal → Type 0
  From b l = (m : Literal) × m ∈ b × T (within place m) × (l ≡ renumbered place m)

  pub literals_out : (b : Body) (l : Literal) → l ∈ part_literals place b → From b l
  unfolding part_literals
  literals_out [] l k = absurd (Memᴰ.not-nil k)
  literals_out (x ∷ b) l k = go (within place x) refl k (λ n. let q = literals_out b l n in (q.0, Memᴰ.tail q.1, q.2, q.3))
    where
      go :
          (w : Bool) → within place x ≡ w → l ∈ cond w (renumbered place x ∷ part_literals place b) (part_literals place b)
          → (l ∈ part_literals place b → From (x ∷ b) l) → From (x ∷ b) l
      go true e n ih = ⊎_elim (λ q. (x, Memᴰ.head refl, is (within place x) e, q)) ih (Memᴰ.cases_cons n)
      go false e n ih = ih n

unless_in : {A : Type 0} (w : Bool) (x : A) → (T w → ⊥) → x ∈ cond w [] (x ∷ [])
unless_in true x n = absurd (n tt)
unless_in false x n = Memᴰ.head refl

unless_out : {A : Type 0} (w : Bool) (x y : A) → y ∈ cond w [] (x ∷ []) → (y ≡ x) × (T w → ⊥)
unless_out true x y m = absurd (Memᴰ.not-nil m)
unless_out false x y m = (Memᴰ.eq_of_singleton m, λ t. t)

-- a body of the part
module _ (t place : List ℕ) (i : ℕ) (b : Body) where
  decided : Literal → Bool
  decided l = not (undecided t place l)

  own : Body
  own = cond (all_pass (λ l. not (undecided t place l)) b) [] (Negated i ∷ [])

  pub body_in : (m : Literal) → m ∈ b → T (within place m) → renumbered place m ∈ part_body t place i b
  unfolding part_body own
  body_in m k w = Memᴰ.append_left own (literals-in place b m k w)

  pub own_in : (m : Literal) → m ∈ b → T (undecided t place m) → Negated i ∈ part_body t place i b
  unfolding part_body decided
  own_in m k u =
      Memᴰ.append_right (part_literals place b)
      (unless_in (all_pass decided b) (Negated i) (λ h. T_not (undecided t place m) (pass-each decided b h m k) u))

  pub body_out : (l : Literal) → l ∈ part_body t place i b → From place b l ⊎ ((l ≡ Negated i) × ((m : Literal) × m ∈ b × T (undecided t place m)))
  unfolding part_body decided
  body_out l k =
      ⊎_elim (λ n. inl (literals_out place b l n))
      (λ n.
      let q = unless_out (all_pass decided b) (Negated i) l n in
      let f = one-fails decided b q.1 in
      inr (q.0, (f.0, f.1, twice-not (undecided t place f.0) f.2)))
      (Memᴰ.append_cases (part_literals place b) k)

-- a rule of the job makes one of the part
pub data Made (t place : List ℕ) (i : ℕ) (r r' : Rule) : Type 0 where
  missing : r.missing ≡ true → r' ≡ missing_record i → Made t place i r r'
  stood : r.missing ≡ false → T (standing t place r.body) → r' ≡ (i if part_body t place i r.body) → Made t place i r r'

module _ (t place : List ℕ) (i : ℕ) (r r' : Rule) where
  pub made_in : Made t place i r r' → r' ∈ part_rule t place i r
  unfolding part_rule
  made_in (missing e q) = rw e (Memᴰ.head q)
  made_in (stood e s q) = rw (e, is_true (standing t place r.body) s) (Memᴰ.head q)

  pub made_out : r' ∈ part_rule t place i r → Made t place i r r'
  unfolding part_rule
  made_out m = go r.missing refl (standing t place r.body) refl m
    where
      go :
          (a : Bool) → r.missing ≡ a → (s : Bool) → standing t place r.body ≡ s
          → r' ∈ cond a (missing_record i ∷ []) (cond s ((i if part_body t place i r.body) ∷ []) []) → Made t place i r r'
      go true e s f k = missing e (Memᴰ.eq_of_singleton k)
      go false e true f k = stood e (is (standing t place r.body) f) (Memᴰ.eq_of_singleton k)
      go false e false f k = absurd (Memᴰ.not-nil k)

  pub made-head : Made t place i r r' → r'.head ≡ i
  made-head (missing e q) = ap (λ (x : Rule). x.head) {x = r'} {y = missing_record i} q
  made-head (stood e s q) = ap (λ (x : Rule). x.head) {x = r'} {y = i if part_body t place i r.body} q

-- the rules of one claim
module _ (t place : List ℕ) (i c : ℕ) (rs : List Rule) where
  pub claim_in : (r r' : Rule) → r ∈ rs → r.head ≡ c → Made t place i r r' → r' ∈ claim_rules t place i c rs
  unfolding claim_rules
  claim_in r r' m e k =
      flat_in (λ x. cond (eqb x.head c) (part_rule t place i x) []) rs r r' m (rw (eq-eqb r.head c e) (made_in t place i r r' k))

  pub claim_out : (r' : Rule) → r' ∈ claim_rules t place i c rs → (r : Rule) × r ∈ rs × (r.head ≡ c) × Made t place i r r'
  unfolding claim_rules
  claim_out r' m =
      let b = flat_out (λ x. cond (eqb x.head c) (part_rule t place i x) []) rs r' m in
      go b.0 b.1 (eqb b.0.head c) refl b.2
    where
      go :
          (r : Rule) → r ∈ rs → (f : Bool) → eqb r.head c ≡ f → r' ∈ cond f (part_rule t place i r) []
          → (y : Rule) × y ∈ rs × (y.head ≡ c) × Made t place i y r'
      go r k true e n = (r, k, eqb-true r.head c e, made_out t place i r r' n)
      go r k false e n = absurd (Memᴰ.not-nil n)

  pub claim-head : (r' : Rule) → r' ∈ claim_rules t place i c rs → r'.head ≡ i
  claim-head r' m = let q = claim_out r' m in made-head t place i q.0 r' q.3

-- rule r' of the part's claim i comes from rule r of the job
pub record Source (j : Job) (t place ms : List ℕ) (r' : Rule) : Type 0 where
  pub i : ℕ
  pub r : Rule
  pub below : i < length ms
  pub in_job : r ∈ j.rules
  pub head : r.head ≡ get_or ms i 0
  pub made : Made t place i r r'

module _ (j : Job) (t place ms : List ℕ) where
  pub part_in : (i : ℕ) (r r' : Rule) → i < length ms → r ∈ j.rules → r.head ≡ get_or ms i 0 → Made t place i r r' → r' ∈ (part j t place ms).rules
  unfolding part
  part_in i r r' h m e k =
      flat_in (λ x. claim_rules t place x (get_or ms x 0) j.rules) (upto (length ms)) i r' (span_at (λ x. x) 0 (length ms) i (omega arith) (omega arith))
      (claim_in t place i (get_or ms i 0) j.rules r r' m e k)

  pub part_out : (r' : Rule) → r' ∈ (part j t place ms).rules → Source j t place ms r'
  unfolding part
  part_out r' m =
      let a = flat_out (λ x. claim_rules t place x (get_or ms x 0) j.rules) (upto (length ms)) r' m in
      let q = claim_out t place a.0 (get_or ms a.0 0) j.rules r' a.2 in
      record {
        i = a.0;
        r = q.0;
        below = span_all (λ x. x < length ms) (λ x. x) 0 (length ms) (λ x g l. omega arith) a.0 a.1;
        in_job = q.1;
        head = q.2;
        made = q.3;
      }

-- the claims of a part are numbered
module _ (place ms : List ℕ) (n : Numbered place ms) where
  pub member-set : (i : ℕ) → i < length ms → T (set_of place (get_or ms i 0))
  member-set i h = is (set_of place (get_or ms i 0)) (set-yes place (get_or ms i 0) (λ e. omega (arith, n.placed i h)))

  not_none : (c : ℕ) → T (set_of place c) → get_or place c 0 ≡ 0 → ⊥
  not_none c t e = is-not (set_of place c) (set-no place c e) t

  below_all : (c : ℕ) → T (set_of place c) → get_or place c 0 - 1 < length ms
  below_all c t = omega (arith, not_none c t, (n.listed c t).0)

  pub number-below : (l : Literal) → T (within place l) → claim_of (renumbered place l) < length ms
  number-below (Plain c) t = below_all c t
  number-below (Negated c) t = below_all c t

  pub number-back : (l : Literal) → T (within place l) → moved (λ i. get_or ms i 0) (renumbered place l) ≡ l
  number-back (Plain c) t = ap Plain (n.listed c t).1
  number-back (Negated c) t = ap Negated (n.listed c t).1
