-- How the form of a valid job is written, in the order's own words (specs/Laws: OneWay). Assumes nothing.
--   Small b        the claims of the literals of b have 15 bits
--   as-numbers     literals that rise by literal_order rise as 16-bit numbers
--   less-number    the literals that first differ in two bodies, as 16-bit numbers
--   missing-later  what `last` says of two rules
--   follows        what rule_order says of two rules; ordered   and of a list of them
--   never_itself   and no rule stands behind itself
use Prim.Native.Nat.{ℕ, ◌<◌}
use mathlib.Core.Path.{◌≡◌, refl, sym, ◌∙◌, subst}
use mathlib.Core.Bool.{Bool, true, false, cond}
use mathlib.Core.List.Memᴰ
use mathlib.Core.List.{List, [], ◌∷◌, append_cancel_left}
use mathlib.Core.Logic.{⊎_elim}
use native.Mathlib.Omega.{arith}
use lib.Dec.{T, ltb, ltb→lt}
use lib.ListN.{length}
use Rattle.job.specs.Job.{claim_of, Rule, Job}
use Rattle.job.specs.Encoding.{◌∈◌, field_of, Valid}
use Rattle.job.specs.declared.Literal.{Literal}
use Rattle.forms.specs.Order.{keyed, lex, shortlex}
use Rattle.forms.specs.Sorting.{Rises}
use Rattle.forms.specs.Form.{literal_order, body_order, last, rule_order, form}
use Rattle.forms.specs.Laws.{Follows, by_head, missing_last, by_length, by_literals, Ordered, OneWay}
use Rattle.forms.proofs.Keyed.{keyed-cases}
use Rattle.forms.proofs.Lexic.{Differ, lex-differ}
use Rattle.forms.proofs.Sorting.{sort-rises}
use Rattle.forms.proofs.Orders.{by_body, literal_strict, last_one, rule-cases, literal-fields}
use Rattle.forms.proofs.Keys.{form-from, form-rises, form_key}
use Rattle.forms.proofs.FormValid.{form-valid}

abbrev Small : List Literal → Type 0
Small b = (l : Literal) → l ∈ b → claim_of l < 32768

as-numbers : (b : List Literal) → Small b → Rises literal_order b → Rises (λ l k. ltb (field_of l) (field_of k)) b
as-numbers [] h p = tt
as-numbers (l ∷ b) h p = (
  λ k m. subst T (literal-fields l k (h l (Memᴰ.head refl)) (h k (Memᴰ.tail m))) (p.0 k m),
  as-numbers b (λ k m. h k (Memᴰ.tail m)) p.1,
)

less-number : (s t : List Literal) → Small s → Small t → (d : Differ literal_order s t) → field_of d.x < field_of d.y
less-number s t a b d =
    let x : d.x ∈ s = subst (λ (z : List Literal). d.x ∈ z) (sym d.left) (Memᴰ.append_right d.common (Memᴰ.head refl)) in
    let y : d.y ∈ t = subst (λ (z : List Literal). d.y ∈ z) (sym d.right) (Memᴰ.append_right d.common (Memᴰ.head refl)) in
    ltb→lt (field_of d.x) (field_of d.y) (subst T (literal-fields d.x d.y (a d.x x) (b d.y y)) d.less)

later : (a b : Bool) → ◌<◌ (cond a 1 0) (cond b 1 0) → (a ≡ false) × (b ≡ true)
later true true h = absurd (omega arith)
later true false h = absurd (omega arith)
later false true h = (refl, refl)
later false false h = absurd (omega arith)

missing-later : (r t : Rule) → last r < last t → (r.missing ≡ false) × (t.missing ≡ true)
missing-later r t h = later r.missing t.missing h

module _ (r t : Rule) (a : Small r.body) (b : Small t.body) where
  by-body : r.head ≡ t.head → r.missing ≡ t.missing → T (body_order r.body t.body) → Follows r t
  unfolding body_order shortlex
  by-body e m u =
      ⊎_elim (λ l. by_length e m l)
      (λ q.
      let d = lex-differ literal_order literal_strict r.body t.body q.0 q.1 in
      by_literals e m q.0 d.common d.x d.y d.s' d.t' d.left d.right (less-number r.body t.body a b d))
      (keyed-cases length (lex literal_order) r.body t.body u)

  by_last : r.head ≡ t.head → T (keyed last by_body r t) → Follows r t
  by_last e u =
      ⊎_elim (λ l. let z = missing-later r t l in missing_last e z.0 z.1)
      (λ q. by-body e (last_one r t q.0) q.1) (keyed-cases last by_body r t u)

  follows : T (rule_order r t) → Follows r t
  follows u = ⊎_elim (λ l. by_head l) (λ q. by_last q.0 q.1) (rule-cases r t u)

ordered : (s : List Rule) → ((r : Rule) → r ∈ s → Small r.body) → Rises rule_order s → Ordered s
ordered [] h p = tt
ordered (r ∷ s) h p = (
  λ t m. follows r t (h r (Memᴰ.head refl)) (h t (Memᴰ.tail m)) (p.0 t m),
  ordered s (λ t m. h t (Memᴰ.tail m)) p.1,
)

never_itself : (r : Rule) → Follows r r → ⊥
never_itself r (by_head h) = absurd (omega arith)
never_itself r (missing_last e f g) = let z : ◌≡◌ {A = ℕ} 0 1 = cc in absurd (omega arith)
never_itself r (by_length e m h) = absurd (omega arith)
never_itself r (by_literals e m n p x y s u f g h) =
    let q : x ∷ s ≡ y ∷ u = append_cancel_left p (x ∷ s) (y ∷ u) (sym f ∙ g) in
    let z : field_of x ≡ field_of y = cc in
    absurd (omega arith)

form-bodies : (j : Job) (t : Rule) → t ∈ (form j).rules → Rises literal_order t.body
form-bodies j t m =
    let x = form-from j t m in
    subst (λ (u : Rule). Rises literal_order u.body) x.2 (sort-rises literal_order literal_strict x.0.body)

pub one_way : (j : Job) → Valid j → OneWay j
one_way j v =
    let w = form-valid j v in
    let small : (r : Rule) → r ∈ (form j).rules → Small r.body = λ r m l k. omega (arith, w.literals r m l k, w.claims_most) in
    record {
      literals = λ r m. as-numbers r.body (small r m) (form-bodies j r m);
      rules = ordered (form j).rules small (form-rises j);
      once = never_itself;
      says = form_key j;
    }
