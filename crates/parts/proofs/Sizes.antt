-- A part has no more claims, rules and literals than its job, since its claims are told apart (specs/Part: Numbered). Assumes nothing.
--   sum_one                     terms of a sum of which one alone may be more, by k
--   body-short                  a body of the part is no longer than the job's: a literal that is undecided is not in the part
--   weight w rs                 what rules weigh together, each by w; weight_append, -span   of lists that are joined
--   part_weight                 the part weighs no more than the job, where no rule of it weighs more than the job's
--   fewer-rules, fewer-literals, fewer-claims   the part's counts
use Prim.Native.Nat.{ℕ, zero, suc, ◌+◌, ◌-◌, ◌<◌, ◌≤◌}
use mathlib.Core.Path.{◌≡◌, refl, ◌∙◌, ap, ap₂}
use mathlib.Core.Bool.{Bool, true, false, not, cond, ◌&&◌}
use mathlib.Core.List.{List, [], ◌∷◌, ◌++◌, flat_map}
use native.Mathlib.Omega.{arith}
use native.Mathlib.Decide.{ℕ_discrete}
use borrow.Author.Tests.{eqb-true, ltb-true, lt-ltb, le-ltb}
use lib.Dec.{eqb, ltb}
use lib.ListN.{length, get_or, length-append}
use Rattle.base.specs.Lists.{upto}
use Rattle.base.specs.Sets.{one}
use Rattle.base.specs.Span.{span}
use Rattle.base.specs.Sum.{sum}
use Rattle.base.proofs.ByteSets.{set_below}
use Rattle.base.proofs.Span.{span_snoc}
use Rattle.base.proofs.Sum.{sum-least, sum_le}
use Rattle.base.proofs.SumParts.{sum_same, sum_add, sum_none}
use Rattle.job.specs.Job.{Rule, ◌if◌, missing_record, Job, claim_of, body_count, literal_count}
use Rattle.job.specs.declared.Literal.{Literal}
use Rattle.job.specs.declared.Literal.TheVariants.{Negated}
use Rattle.semantics.specs.Model.{Body, all_pass}
use Rattle.table.specs.Layout.{mark, undefined_mark}
use Rattle.parts.specs.Part.{Numbered, renumbered, within, undecided, standing, part_literals, part_body, part_rule, claim_rules, part}
use Rattle.parts.proofs.Rules.{member-set}

module _ (f g : ℕ → ℕ) (b k : ℕ) where
  sum_one : (n : ℕ) → ((i : ℕ) → i < n → (i ≡ b → ⊥) → f i ≤ g i) → (b < n → f b ≤ g b + k) → sum f n ≤ sum g n + k
  sum_one zero h l = omega arith
  sum_one (suc n) h l = go (ℕ_discrete n b) (sum_one n (λ i m. h i (omega arith)) (λ m. l (omega arith)))
    where
      go : Dec (n ≡ b) → sum f n ≤ sum g n + k → sum f (suc n) ≤ sum g (suc n) + k
      go (yes e) r =
          let p : sum f n ≤ sum g n = sum_le f g n (λ i m. h i (omega arith) (λ d. omega arith)) in
          let q : f n ≤ g n + k = rw e (l (omega arith)) in
          omega arith
      go (no d) r = omega (arith, h n (omega arith) d)

-- a body of the part
module _ (t place : List ℕ) (i : ℕ) where
  extra : Bool → ℕ
  extra w = length {A = Literal} (cond w [] (Negated i ∷ []))

  extra_most : (w : Bool) → extra w ≤ 1
  unfolding extra
  extra_most true = omega arith
  extra_most false = omega arith

  left-short : (b : Body) → length (part_literals place b) + extra (all_pass (λ l. not (undecided t place l)) b) ≤ length b
  unfolding part_literals extra
  left-short [] = omega arith
  left-short (l ∷ b) = go (within place l) (eqb (mark t (claim_of l)) undefined_mark) (all_pass (λ y. not (undecided t place y)) b) (left-short b)
    where
      go :
          (w u a : Bool) → length (part_literals place b) + extra a ≤ length b
          → length (cond w (renumbered place l ∷ part_literals place b) (part_literals place b)) + extra (not (not w && u) && a) ≤ suc (length b)
      go true u a ih = omega arith
      go false u a ih = omega (arith, extra_most (not u && a))

  pub body-short : (b : Body) → length (part_body t place i b) ≤ length b
  unfolding part_body extra
  body-short b =
      omega (arith, left-short b, length-append (part_literals place b) (cond (all_pass (λ l. not (undecided t place l)) b) [] (Negated i ∷ [])))

-- what rules weigh together
weight : (Rule → ℕ) → List Rule → ℕ
weight w [] = 0
weight w (r ∷ rs) = w r + weight w rs

module _ (w : Rule → ℕ) where
  weight_append : (xs ys : List Rule) → weight w (xs ++ ys) ≡ weight w xs + weight w ys
  unfolding weight
  weight_append [] ys = omega arith
  weight_append (x ∷ xs) ys = omega (arith, weight_append xs ys)

  weight_flat : (f : ℕ → List Rule) (xs : List ℕ) (x : ℕ) → weight w (flat_map f (xs ++ (x ∷ []))) ≡ weight w (flat_map f xs) + weight w (f x)
  unfolding flat_map weight
  weight_flat f [] x = omega (arith, weight_append (f x) [])
  weight_flat f (y ∷ xs) x =
      omega (arith, weight_append (f y) (flat_map f (xs ++ (x ∷ []))), weight_append (f y) (flat_map f xs), weight_flat f xs x)

  weight-span : (f : ℕ → List Rule) (n : ℕ) → weight w (flat_map f (upto n)) ≡ sum (λ i. weight w (f i)) n
  unfolding flat_map weight span
  weight-span f zero = refl
  weight-span f (suc n) =
      let e : 0 + n ≡ n = omega arith in
      ap (λ (xs : List ℕ). weight w (flat_map f xs)) (span_snoc (λ (k : ℕ). k) 0 n)
      ∙ (weight_flat f (upto n) (0 + n) ∙ ap₂ ◌+◌ (weight-span f n) (ap (λ (k : ℕ). weight w (f k)) e))

  module _
      (j : Job) (t place ms : List ℕ) (numbered : Numbered place ms) (few : (i : ℕ) (r : Rule) → weight w (part_rule t place i r) ≤ w r)
    where
      met : Rule → ℕ → ℕ
      met r i = weight w (cond (eqb r.head (get_or ms i 0)) (part_rule t place i r) [])

      met_off : (r : Rule) (i : ℕ) → i < length ms → (i ≡ get_or place r.head 0 - 1 → ⊥) → met r i ≤ 0
      unfolding met weight
      met_off r i h n = go (eqb r.head (get_or ms i 0)) refl
        where
          go : (e : Bool) → eqb r.head (get_or ms i 0) ≡ e → weight w (cond e (part_rule t place i r) []) ≤ 0
          go true e =
              let q : get_or place r.head 0 ≡ get_or place (get_or ms i 0) 0 = ap (λ (c : ℕ). get_or place c 0) (eqb-true r.head (get_or ms i 0) e) in
              absurd (n (omega (arith, numbered.placed i h)))
          go false e = omega arith

      met_most : (r : Rule) (i : ℕ) → met r i ≤ 0 + w r
      unfolding met weight
      met_most r i = go (eqb r.head (get_or ms i 0))
        where
          go : (e : Bool) → weight w (cond e (part_rule t place i r) []) ≤ 0 + w r
          go true = omega (arith, few i r)
          go false = omega arith

      -- each rule of the job is met for one claim of the part at most
      claims_weight : (rs : List Rule) → sum (λ i. weight w (claim_rules t place i (get_or ms i 0) rs)) (length ms) ≤ weight w rs
      unfolding claim_rules flat_map weight met
      claims_weight [] = omega (arith, sum_none (length ms))
      claims_weight (r ∷ rs) =
          let h = get_or place r.head 0 - 1 in
          let rest : ℕ → ℕ = λ i. weight w (claim_rules t place i (get_or ms i 0) rs) in
          omega (
            arith,
            sum_same (λ i. weight w (claim_rules t place i (get_or ms i 0) (r ∷ rs))) (λ i. met r i + rest i) (length ms)
                (λ i l. weight_append (cond (eqb r.head (get_or ms i 0)) (part_rule t place i r) []) (claim_rules t place i (get_or ms i 0) rs)),
            sum_add (met r) rest (length ms),
            sum_none (length ms),
            sum_one (met r) (λ i. 0) h (w r) (length ms) (met_off r) (λ l. met_most r h),
            claims_weight rs,
          )

      part_weight : weight w (part j t place ms).rules ≤ weight w j.rules
      unfolding part
      part_weight = omega (arith, weight-span (λ i. claim_rules t place i (get_or ms i 0) j.rules) (length ms), claims_weight j.rules)

  -- a rule of the part weighs no more than the job's
  rule-weight :
      (t place : List ℕ) (i : ℕ) (r : Rule) → w (missing_record i) ≤ w r → w (i if part_body t place i r.body) ≤ w r → weight w (part_rule t place i r) ≤ w r
  unfolding part_rule weight
  rule-weight t place i r m b = go r.missing (standing t place r.body)
    where
      go : (a s : Bool) → weight w (cond a (missing_record i ∷ []) (cond s ((i if part_body t place i r.body) ∷ []) [])) ≤ w r
      go true s = omega arith
      go false true = omega arith
      go false false = omega arith

as-rules : (rs : List Rule) → length rs ≡ weight (λ r. 1) rs
unfolding weight
as-rules [] = refl
as-rules (r ∷ rs) = omega (arith, as-rules rs)

as-literals : (rs : List Rule) → body_count rs ≡ weight (λ r. length r.body) rs
unfolding weight body_count
as-literals [] = refl
as-literals (r ∷ rs) = omega (arith, as-literals rs)

module _ (j : Job) (t place ms : List ℕ) (numbered : Numbered place ms) where
  pub fewer-rules : length (part j t place ms).rules ≤ length j.rules
  fewer-rules =
      omega (
        arith,
        as-rules (part j t place ms).rules,
        as-rules j.rules,
        part_weight (λ r. 1) j t place ms numbered (λ i r. rule-weight (λ r. 1) t place i r (omega arith) (omega arith)),
      )

  pub fewer-literals : literal_count (part j t place ms) ≤ literal_count j
  fewer-literals =
      omega (
        arith,
        as-literals (part j t place ms).rules,
        as-literals j.rules,
        part_weight (λ r. length r.body) j t place ms numbered
            (λ i r. rule-weight (λ r. length r.body) t place i r (omega arith) (body-short t place i r.body)),
      )

  -- how many of them are below m
  below : ℕ → ℕ → ℕ
  below m i = one (ltb (get_or ms i 0) m)

  at_most : (b : Bool) → one b ≤ 1
  unfolding one
  at_most true = omega arith
  at_most false = omega arith

  below_none : (i : ℕ) → below 0 i ≤ 0
  unfolding below one
  below_none i = rw (le-ltb (get_or ms i 0) 0 (omega arith)) (omega arith)

  below_more : (m i : ℕ) → i < length ms → (i ≡ get_or place m 0 - 1 → ⊥) → below (suc m) i ≤ below m i
  unfolding below one
  below_more m i h n = go (ltb (get_or ms i 0) (suc m)) refl
    where
      go : (b : Bool) → ltb (get_or ms i 0) (suc m) ≡ b → one b ≤ one (ltb (get_or ms i 0) m)
      go false e = omega arith
      go true e =
          let other : get_or ms i 0 ≡ m → ⊥ = λ q. n (omega (arith, numbered.placed i h, ap (λ (c : ℕ). get_or place c 0) q)) in
          let less : get_or ms i 0 < m = omega (arith, ltb-true (get_or ms i 0) (suc m) e) in
          rw (lt-ltb (get_or ms i 0) m less) (omega arith)

  below_all : (m : ℕ) → sum (below m) (length ms) ≤ m
  unfolding below one
  below_all zero =
      omega (arith, sum_none (length ms), sum_le (below 0) (λ i. 0) (length ms) (λ i h. below_none i))
  below_all (suc m) =
      omega (
        arith,
        below_all m,
        sum_one (below (suc m)) (below m) (get_or place m 0 - 1) 1 (length ms) (below_more m)
            (λ h. omega (arith, at_most (ltb (get_or ms (get_or place m 0 - 1) 0) (suc m)))),
      )

  pub fewer-claims : length place ≡ j.claims → length ms ≤ j.claims
  unfolding below one
  fewer-claims e =
      omega (arith, below_all j.claims, sum-least (below j.claims) (length ms) each)
    where
      each : (i : ℕ) → i < length ms → 1 ≤ one (ltb (get_or ms i 0) j.claims)
      each i h =
          let less : get_or ms i 0 < j.claims = omega (arith, set_below place (get_or ms i 0) (member-set place ms numbered i h)) in
          rw (lt-ltb (get_or ms i 0) j.claims less) (omega arith)
