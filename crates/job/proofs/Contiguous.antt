-- One claim's literals are a contiguous part of the job's literals, and the index of claims holds where they start. Assumes nothing.
use Prim.Native.Nat.{ℕ, zero, suc, ◌+◌, ◌-◌, ◌<◌, ◌≤◌}
use mathlib.Core.Path.{◌≡◌, refl, sym, ◌∙◌, ap, ap₂}
use mathlib.Core.Bool.{Bool, true, false, cond, ◌&&◌}
use mathlib.Core.List.{List, [], ◌∷◌, ◌++◌, append_assoc, append-nil}
use lib.ListN.{length, get_or, set}
use lib.Seq.{get_or-set_same, get_or-set_other}
use lib.Dec.{eqb}
use borrow.Author.Tests.{eq-eqb, ne_eqb}
use native.Mathlib.Omega.{arith}
use native.Mathlib.Nat.{add-zero, zero-add}
use native.Mathlib.Decide.{dec_lt, ℕ_discrete}
use mathlib.Core.Logic.{by_cases}
use Rattle.base.specs.Compare.{under}
use Rattle.base.specs.Span.{span}
use Rattle.base.proofs.Bools.{and_both, and_rest}
use Rattle.base.proofs.Compare.{under-yes, under-no, under_lt, under_le}
use Rattle.base.proofs.Span.{length-span, span_add, span_snoc}
use Rattle.job.specs.Job.{Rule, literals_of}
use Rattle.job.specs.Format.{rules, head_at, head_before, body_start, body_length_at, literal_at, rule_at, job_of}
use Rattle.job.specs.Claims.{literals_below, claim_start, ClaimLiterals}
use Rattle.job.specs.Accepted.{WellFormed}
use Rattle.job.proofs.Parts.{rises}

pub literals_of_append : (c : ℕ) (x y : List Rule) → literals_of c (x ++ y) ≡ literals_of c x ++ literals_of c y
unfolding literals_of
literals_of_append c [] y = refl
literals_of_append c (r ∷ x) y = rw (literals_of_append c x y, append_assoc)

-- x below y, equal to it or above it
pub three : (x y : ℕ) {C : Type 0} → (x < y → C) → (x ≡ y → C) → (y < x → C) → C
three x y {C} p q r = go (dec_lt x y) (dec_lt y x)
  where
    go : Dec (x < y) → Dec (y < x) → C
    go (yes h) d = p h
    go (no h) (yes g) = r g
    go (no h) (no g) = q (omega arith)

-- where all heads are below c, so are all literals
pub below_all : (s : List ℕ) (c i : ℕ) → ((j : ℕ) → j < i → head_at s j < c) → literals_below s c i ≡ body_start s i
unfolding literals_below body_start
below_all s c zero h = refl
below_all s c (suc i) h = rw (under-yes _ _ (h i (omega arith)), below_all s c i (λ j l. h j (omega arith)))

-- one rule more for the literals below a claim
pub takes : (s : List ℕ) (c i : ℕ) → head_at s i < c → literals_below s c (suc i) ≡ literals_below s c i + body_length_at s i
unfolding literals_below
takes s c i h = rw (under-yes _ _ h)

pub skips : (s : List ℕ) (c i : ℕ) → c ≤ head_at s i → literals_below s c (suc i) ≡ literals_below s c i
unfolding literals_below
skips s c i h = rw (under-no _ _ h) (omega arith)

below_most : (s : List ℕ) (c i : ℕ) → literals_below s c i ≤ body_start s i
unfolding literals_below body_start
below_most s c zero = omega arith
below_most s c (suc i) = grown (under (head_at s i) c) (below_most s c i)
  where
    grown : (b : Bool) → literals_below s c i ≤ body_start s i → literals_below s c i + cond b (body_length_at s i) 0 ≤ body_start s i + body_length_at s i
    grown true h = omega arith
    grown false h = omega arith

pub below-rises : (s : List ℕ) (c i : ℕ) → literals_below s c i ≤ literals_below s (c + 1) i
unfolding literals_below
below-rises s c zero = omega arith
below-rises s c (suc i) =
    let ih = below-rises s c i in
    by_cases (dec_lt (head_at s i) c) (λ h. rw (under-yes _ _ h, under-yes (head_at s i) (c + 1) (omega arith)) (omega arith))
    (λ h. rw (under-no (head_at s i) c (omega arith)) (omega arith))

module _ (s : List ℕ) (m : ℕ) (up : (k : ℕ) → k < m → head_before s k ≤ head_at s k) (c : ℕ) where
  -- one rule more: its body follows the range where c heads it, and the range stays where a later claim does
  step : (i : ℕ) → i < m → span (literal_at s m) (literals_below s c i) (literals_below s (c + 1) i - literals_below s c i) ++ cond (eqb (head_at s i) c) (span (literal_at s m) (body_start s i) (body_length_at s i)) [] ≡ span (literal_at s m) (literals_below s c (suc i)) (literals_below s (c + 1) (suc i) - literals_below s c (suc i))
  unfolding span
  step i l =
      let a = literals_below s c i in
      let b = literals_below s (c + 1) i in
      let n = body_length_at s i in
      let before : (j : ℕ) → j < i → head_at s j ≤ head_at s i = λ j k. rises s m up j i (omega arith) l in
      three (head_at s i) c
      (λ h.
      let x : a ≡ body_start s i = below_all s c i (λ j k. omega (arith, before j k)) in
      let y : b ≡ body_start s i = below_all s (c + 1) i (λ j k. omega (arith, before j k)) in
      let e : b - a ≡ 0 = omega arith in
      let d : literals_below s (c + 1) (suc i) - literals_below s c (suc i) ≡ 0 = omega (arith, takes s c i h, takes s (c + 1) i (omega arith)) in
      rw (ne_eqb (head_at s i) c (omega arith), e, d))
      (λ h.
      let y : b ≡ body_start s i = below_all s (c + 1) i (λ j k. omega (arith, before j k)) in
      let x : a ≤ body_start s i = below_most s c i in
      let g : literals_below s c (suc i) ≡ a = skips s c i (omega arith) in
      let d : literals_below s (c + 1) (suc i) - literals_below s c (suc i) ≡ (b - a) + n = omega (arith, takes s (c + 1) i (omega arith)) in
      let z : a + (b - a) ≡ body_start s i = omega arith in
      rw (eq-eqb (head_at s i) c h)
      (sym (ap₂ (span (literal_at s m)) g d ∙ span_add (literal_at s m) a (b - a) n ∙ ap (λ (x : ℕ). span (literal_at s m) a (b - a) ++ span (literal_at s m) x n) z)))
      (λ h. rw (ne_eqb (head_at s i) c (omega arith), skips s c i (omega arith), skips s (c + 1) i (omega arith), append-nil))

  one : (i : ℕ) → literals_of c (rule_at s m i ∷ []) ≡ cond (eqb (head_at s i) c) (span (literal_at s m) (body_start s i) (body_length_at s i)) []
  unfolding literals_of rule_at
  one i = append-nil _

  -- the literals of claim c in the first i rules are a range
  pub range : (i : ℕ) → i ≤ m → literals_of c (span (rule_at s m) 0 i) ≡ span (literal_at s m) (literals_below s c i) (literals_below s (c + 1) i - literals_below s c i)
  unfolding span literals_of literals_below
  range zero l = refl
  range (suc i) l =
      ap (literals_of c) (span_snoc (rule_at s m) 0 i ∙ ap (λ (x : ℕ). span (rule_at s m) 0 i ++ (rule_at s m x ∷ [])) (zero-add i)) ∙ (literals_of_append c (span (rule_at s m) 0 i) (rule_at s m i ∷ []) ∙ (ap₂ ◌++◌ (range i (omega arith)) (one i) ∙ step i (omega arith)))

-- from a rule on whose head is not below c, no literals are below c
flat : (s : List ℕ) (c i n : ℕ) → ((j : ℕ) → i ≤ j → j < i + n → c ≤ head_at s j) → literals_below s c (i + n) ≡ literals_below s c i
flat s c i zero h = ap (literals_below s c) (add-zero i)
flat s c i (suc n) h =
    let e : i + suc n ≡ suc (i + n) = omega arith in
    ap (literals_below s c) e ∙ (skips s c (i + n) (h (i + n) (omega arith) (omega arith)) ∙ flat s c i n (λ j a b. h j a (omega arith)))

-- where the literals of a claim start, as the pass over rules and claims finds it: all heads before rule i are below c, and rule i's is not, or there is none
pub starts_here : (s : List ℕ) (m : ℕ) → ((k : ℕ) → k < m → head_before s k ≤ head_at s k) → (c i : ℕ) → i ≤ m → ((j : ℕ) → j < i → head_at s j < c) → (i < m → c ≤ head_at s i) → literals_below s c m ≡ body_start s i
starts_here s m up c i l before at =
    let e : i + (m - i) ≡ m = omega arith in
    sym (ap (literals_below s c) e)
    ∙ (flat s c i (m - i) (λ j a b. let g : c ≤ head_at s i = at (omega arith) in omega (arith, rises s m up i j a (omega arith))) ∙ below_all s c i before)

pub claim-literals : (s : List ℕ) → WellFormed s → (c : ℕ) → ClaimLiterals s c
unfolding job_of
claim-literals s w c =
    let p = range s (rules s) w.rise c (rules s) (omega arith) in
    record {
      part = p;
      count = ap length p ∙ length-span (literal_at s (rules s)) _ _;
      ordered = below-rises s c (rules s);
      within = omega (arith, below_most s (c + 1) (rules s), w.bodies);
    }

-- a turn of the pass over rules and claims, by the test that it makes: rule i is there and its head is below c
module _ (s : List ℕ) {m : ℕ} (c i : ℕ) (same : m ≡ rules s) {r : Bool} (test : r ≡ (under i m && under (head_at s i) c)) where
  pub rule-there : r ≡ true → i < rules s
  rule-there e = omega (arith, under_lt i m (and_both (under i m) _ (sym test ∙ e)).0)

  pub rule-below : r ≡ true → head_at s i < c
  rule-below e = under_lt _ _ (and_both (under i m) _ (sym test ∙ e)).1

  pub rule-past : r ≡ false → i < rules s → c ≤ head_at s i
  rule-past e l = under_le _ _ (and_rest (under i m) _ (sym test ∙ e) (under-yes i m (omega arith)))

-- one claim more in the index
pub index-more : (s index : List ℕ) (c v : ℕ) → c < length index → v ≡ claim_start s c → ((d : ℕ) → d < c → get_or index d 0 ≡ claim_start s d) → (d : ℕ) → d < c + 1 → get_or (set index c v) d 0 ≡ claim_start s d
index-more s index c v l e h d b =
    by_cases (ℕ_discrete d c) (λ q. rw q (get_or-set_same index c v 0 l ∙ e)) (λ n. get_or-set_other index c d v 0 n ∙ h d (omega arith))
