-- Rules, their positions and their counters at the start (specs/Positions). Assumes nothing.
--   count_shift           two sets that agree from a on count alike from there on
--   count-every           all positions count
--   Owned s own           `own` has the rule of each position
--   owner_of              `owners` has it
--   owners-owned          so it is a list of the rules of positions
--   owner_is              a position in a rule's body is that rule's
--   waiting-body          a rule waits for what is due in its body
--   Counted s cnt base due i   the counters of the rules below i, each by its body
--   counted_start, _more, -done
use Prim.Native.Nat.{ℕ, zero, suc, ◌+◌, ◌<◌, ◌≤◌}
use mathlib.Core.Path.{◌≡◌, refl, ◌∙◌, ap, subst, subst⁻¹}
use mathlib.Core.Bool.{Bool, true, false, ◌&&◌, and-false}
use mathlib.Core.List.{List}
use mathlib.Core.Logic.{⊎_elim, by_cases}
use native.Mathlib.Omega.{arith}
use native.Mathlib.Nat.{eq-or-lt_of_le, le_of_suc-le-suc, zero-add}
use native.Mathlib.Numerals.{add-one}
use native.Mathlib.Decide.{ℕ_discrete, dec_lt}
use borrow.Author.Tests.{ne_eqb, eq-eqb, le-leb, lt-leb}
use lib.Dec.{eqb, leb}
use lib.ListN.{length, get_or, set, length-set}
use lib.Seq.{get_or-set_same, get_or-set_other}
use Rattle.base.specs.Sets.{Claims, one, count}
use Rattle.base.proofs.Counts.{count_same}
use Rattle.base.proofs.Sets.{count-empty, count_none}
use Rattle.base.proofs.Span.{length-span, get_d-span}
use Rattle.job.specs.Format.{rules, literals, body_start, body_length_at}
use Rattle.job.specs.Accepted.{WellFormed}
use Rattle.job.proofs.Parts.{body_first, body_start-next, body-within}
use Rattle.job.proofs.Contiguous.{three}
use Rattle.counters.specs.Positions.{owner_at, owners, Within, waiting, Counts, every_position}

pub record Owned (s own : List ℕ) : Type 0 where
  pub long : literals s ≤ length own
  pub owner : (p : ℕ) → p < literals s → Within s p (get_or own p 0)

pub count_shift :
    (f g : Claims) (a b : ℕ) → a ≤ b → ((p : ℕ) → a ≤ p → p < b → g p ≡ f p) → count g b + count f a ≡ count f b + count g a
unfolding count
count_shift f g a zero l h = let e : a ≡ 0 = omega arith in rw e
count_shift f g a (suc b) l h =
    ⊎_elim (λ e. rw e (omega arith))
    (λ m.
    let x : one (g b) ≡ one (f b) = ap one (h b (le_of_suc-le-suc m) (omega arith)) in
    omega (arith, count_shift f g a b (le_of_suc-le-suc m) (λ p i j. h p i (omega arith))))
    (eq-or-lt_of_le l)

-- none from a on
count-stop : (g : Claims) (a b : ℕ) → a ≤ b → ((p : ℕ) → a ≤ p → p < b → g p ≡ false) → count g b ≡ count g a
count-stop g a b l h =
    omega (arith, count_shift (λ p. false) g a b l h, count-empty (λ p. false) (λ c t. t) a, count-empty (λ p. false) (λ c t. t) b)

pub count-every : (n : ℕ) → count every_position n ≡ n
unfolding count one every_position
count-every zero = refl
count-every (suc n) = omega (arith, count-every n)

-- owners
start-rises : (s : List ℕ) (i m : ℕ) → i ≤ m → body_start s i ≤ body_start s m
start-rises s i m l =
    by_cases (ℕ_discrete i m) (λ e. rw e (omega arith)) (λ d. omega (arith, body-within s i m (omega arith)))

-- the rules below r end at p or before, and the others after it
owner_at_lem : (s : List ℕ) (p r : ℕ) → Within s p r → owner_at s p ≡ r
unfolding owner_at every_position
owner_at_lem s p r w =
    let g : Claims = λ i. leb (body_start s (i + 1)) p in
    let below = w.below in
    let from = w.from in
    let to = w.to in
    let after : count g (rules s) ≡ count g r =
    count-stop g r (rules s) (omega arith)
    (λ i a b. lt-leb (body_start s (i + 1)) p (omega (arith, body_start-next s r, start-rises s (r + 1) (i + 1) (omega arith)))) in
    let before : count g r ≡ count every_position r =
    count_same every_position g r (λ i l. le-leb (body_start s (i + 1)) p (omega (arith, start-rises s (i + 1) r (omega arith)))) in
    after ∙ before ∙ count-every r

-- the rule of a position
rule_of : (s : List ℕ) (p n : ℕ) → n ≤ rules s → p < body_start s n → (r : ℕ) × Within s p r
rule_of s p zero l m = absurd (omega (arith, body_first s))
rule_of s p (suc n) l m =
    by_cases (dec_lt p (body_start s n)) (rule_of s p n (omega arith))
    (λ d. (n, record { below = omega arith; from = omega arith; to = omega (arith, ap (body_start s) (add-one n), body_start-next s n) }))

module _ (s : List ℕ) (good : WellFormed s) where
  pub owner_of : {p r : ℕ} → Within s p r → get_or (owners s) p 0 ≡ r
  unfolding owners
  owner_of {p} {r} w =
      get_d-span (owner_at s) 0 (literals s) p 0 (omega (arith, body-within s r (rules s) w.below, good.bodies, w.to))
      ∙ ap (owner_at s) (zero-add p) ∙ owner_at_lem s p r w

  pub owners-owned : Owned s (owners s)
  unfolding owners
  owners-owned =
      record {
        long = omega (arith, length-span (owner_at s) 0 (literals s));
        owner =
            λ p l.
            let w = rule_of s p (rules s) (omega arith) (omega (arith, good.bodies)) in
            subst⁻¹ (Within s p) (owner_of w.1) w.1;
      }

module _ (s own : List ℕ) (all : body_start s (rules s) ≡ literals s) (o : Owned s own) (r : ℕ) (l : r < rules s) where
  in-range : body_start s r + body_length_at s r ≤ literals s
  in-range = omega (arith, body-within s r (rules s) l)

  pub owner_is : (p : ℕ) → body_start s r ≤ p → p < body_start s r + body_length_at s r → get_or own p 0 ≡ r
  owner_is p a b =
      let w = o.owner p (omega (arith, in-range)) in
      three (get_or own p 0) r (λ x. absurd (omega (arith, body-within s (get_or own p 0) r x, w.to))) (λ e. e)
      (λ x. absurd (omega (arith, body-within s r (get_or own p 0) x, w.from)))

  -- a position outside the body is another rule's
  outside : (d : Bool) (p : ℕ) → p < literals s → (Within s p r → ⊥) → (d && eqb (get_or own p 0) r) ≡ false
  outside d p m f =
      ap (λ (b : Bool). d && b) (ne_eqb (get_or own p 0) r (λ e. f (subst (Within s p) e (o.owner p m)))) ∙ and-false d

  inside : (d : Bool) (p : ℕ) → get_or own p 0 ≡ r → (d && eqb (get_or own p 0) r) ≡ d
  inside true p e = eq-eqb (get_or own p 0) r e
  inside false p e = refl

  pub waiting-body :
      (due : ℕ → Bool)
      → waiting own due (literals s) r + count due (body_start s r) ≡ count due (body_start s r + body_length_at s r)
  unfolding waiting
  waiting-body due =
      let g : Claims = λ p. due p && eqb (get_or own p 0) r in
      let a = body_start s r in
      let b = body_start s r + body_length_at s r in
      let x : count g a ≡ count g 0 =
      count-stop g 0 a (omega arith) (λ p i j. outside (due p) p (omega (arith, in-range)) (λ w. omega (arith, w.from))) in
      let y : count g b + count due a ≡ count due b + count g a =
      count_shift due g a b (omega arith) (λ p i j. inside (due p) p (owner_is p i j)) in
      let z : count g (literals s) ≡ count g b =
      count-stop g b (literals s) in-range (λ p i j. outside (due p) p j (λ w. omega (arith, w.to))) in
      omega (arith, count_none g)

-- counters
pub record Counted (s cnt : List ℕ) (base : ℕ → ℕ) (due : ℕ → Bool) (i : ℕ) : Type 0 where
  pub long : rules s ≤ length cnt
  pub counted :
      (r : ℕ) → r < i → get_or cnt r 0 + count due (body_start s r) ≡ base r + count due (body_start s r + body_length_at s r)

module _ (s cnt : List ℕ) (base : ℕ → ℕ) (due : ℕ → Bool) where
  pub counted_start : rules s ≤ length cnt → Counted s cnt base due 0
  counted_start l = record { long = l; counted = λ r m. absurd (omega arith) }

  pub counted_more :
      (i x : ℕ) → i < rules s → x + count due (body_start s i) ≡ base i + count due (body_start s i + body_length_at s i)
      → Counted s cnt base due i → Counted s (set cnt i x) base due (i + 1)
  counted_more i x l e old =
      record {
        long = simp length-set old.long;
        counted =
            λ r m.
            by_cases (ℕ_discrete r i)
            (λ y.
            subst⁻¹
            (λ (z : ℕ). get_or (set cnt i x) z 0 + count due (body_start s z) ≡ base z + count due (body_start s z + body_length_at s z)) y
            (ap (λ (z : ℕ). z + count due (body_start s i)) (get_or-set_same cnt i x 0 (omega (arith, old.long))) ∙ e))
            (λ d. ap (λ (z : ℕ). z + count due (body_start s r)) (get_or-set_other cnt i r x 0 d) ∙ old.counted r (omega arith));
      }

  pub counted-done :
      (own : List ℕ) (i : ℕ) → body_start s (rules s) ≡ literals s → Owned s own → i ≡ rules s → Counted s cnt base due i
      → Counts s own cnt base due
  counted-done own i all o e old =
      record {
        long = old.long;
        counted = λ r l. omega (arith, old.counted r (omega arith), waiting-body s own all o r l due);
      }
