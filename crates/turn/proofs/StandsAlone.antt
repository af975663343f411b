-- Where all that a claim reaches is w's and has passed all its literals, it makes a part of the job that stands alone (`Alone`, parts/specs/Part): of a rule that has
-- not failed every literal leads on, so its claim is reached or complete. Assumes nothing.
--   stands-alone
use Prim.Native.Nat.{ℕ, ◌+◌, ◌-◌, ◌<◌}
use mathlib.Core.Path.{◌≡◌, refl, sym, ◌∙◌, ap, subst}
use mathlib.Core.Bool.{not, ◌||◌}
use mathlib.Core.List.{List}
use mathlib.Core.Logic.{by_cases}
use native.Mathlib.Omega.{arith}
use native.Mathlib.Decide.{dec_lt}
use lib.Dec.{T, T_not, not_T, leb→le, le→leb}
use lib.ListN.{length, get_or}
use Rattle.base.specs.Sets.{set_of}
use Rattle.base.proofs.Bools.{and_in, or_left, or_right}
use Rattle.base.proofs.Choose.{t?}
use Rattle.job.specs.Job.{Rule, Job, claim_of, literals_of}
use Rattle.job.specs.Encoding.{◌∈◌}
use Rattle.job.specs.declared.Literal.{Literal}
use Rattle.job.specs.declared.Literal.TheVariants.{Plain}
use Rattle.job.proofs.RuleEnds.{RuleAt, rule-at}
use Rattle.parts.specs.Part.{within, failing, standing, Alone}
use Rattle.semantics.proofs.Heads.{pass-each}
use Rattle.table.specs.Layout as W
use Rattle.table.specs.Literals.{failed}
use Rattle.table.proofs.Failing.{failed_done}
use Rattle.turn.specs.Turn.{lits, lit_at}
use Rattle.turn.proofs.AtPlaces.{member, at_place}
use Rattle.turn.proofs.Behind.{Behind, claim_lit}
use Rattle.turn.proofs.Jobs.{JobOk, lits-length}
use Rattle.turn.proofs.Leading.{passed-leads}
use Rattle.turn.proofs.Reached.{Leads}

module _ (j : Job) (J : JobOk j) (t place : List ℕ) (closed : (c d : ℕ) → T (set_of place c) → Leads j t c d → T (set_of place d)) (open' : (c : ℕ) → T (set_of place c) → W.mark t c < W.true_mark) (passed : (c : ℕ) → T (set_of place c) → W.cursor t c ≡ length (lits j c)) where
  -- a literal of a rule that stands is not false
  holds : (b : List Literal) → T (standing t place b) → (l : Literal) → l ∈ b → T (failed t l) → ⊥
  holds b h l m f =
      by_cases (t? (within place l)) (λ w. omega (arith, open' (claim_of l) w, failed_done t l f))
      (λ n. T_not (failing t place l) (pass-each (λ l. not (failing t place l)) b h l m) (and_in (not (within place l)) (failed t l) (not_T (within place l) n) f))

  module _ (r : Rule) (i : r ∈ j.rules) (in-set : T (set_of place r.head)) (h : T (standing t place r.body)) where
    at : RuleAt r.head j.rules r
    at = rule-at r.head j.rules r i refl

    -- none of its literals stands behind a false one
    free : (k : ℕ) → k < length r.body → Behind j t r.head (at.from + k) → ⊥
    unfolding lit_at
    free k l b =
        by_cases (dec_lt b.at at.from) (λ y. omega (arith, at.before b.at y, b.within))
        (λ y.
        let n = b.at - at.from in
        let low : b.at - at.from < length r.body = omega (arith, b.before) in
        let e : at.from + (b.at - at.from) ≡ b.at = omega arith in
        let z : lit_at j r.head b.at ≡ get_or r.body (b.at - at.from) (Plain 0) =
        ap (λ (x : ℕ). get_or (literals_of r.head j.rules) x (Plain 0)) (sym e) ∙ at.literal (b.at - at.from) low in
        holds r.body h (get_or r.body (b.at - at.from) (Plain 0)) (member r.body (Plain 0) (b.at - at.from) low) (subst (λ (x : Literal). T (failed t x)) z b.fails))

    literal_covered : (k : ℕ) → k < length r.body → T (within place (get_or r.body k (Plain 0)) || W.complete t (claim_of (get_or r.body k (Plain 0))))
    unfolding lit_at
    literal_covered k l =
        let d = claim_of (get_or r.body k (Plain 0)) in
        let is : get_or (lits j r.head) (at.from + k) 0 ≡ claim_of (get_or r.body k (Plain 0)) =
        claim_lit j r.head (at.from + k) ∙ ap claim_of (at.literal k l) in
        let low : at.from + k < length (lits j r.head) = omega (arith, at.most, lits-length j r.head) in
        by_cases (t? (W.complete t (claim_of (get_or r.body k (Plain 0))))) (λ y. or_right (within place (get_or r.body k (Plain 0))) (W.complete t (claim_of (get_or r.body k (Plain 0)))) y)
        (λ n.
        or_left (within place (get_or r.body k (Plain 0))) (W.complete t (claim_of (get_or r.body k (Plain 0))))
        (closed r.head (claim_of (get_or r.body k (Plain 0))) in-set
        (passed-leads j J t (at.from + k) (omega (arith, passed r.head in-set)) low is (free k l) (below_open (claim_of (get_or r.body k (Plain 0))) n))))
      where
        below_open : (d : ℕ) → (T (W.complete t d) → ⊥) → W.mark t d < W.true_mark
        below_open d n = by_cases (dec_lt (W.mark t d) W.true_mark) (λ y. y) (λ y. absurd (n (le→leb W.true_mark (W.mark t d) (omega arith))))

  pub stands-alone : Alone j t place
  stands-alone =
      record {
        incomplete = λ c h. not_T (W.complete t c) (λ y. absurd (omega (arith, open' c h, leb→le W.true_mark (W.mark t c) y)));
        covered = λ r i h s l m.
            let k = at_place r.body (Plain 0) l m in
            subst (λ (x : Literal). T (within place x || W.complete t (claim_of x))) k.2 (literal_covered r i h s k.0 k.1);
      }
