use Prim.Native.Nat.{◌+◌, ◌≤◌, ◌<◌}
use mathlib.Core.Path.{refl, sym, ◌∙◌, subst}
use mathlib.Core.Logic.{by_cases}
use native.Mathlib.Omega.{arith}
use native.Mathlib.Decide.{dec_lt}
use borrow.Author.Count.{below_none, below_more}
use lib.ListN.{length-set}
use Rattle.base.proofs.Zeros.{zeros_at, zeros-long}
use lib.Seq.{get_or-set_other}
use Rattle.job.proofs.Contiguous.{starts_here, rule-there, rule-below, rule-past, index-more, claim-literals}
use Rattle.job.proofs.IndexEnds.{bounds-start, bounds-more, bounds-kept}
use Rattle.job.proofs.Parts.{body_start-next, body-within}
use Rattle.job.specs.Claims.{index_entries, Bounds}
use Rattle.job.specs.Format.{rules, body_start}
use Rattle.job.proofs.claims.fill_index.Goals as goal
use Rattle.job.proofs.claims.fill_index.Goals.{After-body_length_at-passed, Then-head_below}

pub loop-claim-init : goal.loop-claim-init
unfolding body_start
loop-claim-init c = (zeros-long index_entries c.requires.zeros, omega arith, omega arith, refl, omega arith, below_none _, below_none _, bounds-start _ c.requires.zeros, λ h. absurd (omega arith), λ d a b. zeros_at index_entries c.requires.zeros d)

-- the rule that the test found
there : (c : Then-head_below) → c.loop-claim.i < rules c.args.job.now
there c = rule-there _ c.loop-claim.claim _ c.rule_count-rules.ensures.value c.head_below.ensures c.if-head_below.true

pub body_length_at-passed-requires : goal.body_length_at-passed-requires
body_length_at-passed-requires c = omega (arith, there (goal.at.body_length_at-passed-requires c).Then-head_below)

-- the rule's end is within the literals
within : (c : After-body_length_at-passed) → c.loop-claim.passed + c.body_length_at-passed.result ≤ 16384
within c =
    let l = c.loop-claim in
    omega (arith, l.invariant.3, c.body_length_at-passed.ensures.value, body-within c.args.job.now l.i (rules c.args.job.now) (there (goal.at.After-body_length_at-passed c).Then-head_below), c.requires.accepted.bodies, c.requires.accepted.sized.literals_most)

pub overflow_add-field : goal.overflow_add-field
overflow_add-field c = omega (arith, within (goal.at.overflow_add-field c).After-body_length_at-passed)

pub offset_bounds-index-field : goal.offset_bounds-index-field
offset_bounds-index-field c = omega (arith, within (goal.at.offset_bounds-index-field c).After-body_length_at-passed)

pub bounds-index-field : goal.bounds-index-field
bounds-index-field c = omega (arith, within (goal.at.bounds-index-field c).After-body_length_at-passed)

pub offset_bounds-index-field-then-head_below : goal.offset_bounds-index-field-then-head_below
offset_bounds-index-field-then-head_below c = omega (arith, within (goal.at.offset_bounds-index-field-then-head_below c).After-body_length_at-passed)

pub bounds-index-field-then-head_below : goal.bounds-index-field-then-head_below
bounds-index-field-then-head_below c = omega (arith, within (goal.at.bounds-index-field-then-head_below c).After-body_length_at-passed)

pub loop-claim-smaller-then-head_below : goal.loop-claim-smaller-then-head_below
loop-claim-smaller-then-head_below c = omega (arith, there (goal.at.loop-claim-smaller-then-head_below c).Then-head_below)

pub loop-claim-preserved-then-head_below : goal.loop-claim-preserved-then-head_below
loop-claim-preserved-then-head_below c = let s = c.args.job.now in
    let l = c.loop-claim in
    let h = there (goal.at.loop-claim-preserved-then-head_below c).Then-head_below in
    let next = body_start-next s l.i in (
      simp length-set l.invariant.0,
      omega arith,
      l.invariant.2,
      omega arith,
      omega (arith, body-within s l.i (rules s) h, c.requires.accepted.bodies),
      below_more _ _ l.invariant.5 (rule-below s l.claim l.i c.rule_count-rules.ensures.value c.head_below.ensures c.if-head_below.true),
      λ d b. get_or-set_other l.index _ d _ 0 (λ e. omega (arith, l.invariant.2, c.requires.accepted.sized.claims_most)) ∙ l.invariant.6 d b,
      bounds-more l.invariant.7 l.invariant.0 _ (within (goal.at.loop-claim-preserved-then-head_below c).After-body_length_at-passed) c.with_bit.ensures (omega arith),
      λ b. absurd (omega (arith, l.invariant.8 b)),
      λ d a b. get_or-set_other l.index _ d _ 0 (λ e. omega arith) ∙ l.invariant.9 d a b,
    )

pub loop-claim-preserved : goal.loop-claim-preserved
loop-claim-preserved c = let s = c.args.job.now in
    let l = c.loop-claim in
    let past = rule-past s l.claim l.i c.rule_count-rules.ensures.value c.head_below.ensures c.if-head_below.false in (
      simp length-set l.invariant.0,
      l.invariant.1,
      omega arith,
      l.invariant.3,
      l.invariant.4,
      λ j b. omega (arith, l.invariant.5 j b),
      index-more s l.index l.claim l.passed (omega arith) (l.invariant.3 ∙ sym (starts_here s (rules s) c.requires.accepted.rise l.claim l.i l.invariant.1 l.invariant.5 past)) l.invariant.6,
      bounds-kept l.invariant.7 l.invariant.0 l.claim _ (omega (arith, c.requires.accepted.sized.claims_most)),
      λ b. by_cases (dec_lt l.i (rules s)) (λ m. absurd (omega (arith, past m, c.requires.accepted.head l.i m))) (λ m. omega (arith, l.invariant.1)),
      λ d a b. get_or-set_other l.index l.claim d _ 0 (λ e. omega arith) ∙ l.invariant.9 d (omega arith) b,
    )

pub returns : goal.returns
returns c = let l = c.loop-claim in
    let e = l.invariant.8 (omega arith) in
    record { starts = λ d b. l.invariant.6 d (omega arith); none = λ d a b. l.invariant.9 d (omega arith) b; bounds = subst (Bounds _ l.index) e l.invariant.7; literals = claim-literals _ c.requires.accepted }
