use Prim.Native.Nat.{ℕ, ◌+◌, ◌<◌}
use mathlib.Core.Bool.{Bool}
use mathlib.Core.List.{List}
use mathlib.Core.Path.{◌≡◌, refl, sym, ◌∙◌, ap}
use native.Mathlib.Omega.{arith}
use Rattle.base.proofs.Bools.{is, is-not}
use Rattle.job.specs.Job.{claim_of, most_literals}
use Rattle.job.specs.declared.Literal.{Literal}
use Rattle.table.specs.Literals.{failed}
use Rattle.turn.proofs.Skipping.{looking-starts, looking_most, looking-start, looking-low, looking_more, back-below, back-word, found_none, found-other, found-failed}
use Rattle.turn.proofs.failing.rule_failed.Goals as goal
use Rattle.turn.proofs.failing.rule_failed.Goals.{After-over-start}

most : (c : After-over-start) → c.over-start.result.at + c.args.passed < most_literals
most c =
    looking_most _ _ _ c.requires.ready _ c.requires.within.0 _ c.requires.within.1 (looking-starts _ _ _ c.requires.ready _ c.requires.within.0 _ c.requires.within.1 c.over-start.ensures)

pub overflow_step-at : goal.overflow_step-at
overflow_step-at c = omega (arith, most (goal.at.overflow_step-at c).After-over-start)

pub loop-at-init : goal.loop-at-init
loop-at-init c = looking-start _ _ _ c.requires.ready _ c.requires.within.0 _ c.requires.within.1 (looking-starts _ _ _ c.requires.ready _ c.requires.within.0 _ c.requires.within.1 c.over-start.ensures)

pub overflow_add-at : goal.overflow_add-at
overflow_add-at c = omega (arith, looking-low _ _ _ c.requires.ready _ c.requires.within.0 _ c.requires.within.1 c.loop-at.invariant, c.loop-at-test.true)

pub bounded-requires : goal.bounded-requires
bounded-requires c = omega (arith, looking-low _ _ _ c.requires.ready _ c.requires.within.0 _ c.requires.within.1 c.loop-at.invariant, c.loop-at-test.true)

pub returns-then-bounded : goal.returns-then-bounded
returns-then-bounded c = found-other _ _ _ c.requires.ready _ c.requires.within.0 _ c.requires.within.1 c.loop-at.invariant c.loop-at-test.true (sym c.bounded.ensures ∙ c.if-bounded.true)

pub literal_at-requires : goal.literal_at-requires
literal_at-requires c = back-below _ _ _ c.requires.ready _ c.requires.within.0 _ c.requires.within.1 c.loop-at.invariant c.loop-at-test.true (sym c.bounded.ensures ∙ c.if-bounded.false)

pub failed-requires : goal.failed-requires
failed-requires c = omega (arith, ap claim_of c.literal_at.ensures.value, back-word _ _ _ c.requires.ready _ c.requires.within.0 _ c.requires.within.1 c.loop-at.invariant c.loop-at-test.true (sym c.bounded.ensures ∙ c.if-bounded.false) refl)

-- the literal looked at is the one that the test was of
looked : (t : List ℕ) {l l' : Literal} → l ≡ l' → {r : Bool} → r ≡ failed t l → r ≡ failed t l'
looked t e q = q ∙ ap (failed t) e

pub returns-then-failed : goal.returns-then-failed
returns-then-failed c = let d = looked c.args.table.now c.literal_at.ensures.value c.failed.ensures in
    found-failed _ _ _ c.requires.ready _ c.requires.within.0 _ c.requires.within.1 c.loop-at.invariant c.loop-at-test.true (sym c.bounded.ensures ∙ c.if-bounded.false) refl (is _ (sym d ∙ c.if-failed.true))

pub loop-at-preserved : goal.loop-at-preserved
loop-at-preserved c = let d = looked c.args.table.now c.literal_at.ensures.value c.failed.ensures in
    looking_more _ _ _ c.requires.ready _ c.requires.within.0 _ c.requires.within.1 c.loop-at.invariant c.loop-at-test.true (sym c.bounded.ensures ∙ c.if-bounded.false) refl (is-not _ (sym d ∙ c.if-failed.false))

pub returns : goal.returns
returns c = found_none _ _ _ c.requires.ready _ c.requires.within.0 _ c.requires.within.1 c.loop-at.invariant c.loop-at-test.false
