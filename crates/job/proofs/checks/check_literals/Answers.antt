use Prim.Native.Nat.{ℕ, ◌<◌}
use mathlib.Core.Bool.{true, false}
use mathlib.Core.List.{List}
use mathlib.Core.Path.{◌≡◌, refl, ◌∙◌, ap, subst}
use native.Mathlib.Omega.{arith}
use borrow.Author.Count.{below_none, below_more}
use Rattle.base.proofs.Compare.{not_below-yes, not_below-no}
use Rattle.job.proofs.Parts.{body_start-next, body-within, claim_at}
use Rattle.job.proofs.Rows.{scan_none, scan_at, placed}
use Rattle.job.specs.Checks.{check_literals, bad_literal}
use Rattle.std.specs.Prelude.{Option, None, Some}
use Rattle.job.specs.Format.{rules, literals, body_start, literal_at}
use Rattle.job.specs.Job.{claim_of}
use Rattle.job.proofs.checks.check_literals.Goals as goal
use Rattle.job.proofs.checks.check_literals.Goals.{After-claim_of, Left-rules, else-rules-test, then-rules-test+then-loop-k-test+then-claims-claim_of}

pub returns-then-from-claims : goal.returns-then-from-claims
unfolding check_literals
returns-then-from-claims c = scan_none _ _ _ _ (λ j l. not_below-no _ _ (omega (arith, c.highest_claim.ensures j l)))

pub rules-init : goal.rules-init
unfolding body_start
rules-init c = (refl, refl, below_none _)

pub overflow_add-end : goal.overflow_add-end
overflow_add-end c = let s = c.args.job.now in
    omega (arith, body-within s c.rules.i (rules s) (omega arith))

pub loop-k-init : goal.loop-k-init
loop-k-init c = let s = c.args.job.now in
    let r = c.rules in
    (r.invariant.0, omega (arith, body-within s r.i (rules s) (omega arith)), r.invariant.2)

-- the claim that was read, in the terms of the table
claim : (c : After-claim_of) → c.claim_of.result ≡ claim_of (literal_at c.args.job.now (rules c.args.job.now) c.loop-k.k)
claim c = claim_at _ _ c.rule_count-rules.ensures.value c.literal_at.ensures c.claim_of.ensures

pub loop-k-preserved : goal.loop-k-preserved
loop-k-preserved c = let e = claim (goal.at.loop-k-preserved c).After-claim_of in
    (c.loop-k.invariant.0, omega arith, below_more _ _ c.loop-k.invariant.2 (not_below-no _ _ (omega arith)))

pub rules-preserved : goal.rules-preserved
rules-preserved c = let s = c.args.job.now in
    (c.loop-k.invariant.0, omega (arith, body_start-next s c.rules.i), λ j l. c.loop-k.invariant.2 j (omega arith))

-- what is known where the two ways out of the loops meet: there is no faulty literal, or k is the first one
abbrev Met : List ℕ → Option ℕ → Type 0
Met s None = (j : ℕ) → j < literals s → bad_literal s j ≡ false
Met s (Some k) = (k < literals s) × ((j : ℕ) → j < k → bad_literal s j ≡ false) × (bad_literal s k ≡ true)

met : (c : Left-rules) → Met c.args.job.now c.rules-test.fault
met c =
    let s = c.args.job.now in
    elim c.rules-test.branch [
      | else-rules-test w ↦
          let e : c.rules.i ≡ rules s = omega arith in
          rw w.fault-is (rw c.rules.invariant.0 (λ j l. c.rules.invariant.2 j (omega (arith, ap (body_start s) e))))
      | then-rules-test+then-loop-k-test+then-claims-claim_of w ↦
          let e = claim_at s w.loop-k.k c.rule_count-rules.ensures.value w.literal_at.ensures w.claim_of.ensures in
          rw w.fault-is (omega arith, w.loop-k.invariant.2, not_below-yes _ _ (omega arith))
    ]

pub returns-in-Some : goal.returns-in-Some
unfolding check_literals
returns-in-Some c = let m = subst (Met c.args.job.now) c.in-Some.is (met (goal.at.returns-in-Some c).Left-rules) in
    placed c.refused.ensures (omega arith) ∙ scan_at _ _ c.in-Some.k _ _ m.0 m.1 m.2

pub returns-in-None : goal.returns-in-None
unfolding check_literals
returns-in-None c = scan_none _ _ _ _ (subst (Met c.args.job.now) c.in-None.is (met (goal.at.returns-in-None c).Left-rules))
