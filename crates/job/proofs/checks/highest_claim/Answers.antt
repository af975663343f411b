use Prim.Native.Nat.{ℕ, ◌%◌}
use mathlib.Core.Path.{◌≡◌, ◌∙◌, ap}
use native.Mathlib.Omega.{arith}
use borrow.Author.Count.{below_none, below_more}
use Rattle.job.proofs.Literals.{literal-claim}
use Rattle.job.specs.Bytes.{half}
use Rattle.job.specs.Format.{rules, literal_byte, literal_at}
use Rattle.job.specs.Job.{claim_of}
use Rattle.job.proofs.checks.highest_claim.Goals as goal
use Rattle.job.proofs.checks.highest_claim.Goals.{After-half-field}

pub loop-k-init : goal.loop-k-init
loop-k-init c = (omega arith, below_none _)

-- the claim that was read, in the terms of the table
claim : (c : After-half-field) → claim_of (literal_at c.args.job.now (rules c.args.job.now) c.loop-k.k) ≡ c.half-field.result % 32768
claim c =
    let s = c.args.job.now in
    let k = c.loop-k.k in
    let e = c.rule_count-rules.ensures.value in
    literal-claim (c.half-field.ensures.value ∙ ap (λ (m : ℕ). half s (literal_byte m k)) e) c.half-field.ensures.small

pub loop-k-preserved : goal.loop-k-preserved
loop-k-preserved c = let e = claim (goal.at.loop-k-preserved c).After-half-field in
    (omega arith, below_more _ _ (λ j b. omega (arith, c.loop-k.invariant.1 j b)) (omega arith))

pub returns : goal.returns
returns c = λ k l. c.loop-k.invariant.1 k (omega arith)
