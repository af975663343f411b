use Prim.Native.Nat.{◌+◌, ◌<◌, ◌≤◌}
use mathlib.Core.Path.{◌≡◌, sym, ◌∙◌, ap}
use native.Mathlib.Omega.{arith}
use borrow.Author.Tests.{leb-false, leb-true}
use Rattle.job.specs.Format.{rules as rules_of, literal_at}
use Rattle.job.specs.Job.{claim_of, most_claims}
use Rattle.job.specs.declared.Cursor.{Cursor}
use Rattle.groups.proofs.Expanding.{expanded-more, expanded-to}
use Rattle.groups.proofs.search.expand.Goals as goal
use Rattle.groups.proofs.search.expand.Goals.{After-advanced-cursor, After-claim_of-claim, In-loop-cursor}

-- a literal is left
left : (c : In-loop-cursor) → c.loop-cursor.cursor.at < c.loop-cursor.cursor.end
left c = leb-false _ _ (sym c.at_end.ensures ∙ c.loop-cursor-test.true)

-- the claim met is the current literal's
meets : (c : After-claim_of-claim) → c.claim_of-claim.result ≡ claim_of (literal_at c.args.job.now (rules_of c.args.job.now) c.loop-cursor.cursor.at)
meets c = c.claim_of-claim.ensures ∙ ap claim_of c.literal_at.ensures.value

low : (c : After-claim_of-claim) → claim_of (literal_at c.args.job.now (rules_of c.args.job.now) c.loop-cursor.cursor.at) < most_claims
low c = omega (arith, c.literal_at.ensures.accepted.literal c.loop-cursor.cursor.at (omega (arith, left (goal.at.After-claim_of-claim c).In-loop-cursor, c.loop-cursor.invariant.0, c.requires.within.1)), c.literal_at.ensures.accepted.sized.claims_most)

moves : (c : After-advanced-cursor) → (c.advanced-cursor.result.at ≡ c.loop-cursor.cursor.at + 1) × (c.advanced-cursor.result.end ≡ c.loop-cursor.cursor.end)
moves c = (ap (λ (x : Cursor). x.at) c.advanced-cursor.ensures, ap (λ (x : Cursor). x.end) c.advanced-cursor.ensures)

pub loop-cursor-preserved : goal.loop-cursor-preserved
loop-cursor-preserved c = let l = c.loop-cursor in
    let m = moves (goal.at.loop-cursor-preserved c).After-advanced-cursor in (
      m.1 ∙ l.invariant.0,
      omega (arith, l.invariant.1, m),
      omega (arith, left (goal.at.loop-cursor-preserved c).In-loop-cursor, m),
      expanded-more _ _ _ _ _ _ _ _ _ _ l.invariant.3 l.invariant.1 (meets (goal.at.loop-cursor-preserved c).After-claim_of-claim) (low (goal.at.loop-cursor-preserved c).After-claim_of-claim) c.meet-top.ensures m.0,
    )

pub returns : goal.returns
returns c = let l = c.loop-cursor in
    let e : l.cursor.end ≤ l.cursor.at = leb-true _ _ (sym c.at_end.ensures ∙ c.loop-cursor-test.false) in
    expanded-to _ _ _ _ _ _ _ _ l.invariant.3 (omega (arith, e, l.invariant.0, l.invariant.2))
