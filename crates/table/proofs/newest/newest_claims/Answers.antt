use mathlib.Core.Path.{refl}
use mathlib.Core.Logic.{inl, inr}
use native.Mathlib.Omega.{arith}
use lib.ListN.{replicate}
use Rattle.job.specs.Job.{most_workers}
use Rattle.table.proofs.SearchAll.{sweeping_none, sweeping_best, sweeping_more, sweeping_same}
use Rattle.table.proofs.Sizes.{zeros_at}
use Rattle.table.proofs.newest.newest_claims.Goals as goal
use Rattle.table.proofs.newest.newest_claims.Goals.{Then-mark-le-MOST_WORKERS}

pub loop-c-init : goal.loop-c-init
loop-c-init c = sweeping_none _ (replicate most_workers 0) _ refl (zeros_at most_workers)

-- what the owner's entry becomes
pub overflow_cast-found-then-mark-le-MOST_WORKERS : goal.overflow_cast-found-then-mark-le-MOST_WORKERS
overflow_cast-found-then-mark-le-MOST_WORKERS c = omega (arith, (sweeping_best c.loop-c.invariant c.loop-c-test.true c.mark_at-mark.ensures.value c.if-mark-gt0.true c.if-mark-le-MOST_WORKERS.true refl c.newer-best.ensures).most)

pub loop-c-preserved-then-mark-le-MOST_WORKERS : goal.loop-c-preserved-then-mark-le-MOST_WORKERS
loop-c-preserved-then-mark-le-MOST_WORKERS c = sweeping_more c.loop-c.invariant c.loop-c-test.true c.mark_at-mark.ensures.value c.if-mark-gt0.true c.if-mark-le-MOST_WORKERS.true refl c.newer-best.ensures

pub loop-c-preserved : goal.loop-c-preserved
loop-c-preserved c = sweeping_same c.loop-c.invariant c.loop-c-test.true c.mark_at-mark.ensures.value
    (λ w l e. elim c.else-mark-gt0.either [ inl h ↦ omega (arith, h.1) | inr h ↦ omega arith ])
