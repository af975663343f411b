use mathlib.Core.Path.{subst⁻¹}
use native.Mathlib.Omega.{arith}
use lib.Dec.{T}
use lib.ListN.{length}
use Rattle.table.specs.Newest.{NewestOf}
use Rattle.turn.specs.KeptSet.{Member, free}
use Rattle.turn.proofs.Sweeps.{swept_more, swept_same, swept_all, word-back}
use Rattle.turn.proofs.remaining.newest_left.Goals as goal
use Rattle.turn.proofs.remaining.newest_left.Goals.{then-left_to_pass, else-left_to_pass}

pub loop-member-preserved : goal.loop-member-preserved
loop-member-preserved c = let s = c.loop-member.invariant in
    elim c.if-left_to_pass.branch [
      | then-left_to_pass x ↦ swept_more s (omega arith) c.from-c.ensures c.left_to_pass.ensures x.if-left_to_pass.true x.newer-best.ensures x.best-is
      | else-left_to_pass x ↦ swept_same s (omega arith) c.from-c.ensures c.left_to_pass.ensures x.if-left_to_pass.false x.best-is
    ]

pub returns : goal.returns
returns c = subst⁻¹ (NewestOf c.args.table.now (λ d. Member c.args.members.now (length c.args.members.now) d × T (free c.args.index.now c.args.table.now c.args.w d))) (word-back c.checked_sub.result c.checked_sub.ensures) (swept_all c.loop-member.invariant (omega arith))
