use mathlib.Core.Path.{sym, ◌∙◌, ap}
use native.Mathlib.Omega.{arith}
use Rattle.turn.proofs.Tests.{complete-yes, complete-no}
use Rattle.turn.proofs.WholeTurn.{wakes, waits-on}
use Rattle.turn.proofs.Making.{made-from}
use Rattle.turn.proofs.Following.{room, awaited_most}
use Rattle.turn.proofs.Jobs.{job_ok}
use Rattle.turn.proofs.KeptTurns.{await-keeps}
use Rattle.table.specs.Layout.{mark}
use Rattle.table.proofs.Sizes.{sizes}
use Rattle.turn.proofs.wait_turn.Goals as goal

pub mark_at-requires : goal.mark_at-requires
mark_at-requires c = let a = c.args in
    let p = c.requires in
    omega (arith, room _ _ p.in_range.0, awaited_most a.job.now a.table.now p.in_range.0 a.w p.in_range.1, p.awaits)

pub set_awaited-requires : goal.set_awaited-requires
set_awaited-requires c = let p = c.requires in
    omega (arith, room _ _ p.in_range.0, p.in_range.1, c.claim_count-claims.ensures.value)

pub returns-then-is_complete : goal.returns-then-is_complete
returns-then-is_complete c kept place members k = let a = c.args in
    let p = c.requires in
    record {
      made = made-from c.set_awaited.ensures
          (wakes a.job.now a.table.now a.w p.in_range.2 p.awaits (λ e. omega arith) (c.mark_at.ensures.value ∙ ap (mark a.table.now) (omega arith)) (complete-yes c.is_complete.ensures c.if-is_complete.true) c.claim_count-claims.ensures.value);
      keeps = await-keeps _ (job_ok _ c.claim_count-claims.ensures.accepted) _ _ _ _ k _ _ (c.claim_count-claims.ensures.value ∙ sym (sizes a.job.now).claims_are) c.set_awaited.ensures;
    }

pub returns : goal.returns
returns c kept place members k = let a = c.args in
    let p = c.requires in
    record {
      made = waits-on a.job.now a.table.now a.w p.in_range.2 p.awaits (λ e. omega arith) (c.mark_at.ensures.value ∙ ap (mark a.table.now) (omega arith)) (complete-no c.is_complete.ensures c.if-is_complete.false);
      keeps = k;
    }
