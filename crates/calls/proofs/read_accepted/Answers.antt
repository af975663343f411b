use mathlib.Core.Path.{refl, ◌∙◌, ap}
use native.Mathlib.Omega.{arith}
use Rattle.base.proofs.Compare.{not_below-yes, not_below-no}
use Rattle.job.proofs.Rows.{pass, stop}
use Rattle.job.specs.Check.{Check}
use Rattle.job.specs.Format.{claims}
use Rattle.turn.proofs.Following.{room}
use Rattle.std.specs.Prelude.{Ok}
use Rattle.calls.specs.Calls.{answered, check_claim_read, read_answer}
use Rattle.table.proofs.Ranges.{ranges}
use Rattle.table.specs.Reading.{reading_of}
use Rattle.calls.proofs.Answering.{answered_on, answered_at}
use Rattle.calls.proofs.read_accepted.Goals as goal

pub returns-in_err-check_table : goal.returns-in_err-check_table
returns-in_err-check_table c = answered_at _ _ _ c.in_err-check_table.ensures c.from_residual.ensures.1

pub returns-then-claim_count-claim : goal.returns-then-claim_count-claim
unfolding answered check_claim_read
returns-then-claim_count-claim c = let s = c.args.job.now in
    let t = c.args.table.now in
    let k = c.args.claim in
    answered_on _ _ _ c.in_ok-check_table.ensures (ap (λ (x : Check). read_answer x t k)
    (stop _ _ _ _ (not_below-yes k (claims s) (omega arith))))

pub mark_at-requires : goal.mark_at-requires
mark_at-requires c = omega (arith, room c.args.job.now c.args.table.now (ranges _ _ c.in_ok-check_table.ensures).0)

pub returns : goal.returns
unfolding answered check_claim_read
returns c = let s = c.args.job.now in
    let t = c.args.table.now in
    let k = c.args.claim in
    answered_on _ _ _ c.in_ok-check_table.ensures
    (ap Ok (c.reading_of.ensures ∙ ap reading_of c.mark_at.ensures.value) ∙ ap (λ (x : Check). read_answer x t k)
    (pass _ _ _ _ (not_below-no k (claims s) (omega arith)) refl))
