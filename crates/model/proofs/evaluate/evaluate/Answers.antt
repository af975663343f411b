-- Its three ways out.
use mathlib.Core.Path.{◌∙◌, ap}
use mathlib.Core.List.{List}
use Prim.Native.Nat.{ℕ}
use native.Mathlib.Omega.{arith}
use Rattle.job.proofs.Accepted.{well_formed, header-room}
use Rattle.job.proofs.Rows.{returned}
use Rattle.job.specs.Check.{Accepted}
use Rattle.model.specs.Output.{output_of}
use Rattle.model.proofs.Plain.{plain_refused, plain-short, plain_done}
use Rattle.model.proofs.evaluate.evaluate.Goals as goal

pub returns-in_err-check_job : goal.returns-in_err-check_job
returns-in_err-check_job c = let r = returned _ c.from_residual.ensures.1 in
    plain_refused _ _ _ r (r ∙ c.in_err-check_job.ensures.value)

pub claim_count-n-requires : goal.claim_count-n-requires
claim_count-n-requires c = header-room _ (well_formed _ c.in_ok-check_job.ensures.value)

pub of_accepted-requires : goal.of_accepted-requires
of_accepted-requires c = well_formed _ c.in_ok-check_job.ensures.value

pub returns-then-out-n : goal.returns-then-out-n
returns-then-out-n c = plain-short _ _ _ c.in_ok-check_job.ensures.value c.claim_count-n.ensures.value c.if-out-n.true

pub evaluate_accepted-requires : goal.evaluate_accepted-requires
evaluate_accepted-requires c = rw c.of_accepted.ensures (omega (arith, c.claim_count-n.ensures.value))

pub returns : goal.returns
returns c = plain_done _ _ _ c.in_ok-check_job.ensures.value c.claim_count-n.ensures.value c.if-out-n.false _
    (c.evaluate_accepted.ensures.out_after ∙ ap (λ (s : List ℕ). output_of Accepted s c.args.out.now) c.of_accepted.ensures)
