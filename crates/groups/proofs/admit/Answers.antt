-- Row by row.
use Prim.Native.Nat.{ℕ}
use mathlib.Core.Path.{◌≡◌, refl, ◌∙◌, ap}
use mathlib.Core.List.{List}
use Rattle.job.proofs.Accepted.{well_formed}
use Rattle.job.specs.Format.{claims, workers}
use Rattle.job.proofs.Rows.{halt, onward, exit}
use Rattle.groups.specs.Groups.{check_lists, check_partners, admit_check}
use Rattle.groups.proofs.Apart.{admission}
use Rattle.groups.proofs.Admitting.{list-row, list-long, admit-questions}
use Rattle.groups.proofs.admit.Goals as goal
use Rattle.groups.proofs.admit.Goals.{After-claim_count, After-worker_count}

claims_are : (c : After-claim_count) → c.claim_count.result ≡ claims c.args.job.now
claims_are c = c.claim_count.ensures.value ∙ ap claims c.of_accepted-accepted.ensures

workers_are : (c : After-worker_count) → c.worker_count.result ≡ workers c.args.job.now
workers_are c = c.worker_count.ensures.value ∙ ap workers c.of_accepted-accepted.ensures

pub returns-in_err-check_job : goal.returns-in_err-check_job
unfolding admit_check
returns-in_err-check_job c = record { value = exit _ _ c.from_residual.ensures.1 c.in_err-check_job.ensures.value; admission = admission _ _ _ }

pub returns-in_err-check_length : goal.returns-in_err-check_length
unfolding admit_check check_lists
returns-in_err-check_length c =
    let row = list-row c.args.groups.now _ _ c.in_err-check_length.ensures (claims_are (goal.at.returns-in_err-check_length c).After-claim_count) in
    record {
      value = onward _ _ c.in_ok-check_job.ensures.value (exit _ _ c.from_residual-in_err-check_length.ensures.1 (halt _ _ refl row));
      admission = admission _ _ _;
    }

pub returns-in_err-check_length-2 : goal.returns-in_err-check_length-2
unfolding admit_check check_lists
returns-in_err-check_length-2 c =
    let first = list-row c.args.groups.now _ _ c.in_ok-check_length.ensures (claims_are (goal.at.returns-in_err-check_length-2 c).After-claim_count) in
    let row = list-row c.args.workers.now _ _ c.in_err-check_length-2.ensures (workers_are (goal.at.returns-in_err-check_length-2 c).After-worker_count) in
    record {
      value = onward _ _ c.in_ok-check_job.ensures.value (exit _ _ c.from_residual-in_err-check_length-2.ensures.1 (onward _ _ first (halt _ _ refl row)));
      admission = admission _ _ _;
    }

pub of_accepted-accepted-requires : goal.of_accepted-accepted-requires
of_accepted-accepted-requires c = well_formed _ c.in_ok-check_job.ensures.value

pub check_partners-requires : goal.check_partners-requires
check_partners-requires c = record { indexed = c.fill_index.ensures; lengths = (list-long _ _ (list-row _ _ _ c.in_ok-check_length.ensures c.claim_count.ensures.value), list-long _ _ (list-row _ _ _ c.in_ok-check_length-2.ensures c.worker_count.ensures.value)) }

pub returns : goal.returns
returns c =
    let a = list-long c.args.groups.now _ (list-row _ _ _ c.in_ok-check_length.ensures (claims_are (goal.at.returns c).After-claim_count)) in
    let b = list-long c.args.workers.now _ (list-row _ _ _ c.in_ok-check_length-2.ensures (workers_are (goal.at.returns c).After-worker_count)) in
    record {
      value = admit-questions _ _ _ c.in_ok-check_job.ensures.value a b
          (c.check_partners.ensures ∙ ap (λ (s : List ℕ). check_partners s c.args.groups.now c.args.workers.now) c.of_accepted-accepted.ensures);
      admission = admission _ _ _;
    }
