use Prim.Native.Nat.{ℕ}
use mathlib.Core.List.{List}
use mathlib.Core.Path.{ap₂, ◌∙◌}
use native.Mathlib.Omega.{arith}
use Rattle.base.proofs.Compare.{over_yes, over_no}
use Rattle.job.specs.Rows.{◌⨾◌}
use Rattle.job.specs.Checks.{check_job}
use Rattle.job.proofs.Rows.{pass, stop}
use Rattle.calls.specs.Calls.{check_schedule}
use Rattle.listing.specs.Listing.{listing_check}
use Rattle.listing.proofs.Accepting.{both_parts}
use Rattle.listing.proofs.input.check_input.Goals as goal

pub returns-then-input-gt-MOST_INPUT : goal.returns-then-input-gt-MOST_INPUT
unfolding listing_check
returns-then-input-gt-MOST_INPUT c = stop _ _ _ _ (over_yes _ _ (omega arith))

pub returns : goal.returns
unfolding listing_check
returns c = let p = both_parts c.args.input.now c.job_end.ensures.0 c.split_at.ensures.front c.split_at.ensures.back in
    pass _ _ _ _ (over_no _ _ (omega arith)) (c.check_parts.ensures ∙ ap₂ (λ (x y : List ℕ). check_job x ⨾ check_schedule x y) p.0 p.1)
