-- The claims fit the arrays.
use mathlib.Core.Path.{refl}
use native.Mathlib.Omega.{arith}
use Rattle.job.specs.Job.{most_claims}
use Rattle.base.proofs.Zeros.{front_zeros}
use Rattle.table.proofs.Sizes.{sizes}
use Rattle.turn.proofs.Rooms.{front-claims}
use Rattle.listing.proofs.finish.finish.Goals as goal

pub new-set-requires : goal.new-set-requires
new-set-requires c = record { zeros = front_zeros most_claims refl (omega (arith, c.claim_count-claims.ensures.value, c.requires.ready.job.sized.claims_most)) }

pub finish_in-requires-clause-keeps : goal.finish_in-requires-clause-keeps
finish_in-requires-clause-keeps c = let s = c.args.job.now in
    let n = c.claim_count-claims.ensures.value in
    let most = c.requires.ready.job.sized.claims_most in
    let e = front-claims s n most_claims (omega (arith, n, most)) in
    c.new-set.ensures.keeps _ _ (omega (arith, (sizes s).claims_are, most)) e (omega (arith, e))
