use mathlib.Core.Path.{◌≡◌}
use native.Mathlib.Omega.{arith}
use Rattle.listing.proofs.Runs.{least, claims_none, claims-more}
use Rattle.listing.proofs.lines.put_claim_lines.Goals as goal

pub loop-c-init : goal.loop-c-init
loop-c-init c = claims_none c.args.table.now _

pub put_claim-requires-clause-fits : goal.put_claim-requires-clause-fits
put_claim-requires-clause-fits c = omega (arith, least c.loop-c.invariant.writes)

pub loop-c-preserved : goal.loop-c-preserved
loop-c-preserved c = claims-more c.args.table.now c.loop-c.c (omega arith) (omega arith) c.loop-c.invariant c.put_claim.ensures

pub returns : goal.returns
returns c = let e : c.loop-c.c ≡ c.args.claims = omega arith in
    (rw e at c.loop-c.invariant.writes, omega arith)
