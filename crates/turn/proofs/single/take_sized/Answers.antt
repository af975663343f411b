use native.Mathlib.Omega.{arith}
use Rattle.table.proofs.Sizes.{sizes}
use Rattle.turn.proofs.Rooms.{front-claims}
use Rattle.turn.proofs.single.take_sized.Goals as goal

pub take_turn-requires-clause-keeps : goal.take_turn-requires-clause-keeps
take_turn-requires-clause-keeps g c = let s = c.args.job.now in
    let n = c.claim_count-claims.ensures.value in
    let e = front-claims s n g.row.ROOM (omega (arith, n, c.requires.fits)) in
    c.new-set.ensures.keeps _ _ (omega (arith, (sizes s).claims_are, c.requires.fits)) e (omega (arith, e))
