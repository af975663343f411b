use native.Mathlib.Omega.{arith}
use Rattle.table.proofs.Sizes.{sizes}
use Rattle.turn.proofs.Rooms.{front-claims}
use Rattle.recording.proofs.noting.record_sized.Goals as goal

pub record_in-requires-clause-keeps : goal.record_in-requires-clause-keeps
record_in-requires-clause-keeps g c = let s = c.args.job.now in
    let n = c.claim_count-claims.ensures.value in
    let e = front-claims s n g.row.ROOM (omega (arith, n, c.requires.room)) in
    c.new-set.ensures.keeps _ _ (omega (arith, (sizes s).claims_are, c.requires.room)) e (omega (arith, e))
