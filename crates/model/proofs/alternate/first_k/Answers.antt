use native.Mathlib.Omega.{arith}
use Rattle.model.proofs.Starting.{start-queue, start_plain, start_poised}
use Rattle.model.proofs.alternate.first_k.Goals as goal

pub lose-requires : goal.lose-requires
lose-requires c = let start = c.requires in
    let blank = start.blank_k in
    let u = c.args.u.now in
    let begun = c.begin.ensures.begun in record {
      doubted = (
        rw c.list_all.ensures.listed.0 c.list_all.ensures.listed.1,
        start-queue _ c.args.tables.now.accepted _ _ u _ blank.counts blank.empty blank.size blank.size_u blank.room _ _ _ begun,
        omega (arith, blank.size_u, c.args.tables.now.accepted.sized.claims_most),
      );
      no_negated = start_plain _ c.args.tables.now.accepted _ _ u _ blank.counts blank.empty blank.size blank.size_u blank.room _ _ _ begun;
    }

pub returns-clause-poised : goal.returns-clause-poised
returns-clause-poised c = let start = c.requires in
    let blank = start.blank_k in
    let listed = c.list_all.ensures.listed in
    start_poised _ c.args.tables.now.accepted _ _ _ _ blank.counts blank.empty blank.size blank.size_u blank.room _ _ _ c.begin.ensures.begun _ _ _ listed.1 listed.2
    (rw listed.0 at c.lose.ensures.lost)

pub returns-clause-room : goal.returns-clause-room
returns-clause-room c = omega (arith, c.list_all.ensures.listed.1.queue.long, c.requires.blank_k.size_u)
