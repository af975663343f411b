use Rattle.model.proofs.Starting.{first-growing, first-upper}
use Rattle.model.proofs.alternate.first_u.Goals as goal

pub rise-requires : goal.rise-requires
rise-requires c = let blank = c.requires.blank_u in
    record { ready = (first-growing _ c.args.tables.now.accepted _ _ _ blank.counts blank.empty blank.size blank.room _ _ _ c.begin.ensures.begun, c.begin.ensures.begun.ready) }

pub returns-clause-upper : goal.returns-clause-upper
returns-clause-upper c = let blank = c.requires.blank_u in
    first-upper _ c.args.tables.now.accepted _ _ _ blank.counts blank.empty blank.size blank.room _ _ _ c.begin.ensures.begun _ _ _ _ c.rise.ensures.raised

pub returns-clause-room : goal.returns-clause-room
returns-clause-room c = c.rise.ensures.raised.carried.some.1.fits.queue.long
