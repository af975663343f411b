use Rattle.model.proofs.Shrinking.{fell-growing, fell-ready, fell-upper, fell-keeps}
use Rattle.model.proofs.alternate.regain.Goals as goal

pub rise-requires : goal.rise-requires
rise-requires c = let r = c.recover.ensures.recovered in
    let fell = c.requires.fell.1 in
    let long = c.requires.room in
    record { ready = (fell-growing _ _ c.args.tables.now.accepted _ _ _ _ _ fell _ long _ _ _ r, fell-ready _ _ c.args.tables.now.accepted _ _ _ _ _ fell _ long _ _ _ r) }

pub returns-clause-regained : goal.returns-clause-regained
returns-clause-regained c = let r = c.recover.ensures.recovered in
    let long = c.requires.room in
    record {
      upper = λ a fell. fell-upper _ _ c.args.tables.now.accepted _ _ _ _ _ fell _ long _ _ _ r _ _ _ _ c.rise.ensures.raised;
      keeps = fell-keeps _ _ c.args.tables.now.accepted _ _ _ _ _ c.requires.fell.1 _ long _ _ _ r _ _ _ _ c.rise.ensures.raised;
    }

pub returns-clause-room : goal.returns-clause-room
returns-clause-room c = c.rise.ensures.raised.carried.some.1.fits.queue.long
