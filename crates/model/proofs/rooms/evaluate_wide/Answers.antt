use Rattle.model.proofs.rooms.evaluate_wide.Goals as goal

pub evaluate_sized-requires-else-fits-clause-within : goal.evaluate_sized-requires-else-fits-clause-within
evaluate_sized-requires-else-fits-clause-within c = let s = c.fits.ensures.accepted.sized in
    (record { claims_few = s.claims_most; rules_few = s.rules_most; literals_few = s.literals_most }, c.requires.room)
