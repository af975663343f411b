use native.Mathlib.Omega.{arith}
use Rattle.table.proofs.Sizes.{words-room}
use Rattle.listing.proofs.Runs.{least}
use Rattle.listing.proofs.Page.{whole_written}
use Rattle.listing.proofs.lines.put_text.Goals as goal

pub put_claim_lines-requires-clause-marked : goal.put_claim_lines-requires-clause-marked
put_claim_lines-requires-clause-marked c = omega (arith, words-room c.args.job.now c.args.table.now c.requires.room)

pub put_claim_lines-requires-clause-fits : goal.put_claim_lines-requires-clause-fits
put_claim_lines-requires-clause-fits c = omega (arith, least c.put_heading.ensures.0)

pub put_heading-requires-2-clause-fits : goal.put_heading-requires-2-clause-fits
put_heading-requires-2-clause-fits c = omega (arith, least c.put_heading.ensures.0, least c.put_claim_lines.ensures.0)

pub put_question_lines-requires-clause-fits : goal.put_question_lines-requires-clause-fits
put_question_lines-requires-clause-fits c =
    omega (arith, least c.put_heading.ensures.0, least c.put_claim_lines.ensures.0, least c.put_heading-2.ensures.0)

pub put_tally_line-requires : goal.put_tally_line-requires
put_tally_line-requires c =
    omega (arith, least c.put_heading.ensures.0, least c.put_claim_lines.ensures.0, least c.put_heading-2.ensures.0, least c.put_question_lines.ensures.0)

pub returns : goal.returns
returns c = whole_written c.args.job.now c.args.table.now c.args.counts.now c.claim_count-claims.ensures.accepted c.claim_count-claims.ensures.value c.question_count.ensures.value c.requires.fits c.put_heading.ensures c.put_claim_lines.ensures c.put_heading-2.ensures c.put_question_lines.ensures c.put_tally_line.ensures
