use native.Mathlib.Omega.{arith}
use Rattle.writing.proofs.Decimal.{length-room}
use Rattle.writing.proofs.Writing.{writes_as}
use Rattle.listing.proofs.Runs.{least, claim_written}
use Rattle.listing.proofs.lines.put_claim.Goals as goal

pub put_number-requires : goal.put_number-requires
put_number-requires c = omega (arith, length-room c.args.c (omega arith))

pub put_byte-requires : goal.put_byte-requires
put_byte-requires c = omega (arith, length-room c.args.c (omega arith), least c.put_number.ensures)

pub put_bytes-requires : goal.put_bytes-requires
put_bytes-requires c =
    omega (arith, length-room c.args.c (omega arith), least c.put_number.ensures, least c.put_byte.ensures)

pub put_byte-requires-2 : goal.put_byte-requires-2
put_byte-requires-2 c =
    omega (arith, length-room c.args.c (omega arith), least c.put_number.ensures, least c.put_byte.ensures, least c.put_bytes.ensures)

pub returns : goal.returns
returns c = claim_written c.args.table.now _ c.requires.fits (omega arith) c.mark_at.ensures.value c.reading_of-reading.ensures c.put_number.ensures c.put_byte.ensures (writes_as c.put_bytes.ensures c.name_of.ensures.value) c.put_byte-2.ensures
