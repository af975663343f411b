use native.Mathlib.Omega.{arith}
use Rattle.writing.proofs.Decimal.{length-room}
use Rattle.listing.proofs.Runs.{least}
use Rattle.listing.proofs.Page.{heading_written}
use Rattle.listing.proofs.lines.put_heading.Goals as goal

pub put_number-requires : goal.put_number-requires
put_number-requires c = omega (arith, length-room c.args.count (omega arith), least c.put_bytes.ensures)

pub put_byte-requires : goal.put_byte-requires
put_byte-requires c =
    omega (arith, length-room c.args.count (omega arith), least c.put_bytes.ensures, least c.put_number.ensures)

pub returns : goal.returns
returns c = heading_written c.requires.few c.requires.fits (omega arith) c.put_bytes.ensures c.put_number.ensures c.put_byte.ensures
