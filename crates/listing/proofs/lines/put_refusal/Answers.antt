use native.Mathlib.Omega.{arith}
use Rattle.writing.proofs.Decimal.{length-room}
use Rattle.listing.proofs.Runs.{least, refusal_written}
use Rattle.listing.proofs.lines.put_refusal.Goals as goal

pub put_number-requires : goal.put_number-requires
put_number-requires c = omega (arith, length-room c.args.number (omega arith), least c.put_bytes.ensures)

pub put_byte-requires : goal.put_byte-requires
put_byte-requires c = omega (arith, length-room c.args.number (omega arith), least c.put_bytes.ensures, least c.put_number.ensures)

pub put_number-requires-2 : goal.put_number-requires-2
put_number-requires-2 c =
    omega (arith, length-room c.args.number (omega arith), length-room c.args.place (omega arith), least c.put_bytes.ensures, least c.put_number.ensures, least c.put_byte.ensures)

pub put_byte-requires-2 : goal.put_byte-requires-2
put_byte-requires-2 c =
    omega (arith, length-room c.args.number (omega arith), length-room c.args.place (omega arith), least c.put_bytes.ensures, least c.put_number.ensures, least c.put_byte.ensures, least c.put_number-2.ensures)

pub returns : goal.returns
returns c = refusal_written c.requires (omega arith) (omega arith) c.put_bytes.ensures c.put_number.ensures c.put_byte.ensures c.put_number-2.ensures c.put_byte-2.ensures
