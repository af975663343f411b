use native.Mathlib.Omega.{arith}
use Rattle.writing.proofs.Decimal.{length-room}
use Rattle.listing.proofs.Runs.{least, count_written}
use Rattle.listing.proofs.lines.put_count.Goals as goal

pub put_number-requires : goal.put_number-requires
put_number-requires c = omega (arith, length-room c.args.n (omega arith), least c.put_byte.ensures)

pub returns : goal.returns
returns c = count_written c.requires (omega arith) c.put_byte.ensures c.put_number.ensures
