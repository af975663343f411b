use native.Mathlib.Omega.{arith}
use Rattle.census.proofs.Put.{table-room₂, table-room₃, put-table-is}
use Rattle.census.proofs.lines.put_lines.Goals as goal

pub put_size-requires-2 : goal.put_size-requires-2
put_size-requires-2 c = record { size = (omega arith, omega arith); room = table-room₂ c.requires c.put_size.ensures }

pub put_size-requires-3 : goal.put_size-requires-3
put_size-requires-3 c = record { size = (omega arith, omega arith); room = table-room₃ c.requires c.put_size.ensures c.put_size-2.ensures }

pub returns : goal.returns
returns c = put-table-is c.requires c.put_size.ensures c.put_size-2.ensures c.put_size-3.ensures
