-- The names of values. Assumes nothing.
--   name-room   a reading's name takes at most 9 bytes
use Prim.Native.Nat.{◌≤◌}
use native.Mathlib.Omega.{arith}
use lib.ListN.{length}
use Rattle.table.specs.declared.Reading.{Reading}
use Rattle.table.specs.declared.Reading.TheVariants.{Fresh, Open, True, False, Undefined}
use Rattle.listing.specs.Text.{name_of}

pub name-room : (r : Reading) → length (name_of r) ≤ 9
name-room Fresh = omega arith
name-room Open = omega arith
name-room True = omega arith
name-room False = omega arith
name-room Undefined = omega arith
