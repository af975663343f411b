use Prim.Native.Nat.{◌*◌}
use mathlib.Core.List.{flat_map}
use lib.ListN.{take}
use Rattle.listing.proofs.Runs.{Run}
use Rattle.listing.specs.Listing.{count_text}
use Rattle.listing.proofs.lines.put_tally_line.Given as goal

abbrev pub invariant-loop-n : goal.invariant-loop-n
invariant-loop-n l = Run l.initial.out (21 * l.n-index) (flat_map count_text (take l.n-index l.counts)) l.out
