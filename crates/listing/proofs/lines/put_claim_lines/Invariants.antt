use Prim.Native.Nat.{◌*◌}
use mathlib.Core.List.{flat_map}
use Rattle.base.specs.Lists.{upto}
use Rattle.listing.specs.Listing.{claim_line}
use Rattle.listing.proofs.Runs.{Run}
use Rattle.listing.proofs.lines.put_claim_lines.Given as goal

abbrev pub invariant-loop-c : goal.invariant-loop-c
invariant-loop-c l = Run l.initial.out (31 * l.c) (flat_map (claim_line l.table) (upto l.c)) l.out
