-- : the numbers of the bytes left, judged, are those of all.
use Prim.Native.Nat.{◌≤◌}
use mathlib.Core.Path.{◌≡◌}
use lib.ListN.{drop}
use Rattle.lines.specs.Numbering.{Small, counted_all}
use Rattle.lines.proofs.Leads.{at as scanned}
use Rattle.lines.proofs.Tallies.{counted_from}
use Rattle.lines.proofs.numbers.count_numbers.Given as goal

abbrev pub invariant-loop-b : goal.invariant-loop-b
invariant-loop-b l = (l.line ≤ l.b-index) × Small l.tally × (counted_from (scanned l.state l.number) l.tally l.line (drop l.b-index l.text) ≡ counted_all l.text)
