-- : the byte at i is looked at.
use mathlib.Core.Path.{◌≡◌}
use lib.ListN.{drop}
use Rattle.makejob.specs.Faults.{reach_from, reach_of}
use Rattle.makejob.proofs.shape.reach_of.Given as goal

abbrev pub invariant-loop-i : goal.invariant-loop-i
invariant-loop-i l = reach_from l.state l.i (drop l.i l.line) ≡ reach_of l.first l.line
