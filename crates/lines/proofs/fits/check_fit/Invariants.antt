use Rattle.lines.specs.Fitting.{fits_from, check_fit}
use lib.ListN.{drop}
use Prim.Native.Nat.{◌≤◌}
use mathlib.Core.Path.{◌≡◌}
use Rattle.lines.proofs.fits.check_fit.Given as goal

abbrev pub invariant-loop-b : goal.invariant-loop-b
invariant-loop-b l = (l.line ≤ l.b-index) × (fits_from l.state l.line (drop l.b-index l.text) ≡ check_fit l.text)
