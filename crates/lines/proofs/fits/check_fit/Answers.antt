use Rattle.lines.specs.Grammar.{is_bad}
use Rattle.lines.proofs.Steps.{fits_more, fits-stop, fits_end}
use Rattle.lines.specs.Fitting.{check_fit}
use native.Mathlib.Omega.{arith}
use mathlib.Core.Path.{refl, sym, ◌∙◌, ap}
use Rattle.lines.proofs.fits.check_fit.Goals as goal

pub loop-b-init : goal.loop-b-init
unfolding check_fit
loop-b-init c = (omega arith, refl)

pub returns-then-is_bad : goal.returns-then-is_bad
returns-then-is_bad c = let l = c.loop-b in
    let st = c.step-next.ensures in
    let bad = ap is_bad (sym st) ∙ sym c.is_bad.ensures ∙ c.if-is_bad.true in
    c.unfit.ensures ∙ rw c.starts_line-line.ensures.0 (fits-stop l.state l.line l.b-index _ (omega arith) bad ∙ l.invariant.1)

pub loop-b-preserved : goal.loop-b-preserved
loop-b-preserved c = let l = c.loop-b in
    let st = c.step-next.ensures in
    let good = ap is_bad (sym st) ∙ sym c.is_bad.ensures ∙ c.if-is_bad.false in (
      omega arith,
      rw (st, c.starts_line-line.ensures.0) (fits_more l.state l.line l.b-index _ (omega arith) good ∙ l.invariant.1),
    )

pub returns : goal.returns
returns c = c.check_end.ensures ∙ fits_end c.loop-b.state c.loop-b.line c.loop-b.b-index _ (omega arith) ∙ c.loop-b.invariant.1
