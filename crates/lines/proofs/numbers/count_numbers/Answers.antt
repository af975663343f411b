use mathlib.Core.Path.{sym, ◌∙◌}
use native.Mathlib.Omega.{arith}
use Rattle.lines.specs.Numbering.{counted_all}
use Rattle.lines.proofs.Leads.{at as scanned}
use Rattle.lines.proofs.Tallies.{counted_more, counted_stop, counted_end, none-counted, small-next, scanned-next}
use Rattle.lines.proofs.numbers.count_numbers.Goals as goal

pub loop-b-init : goal.loop-b-init
unfolding counted_all
loop-b-init c = let e = none-counted c.default-tally.result c.default-tally.ensures in (omega arith, rw e (omega arith), rw e)

pub counted-next-requires : goal.counted-next-requires
counted-next-requires c = c.loop-b.invariant.1

pub returns-then-faulty : goal.returns-then-faulty
returns-then-faulty c = let l = c.loop-b in
    counted_stop (scanned l.state l.number) l.tally l.line l.b-index _ _ _ _ (omega arith) c.event-event.ensures c.counted-next.ensures (sym c.faulty.ensures ∙ c.if-faulty.true) c.starts_line-line.ensures.0
    ∙ l.invariant.2

pub loop-b-preserved : goal.loop-b-preserved
loop-b-preserved c = let l = c.loop-b in
    let e = c.event-event in
    let n = c.counted-next.ensures in
    let good = sym c.faulty.ensures ∙ c.if-faulty.false in
    let next = scanned-next l.state _ _ _ _ c.step-state.ensures c.with_digit-number.ensures in (
      omega arith,
      small-next l.tally e.result _ n l.invariant.1 good,
      counted_more (scanned l.state l.number) l.tally l.line l.b-index _ _ _ _ _ (omega arith) e.ensures n good next c.starts_line-line.ensures.0 ∙ l.invariant.2,
    )

pub returns : goal.returns
returns c = let l = c.loop-b in counted_end (scanned l.state l.number) l.tally l.line l.b-index _ (omega arith) ∙ l.invariant.2
