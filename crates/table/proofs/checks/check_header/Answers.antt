use mathlib.Core.Path.{◌∙◌}
use native.Mathlib.Omega.{arith}
use borrow.Author.Count.{below_more}
use Rattle.job.proofs.Rows.{scan_none, scan_at}
use Rattle.table.proofs.Sizes.{header_bad, header-good}
use Rattle.table.proofs.checks.check_header.Goals as goal

pub returns-then-table-i : goal.returns-then-table-i
returns-then-table-i c = let t = c.args.table.now in
    let l = c.loop-i in
    c.bad_word.ensures ∙ scan_at _ _ l.i _ (λ i. i) (omega arith) l.invariant (header_bad _ t l.i c.header_words-header.ensures c.if-table-i.true)

pub loop-i-preserved : goal.loop-i-preserved
loop-i-preserved c = let t = c.args.table.now in
    let l = c.loop-i in
    below_more _ _ l.invariant (header-good _ t l.i c.header_words-header.ensures c.if-table-i.false)

pub returns : goal.returns
returns c = scan_none _ _ _ _ (λ k l. c.loop-i.invariant k (omega arith))
