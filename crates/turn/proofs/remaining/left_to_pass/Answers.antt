use mathlib.Core.Bool.{not}
use mathlib.Core.Path.{◌∙◌, ap}
use borrow.Author.Tests.{ne_eqb}
use Rattle.base.proofs.Bools.{and-on, and_off}
use Rattle.table.specs.Layout.{owned}
use Rattle.table.proofs.Searching.{owned-yes, owned-no}
use Rattle.turn.specs.Ready.{passed_in}
use Rattle.turn.proofs.remaining.left_to_pass.Goals as goal

pub returns-then-mark_at-w : goal.returns-then-mark_at-w
returns-then-mark_at-w c = let a = c.args in
    let t = a.table.now in
    and-on (owned t a.w a.c) (not (passed_in a.index.now t a.c)) (owned-yes t a.w a.c c.mark_at.ensures.value c.if-mark_at-w.true) (ap not c.passed_all.ensures)

pub returns-else-mark_at-w : goal.returns-else-mark_at-w
returns-else-mark_at-w c = let a = c.args in
    let t = a.table.now in
    ne_eqb _ _ c.if-mark_at-w.false ∙ and_off (owned t a.w a.c) (not (passed_in a.index.now t a.c)) (owned-no t a.w a.c c.mark_at.ensures.value c.if-mark_at-w.false)
