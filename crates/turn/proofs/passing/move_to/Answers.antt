use mathlib.Core.Path.{◌∙◌, ap}
use native.Mathlib.Omega.{arith}
use lib.ListN.{set}
use Rattle.table.specs.Layout.{cursor_word}
use Rattle.turn.proofs.passing.move_to.Goals as goal

pub set_cursor-requires : goal.set_cursor-requires
set_cursor-requires c = let p = c.requires in omega (arith, p.c_lt_most_claims, p.c_bound, c.passed.ensures)

pub returns : goal.returns
returns c = let a = c.args in
    c.set_cursor.ensures ∙ ap (set a.table.now (cursor_word a.c)) c.passed.ensures
