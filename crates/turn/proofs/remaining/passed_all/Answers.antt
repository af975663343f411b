use Rattle.turn.proofs.Sweeps.{passed_is}
use Rattle.turn.proofs.remaining.passed_all.Goals as goal

pub returns : goal.returns
returns c = let a = c.args in
    passed_is a.index.now a.table.now a.c c.cursor_at.ensures.value c.over.ensures c.at_end.ensures
