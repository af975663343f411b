use native.Mathlib.Omega.{arith}
use Rattle.counters.proofs.Walking.{places}
use Rattle.counters.proofs.tables.Tables.rules_of.Goals as goal

pub slice_bounds-result-count : goal.slice_bounds-result-count
slice_bounds-result-count c = let p = places _ _ _ c.args.self.now.placed _ c.requires in omega (arith, p.rising, c.from-from.ensures, c.from-end.ensures)

pub slice_bounds-result-start : goal.slice_bounds-result-start
slice_bounds-result-start c = let p = places _ _ _ c.args.self.now.placed _ c.requires in omega (arith, p.rising, p.within, c.from-from.ensures, c.from-end.ensures)

pub slice_bounds-result-end : goal.slice_bounds-result-end
slice_bounds-result-end c = let p = places _ _ _ c.args.self.now.placed _ c.requires in omega (arith, p.within, c.from-from.ensures, c.from-end.ensures)
