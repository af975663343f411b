use mathlib.Core.Path.{sym}
use Rattle.groups.proofs.Scopes.{narrow_first, narrow-later}
use Rattle.groups.proofs.search.narrow.Goals as goal

pub returns-then-scope-eq0 : goal.returns-then-scope-eq0
returns-then-scope-eq0 c = sym (narrow_first _ _ c.if-scope-eq0.true)

pub returns-else-scope-eq0 : goal.returns-else-scope-eq0
returns-else-scope-eq0 c = sym (narrow-later _ _ c.if-scope-eq0.false)
