use mathlib.Core.Path.{sym, ◌∙◌}
use borrow.Author.Tests.{eq-eqb}
use Rattle.groups.proofs.Scopes.{settled-yes, settled_else}
use Rattle.groups.proofs.search.settled.Goals as goal

pub returns-then-scope-group : goal.returns-then-scope-group
returns-then-scope-group c = eq-eqb _ _ c.if-scope-group.true ∙ sym (settled-yes _ _ c.if-scope-group.true)

pub returns-else-scope-group : goal.returns-else-scope-group
returns-else-scope-group c = settled_else _ _ c.if-scope-group.false
