use mathlib.Core.Path.{◌∙◌, ap}
use mathlib.Core.Bool.{not}
use borrow.Author.Tests.{eq-eqb}
use Rattle.groups.proofs.Foreign.{foreign-public, foreign_else}
use Rattle.groups.proofs.search.is_foreign.Goals as goal

pub returns-then-own-ne0 : goal.returns-then-own-ne0
returns-then-own-ne0 c = foreign_else _ _ _ _ c.from-own.ensures c.if-own-ne0.true

pub returns-else-own-ne0 : goal.returns-else-own-ne0
returns-else-own-ne0 c = ap not (eq-eqb _ _ c.if-own-ne0.false) ∙ foreign-public _ _ _ _ c.from-own.ensures c.if-own-ne0.false
