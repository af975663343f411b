use mathlib.Core.Path.{sym}
use native.Mathlib.Omega.{arith}
use borrow.Author.Rules.{rules}
use Rattle.table.proofs.Shown.{reading_open}
use Rattle.table.specs.Reading.{reading_of}
use Rattle.table.proofs.words.reading_of.Goals as goal

pub returns-in-0 : goal.returns-in-0
unfolding reading_of
returns-in-0 c = search rules

pub returns-in-256 : goal.returns-in-256
unfolding reading_of
returns-in-256 c = search rules

pub returns-in-257 : goal.returns-in-257
unfolding reading_of
returns-in-257 c = search rules

pub returns-in-258 : goal.returns-in-258
unfolding reading_of
returns-in-258 c = search rules

pub returns-in_default : goal.returns-in_default
returns-in_default c = sym (reading_open _ (λ e. omega arith) (λ e. omega arith) (λ e. omega arith) (λ e. omega arith))
