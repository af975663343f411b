use mathlib.Core.Path.{sym, ◌∙◌, ap}
use Prim.Native.Nat.{ℕ}
use mathlib.Core.List.{List}
use native.Mathlib.Omega.{arith}
use borrow.Author.Tests.{ne_eqb}
use lib.ListN.{get_or}
use Rattle.base.proofs.Choose.{pick_true}
use Rattle.base.proofs.Compare.{under-yes}
use Rattle.makejob.specs.Faults.{is_late}
use Rattle.makejob.proofs.Faulted.{late-no, late_by}
use Rattle.makejob.proofs.sort.is_late.Goals as goal

pub returns-then-line-lt2 : goal.returns-then-line-lt2
unfolding is_late
returns-then-line-lt2 c = sym (pick_true _ _ _ (under-yes _ _ (omega arith)))

pub returns-then-first_byte-eq97 : goal.returns-then-first_byte-eq97
returns-then-first_byte-eq97 c = late_by _ _ (omega arith) (c.first_byte.ensures ∙ ap (λ (x : List ℕ). get_or x 0 0) c.line_of-before.ensures) c.if-first_byte-eq97.true
    (c.first_byte-then-first_byte-eq97.ensures ∙ ap (λ (x : List ℕ). get_or x 0 0) c.line_of-typed.ensures)
    c.is_digit.ensures

pub returns-else-first_byte-eq97 : goal.returns-else-first_byte-eq97
returns-else-first_byte-eq97 c = ne_eqb _ _ c.if-first_byte-eq97.false ∙ late-no _ _ (omega arith) (c.first_byte.ensures ∙ ap (λ (x : List ℕ). get_or x 0 0) c.line_of-before.ensures) c.if-first_byte-eq97.false
