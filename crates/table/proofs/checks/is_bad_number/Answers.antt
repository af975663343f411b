use Prim.Native.Nat.{ℕ}
use mathlib.Core.Path.{sym, ◌∙◌, ap}
use borrow.Author.Tests.{eq-eqb, ne_eqb}
use lib.Dec.{ltb}
use Rattle.base.proofs.Bools.{or_first}
use Rattle.base.proofs.Compare.{under-yes, under-no}
use Rattle.base.proofs.Choose.{pick_true, pick-false}
use Rattle.base.specs.Compare.{differs, over}
use Rattle.job.specs.Format.{job_of}
use Rattle.table.proofs.checks.is_bad_number.Goals as goal

pub returns-then-mark-eq0 : goal.returns-then-mark-eq0
unfolding differs
returns-then-mark-eq0 c = sym (pick_true _ _ _ (eq-eqb _ _ c.if-mark-eq0.true))

pub returns-then-number-lt1 : goal.returns-then-number-lt1
returns-then-number-lt1 c = sym (pick-false _ _ _ (ne_eqb _ _ c.if-mark-eq0.false) ∙ or_first _ _ (under-yes _ _ c.if-number-lt1.true))

pub returns : goal.returns
unfolding over job_of
returns c = ap (λ (x : ℕ). ltb x c.args.number) c.claim_count.ensures.value ∙ sym (pick-false _ _ _ (ne_eqb _ _ c.if-mark-eq0.false) ∙ rw (under-no _ _ c.if-number-lt1.false))
