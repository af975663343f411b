use mathlib.Core.Path.{◌≡◌, refl, ◌∙◌, ap}
use Prim.Native.Nat.{ℕ, ◌+◌, ◌≤◌}
use native.Mathlib.Omega.{arith}
use lib.ListN.{drop}
use Rattle.lines.specs.Numbering.{cap, digit_by}
use Rattle.lines.proofs.Capped.{digit-kept}
use Rattle.makejob.specs.Pieces.{value_from}
use Rattle.makejob.proofs.Numbers.{value_more, value_end}
use Rattle.makejob.proofs.digits.value.Goals as goal

kept : (r n b : ℕ) → r ≡ digit_by cap n b → r ≤ 65536
kept r n b e = rw e (digit-kept n b)

pub loop-b-init : goal.loop-b-init
loop-b-init c = (omega arith, refl)

pub loop-b-preserved : goal.loop-b-preserved
loop-b-preserved c = let l = c.loop-b in
    let s = c.args.digits.now in
    (kept _ _ _ c.with_digit-value.ensures, ap (λ (n : ℕ). value_from n (drop (l.b-index + 1) s)) c.with_digit-value.ensures ∙ value_more s l.b-index l.value (omega arith) ∙ l.invariant.1)

pub returns-clause-value : goal.returns-clause-value
returns-clause-value c = let l = c.loop-b in value_end c.args.digits.now l.b-index l.value (omega arith) ∙ l.invariant.1
