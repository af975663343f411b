use Prim.Native.Nat.{◌+◌, ◌-◌}
use mathlib.Core.Path.{◌≡◌, refl, sym, ◌∙◌, ap}
use native.Mathlib.Omega.{arith}
use Rattle.job.proofs.Parts.{head_before-next}
use Rattle.job.specs.Format.{head_before}
use Rattle.job.proofs.checks.head_before.Goals as goal

pub returns-then-i-eq0 : goal.returns-then-i-eq0
unfolding head_before
returns-then-i-eq0 c = record { value = rw c.if-i-eq0.true refl; small = omega arith }

pub returns : goal.returns
returns c = let s = c.args.job.now in
    let next : c.args.i - 1 + 1 ≡ c.args.i = omega (arith, c.if-i-eq0.false) in
    record { value = c.head_at.ensures.value ∙ sym (head_before-next s (c.args.i - 1)) ∙ ap (head_before s) next; small = c.head_at.ensures.small }
