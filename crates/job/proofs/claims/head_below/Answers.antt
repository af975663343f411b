use Prim.Native.Nat.{ℕ}
use mathlib.Core.Path.{◌∙◌, ap}
use lib.Dec.{ltb}
use Rattle.base.proofs.Compare.{under-yes, under-no}
use Rattle.base.specs.Compare.{under}
use Rattle.job.proofs.claims.head_below.Goals as goal

pub returns-then-i-rules : goal.returns-then-i-rules
unfolding under
returns-then-i-rules c = ap (λ (x : ℕ). ltb x c.args.claim) c.head_at.ensures.value ∙ rw (under-yes _ _ c.if-i-rules.true)

pub returns-else-i-rules : goal.returns-else-i-rules
unfolding under
returns-else-i-rules c = rw (under-no _ _ c.if-i-rules.false)
