use Prim.Native.Nat.{ℕ, ◌^◌}
use mathlib.Core.Path.{◌∙◌, ap}
use Rattle.counting.proofs.digits.set_count.Goals as goal

pub returns : goal.returns
returns c = record { value = c.power.ensures.value ∙ ap (λ (x : ℕ). x ^ c.args.size) c.choice_count.ensures.value; small = c.power.ensures.small }
