use native.Mathlib.Omega.{arith}
use Rattle.counting.proofs.Powers.{base-low}
use Rattle.counting.proofs.digits.choice_count.Goals as goal

pub returns : goal.returns
returns c = record { value = omega (arith, c.power.ensures.value); small = omega (arith, base-low _ c.requires c.power.ensures.value) }
