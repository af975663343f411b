use native.Mathlib.Omega.{arith}
use Rattle.counting.proofs.Powers.{some_power, choice-by}
use Rattle.counting.proofs.digits.choice_of.Goals as goal

pub nonzero_div-result : goal.nonzero_div-result
nonzero_div-result c = omega (arith, some_power _ _ (omega (arith, c.choice_count-b.ensures.value)) c.power.ensures.value)

pub returns : goal.returns
returns c = choice-by _ _ _ c.requires.1 c.requires.2 c.choice_count-b.ensures.value c.power.ensures.value
