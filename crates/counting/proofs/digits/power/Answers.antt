use native.Mathlib.Omega.{arith}
use Rattle.counting.proofs.Powers.{power-low}
use Rattle.counting.proofs.digits.power.Goals as goal

pub pow-requires : goal.pow-requires
pow-requires c = omega (arith, power-low c.args.b c.args.k c.requires.0 c.requires.1)

pub returns : goal.returns
returns c = record { value = c.pow.ensures; small = omega (arith, power-low c.args.b c.args.k c.requires.0 c.requires.1, c.pow.ensures) }
