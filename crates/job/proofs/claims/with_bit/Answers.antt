-- : a bit below 16 is not shifted out.
use Prim.Native.Nat.{◌^◌}
use mathlib.Core.Path.{◌∙◌, ap}
use native.Mathlib.Nat.{one-mul}
use native.Mathlib.Omega.{arith}
use lib.Bits.{bit_or}
use lib.Pow.{shl_exact}
use Rattle.job.proofs.claims.with_bit.Goals as goal

pub returns : goal.returns
returns c = ap (bit_or c.args.bits) (shl_exact {a = 1} 1 c.args.i 16 (omega arith) (omega (arith, c.requires)) ∙ one-mul (2 ^ c.args.i))
