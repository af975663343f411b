use mathlib.Core.Path.{ap}
use mathlib.Core.List.{◌∷◌, []}
use Prim.Native.Nat.{ℕ}
use native.Mathlib.Omega.{arith}
use Rattle.writing.proofs.Writing.{writes_as, writes-room, writes-writes}
use Rattle.recording.proofs.noting.put_pair.Goals as goal

pub put_byte-requires-2 : goal.put_byte-requires-2
put_byte-requires-2 c = writes-room _ _ _ (omega (arith, c.requires)) c.put_byte.ensures 1 (omega (arith, c.requires))

pub returns : goal.returns
returns c = writes_as (writes-writes _ _ _ (omega (arith, c.requires)) c.put_byte.ensures _ _ c.put_byte-2.ensures) (ap (λ (k : ℕ). c.args.worker ∷ k ∷ []) c.kind_number.ensures.0)
