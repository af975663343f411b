-- Choice by a test, shut: proofs go by its laws (proofs/Choose).
--   pick b x y   x where b holds, else y
use Rattle.std.specs.Prelude.{Bool, true, false}

unfoldable pub pick {ℓ} : {X : Type ℓ} → Bool → X → X → X
pick true x y = x
pick false x y = y
