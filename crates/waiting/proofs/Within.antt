-- The chain of waits from a worker meets w exactly where T moves find w. Assumes nothing.
use Prim.Native.Nat.{ℕ, zero, suc, ◌≤◌, ◌<◌}
use native.Mathlib.Omega.{arith}
use Rattle.base.specs.Graph.{Reach, here, step, steps}
use Rattle.base.proofs.Acyclic.{steps_most}
use Rattle.waiting.specs.State.{State, Next, Inv}
use Rattle.waiting.specs.Steps.{Within, there, move}
use Rattle.waiting.proofs.Basics.{ring}

module _ {s : State} {w : ℕ} where
  pub within_reach : {k v : ℕ} → Within s w k v → Reach (Next s) v w
  within_reach there = here
  within_reach (move n p) = step n (within_reach p)

  reach-within : {v : ℕ} (k : ℕ) (p : Reach (Next s) v w) → steps p ≤ k → Within s w k v
  reach-within k here h = there
  reach-within zero (step n p) h = absurd (omega arith)
  reach-within (suc k) (step n p) h = move n (reach-within k p (omega arith))

  pub meets-within : {T v : ℕ} → Inv s T → v < T → Reach (Next s) v w → Within s w T v
  meets-within {T} I h p = reach-within T p (steps_most T (λ x y n q. ring I n q) (λ x y n. I.workers n.owner) h p)
