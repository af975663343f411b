use Prim.Native.Nat.{ℕ, ◌+◌, ◌-◌, ◌≤◌, ◌<◌}
use mathlib.Core.Bool.{true, false}
use mathlib.Core.Path.{◌≡◌}
use Rattle.job.specs.Checks.{bad_head}
use Rattle.job.specs.Format.{head_before}
use Rattle.job.proofs.checks.heads_rise.Given as goal

abbrev pub invariant-loop-i : goal.invariant-loop-i
invariant-loop-i l = (l.i ≤ l.from + 64) × (l.before ≡ head_before l.job l.i) × (l.rise ≡ true → (k : ℕ) → k < l.i → l.from ≤ k → bad_head l.job k ≡ false)

abbrev pub decreases-loop-i : goal.decreases-loop-i
decreases-loop-i l = l.from + 64 - l.i
