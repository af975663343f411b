use Prim.Native.Nat.{ℕ, ◌-◌, ◌≤◌, ◌<◌}
use mathlib.Core.Bool.{false}
use mathlib.Core.Path.{◌≡◌}
use Rattle.job.specs.Checks.{bad_head}
use Rattle.job.specs.Format.{rules, head_before}
use Rattle.job.proofs.checks.scan_heads.Given as goal

abbrev pub invariant-loop-i : goal.invariant-loop-i
invariant-loop-i l = (l.i ≤ rules l.job) × (l.before ≡ head_before l.job l.i) × ((k : ℕ) → k < l.i → bad_head l.job k ≡ false)

abbrev pub decreases-loop-i : goal.decreases-loop-i
decreases-loop-i l = rules l.job - l.i
