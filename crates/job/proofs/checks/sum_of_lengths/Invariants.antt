use Prim.Native.Nat.{◌-◌, ◌*◌, ◌≤◌}
use mathlib.Core.Path.{◌≡◌}
use Rattle.job.specs.Format.{rules, body_start}
use Rattle.job.proofs.checks.sum_of_lengths.Given as goal

abbrev pub invariant-loop-i : goal.invariant-loop-i
invariant-loop-i l = (l.i ≤ rules l.job) × (l.sum ≡ body_start l.job l.i) × (l.sum ≤ 65536 * l.i)

abbrev pub decreases-loop-i : goal.decreases-loop-i
decreases-loop-i l = rules l.job - l.i
