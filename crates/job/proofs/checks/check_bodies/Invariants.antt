use Prim.Native.Nat.{ℕ, ◌-◌, ◌≤◌, ◌<◌}
use mathlib.Core.Bool.{false}
use mathlib.Core.Path.{◌≡◌}
use Rattle.job.specs.Checks.{long_body}
use Rattle.job.specs.Format.{rules, literals, body_start}
use Rattle.job.proofs.checks.check_bodies.Given as goal

abbrev pub invariant-loop-i : goal.invariant-loop-i
invariant-loop-i l = (l.i ≤ rules l.job) × (l.passed ≡ body_start l.job l.i) × (l.passed ≤ literals l.job) × ((k : ℕ) → k < l.i → long_body l.job k ≡ false)

abbrev pub decreases-loop-i : goal.decreases-loop-i
decreases-loop-i l = rules l.job - l.i
