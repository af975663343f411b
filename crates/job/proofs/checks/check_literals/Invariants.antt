use Prim.Native.Nat.{ℕ, ◌≤◌, ◌<◌}
use mathlib.Core.Bool.{false}
use mathlib.Core.Path.{◌≡◌}
use Rattle.std.specs.Prelude.{None}
use Rattle.job.specs.Checks.{bad_literal}
use Rattle.job.specs.Format.{literals, body_start}
use Rattle.job.proofs.checks.check_literals.Given as goal

abbrev pub invariant-loop-k : goal.invariant-loop-k
invariant-loop-k l = (l.fault ≡ None) × (l.end ≤ literals l.job) × ((j : ℕ) → j < l.k → bad_literal l.job j ≡ false)

abbrev pub invariant-rules : goal.invariant-rules
invariant-rules l = (l.fault ≡ None) × (l.passed ≡ body_start l.job l.i) × ((j : ℕ) → j < l.passed → bad_literal l.job j ≡ false)
