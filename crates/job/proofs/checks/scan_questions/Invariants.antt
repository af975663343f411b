use Prim.Native.Nat.{ℕ, ◌-◌, ◌≤◌, ◌<◌}
use mathlib.Core.Bool.{false}
use mathlib.Core.Path.{◌≡◌}
use Rattle.job.specs.Checks.{bad_question}
use Rattle.job.specs.Format.{questions}
use Rattle.job.proofs.checks.scan_questions.Given as goal

abbrev pub invariant-loop-q : goal.invariant-loop-q
invariant-loop-q l = (l.q ≤ questions l.job) × ((k : ℕ) → k < l.q → bad_question l.job k ≡ false)

abbrev pub decreases-loop-q : goal.decreases-loop-q
decreases-loop-q l = questions l.job - l.q
