use Prim.Native.Nat.{ℕ, ◌+◌, ◌-◌, ◌≤◌, ◌<◌}
use mathlib.Core.Bool.{true, false}
use mathlib.Core.Path.{◌≡◌}
use Rattle.job.specs.Checks.{bad_question}
use Rattle.job.proofs.checks.questions_fit.Given as goal

abbrev pub invariant-loop-q : goal.invariant-loop-q
invariant-loop-q l = (l.q ≤ l.from + 64) × (l.fit ≡ true → (k : ℕ) → k < l.q → l.from ≤ k → bad_question l.job k ≡ false)

abbrev pub decreases-loop-q : goal.decreases-loop-q
decreases-loop-q l = l.from + 64 - l.q
