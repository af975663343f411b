-- The loop's invariant: the word of no question before k is past the last value.
use Prim.Native.Nat.{ℕ, ◌<◌}
use mathlib.Core.Bool.{false}
use mathlib.Core.Path.{◌≡◌}
use Rattle.job.specs.Format.{job_of}
use Rattle.table.specs.Ranges.{bad_answer}
use Rattle.table.proofs.checks.check_answers.Given as goal

abbrev pub invariant-loop-k : goal.invariant-loop-k
invariant-loop-k l = (i : ℕ) → i < l.k → bad_answer (job_of l.job) l.table i ≡ false
