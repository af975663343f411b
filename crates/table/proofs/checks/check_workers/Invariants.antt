-- The loop's invariant: each worker before w is accepted.
use Prim.Native.Nat.{ℕ, ◌<◌}
use mathlib.Core.Path.{◌≡◌}
use Rattle.job.specs.Check.{Accepted}
use Rattle.job.specs.Format.{job_of}
use Rattle.table.specs.Ranges.{check_worker}
use Rattle.table.proofs.checks.check_workers.Given as goal

abbrev pub invariant-loop-w : goal.invariant-loop-w
invariant-loop-w l = (k : ℕ) → k < l.w → Accepted ≡ check_worker (job_of l.job) l.table k
