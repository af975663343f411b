-- The loop's invariant: each claim before c is accepted.
use Prim.Native.Nat.{ℕ, ◌<◌}
use mathlib.Core.Path.{◌≡◌}
use Rattle.job.specs.Check.{Accepted}
use Rattle.job.specs.Format.{job_of}
use Rattle.table.specs.Ranges.{check_claim}
use Rattle.table.proofs.checks.check_claims.Given as goal

abbrev pub invariant-loop-c : goal.invariant-loop-c
invariant-loop-c l = (k : ℕ) → k < l.c → Accepted ≡ check_claim (job_of l.job) l.table k
