-- The loop's invariant: where all fit so far, the words of each claim before c are in range.
use Prim.Native.Nat.{ℕ, ◌<◌}
use mathlib.Core.Path.{◌≡◌}
use mathlib.Core.Bool.{true}
use Rattle.job.specs.Format.{job_of}
use Rattle.table.specs.Ranges.{ClaimInRange}
use Rattle.table.proofs.checks.claims_fit.Given as goal

abbrev pub invariant-loop-c : goal.invariant-loop-c
invariant-loop-c l = l.fit ≡ true → (d : ℕ) → d < l.c → ClaimInRange (job_of l.job) l.table d
