-- The loop's invariant: each word before i is the header's.
use Prim.Native.Nat.{ℕ, ◌<◌}
use mathlib.Core.Bool.{false}
use mathlib.Core.Path.{◌≡◌}
use Rattle.job.specs.Format.{job_of}
use Rattle.table.specs.Ranges.{bad_header}
use Rattle.table.proofs.checks.check_header.Given as goal

abbrev pub invariant-loop-i : goal.invariant-loop-i
invariant-loop-i l = (k : ℕ) → k < l.i → bad_header (job_of l.job) l.table k ≡ false
