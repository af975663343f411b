use Prim.Native.Nat.{◌-◌, ◌<◌}
use mathlib.Core.Path.{◌≡◌}
use Rattle.job.specs.Format.{workers, job_of}
use Rattle.turn.specs.Turn.{meets}
use Rattle.turn.proofs.owners.meets_worker.Given as goal

abbrev pub invariant-loop : goal.invariant-loop
invariant-loop l = (l.at < workers l.job) × (meets (workers l.job) (job_of l.job) l.table l.w l.v ≡ meets (l.workers - l.counter) (job_of l.job) l.table l.w l.at)
