use Prim.Native.Nat.{ℕ, ◌-◌, ◌≤◌, ◌<◌}
use Rattle.job.specs.Format.{rules, literals, literal_at}
use Rattle.job.specs.Job.{claim_of}
use Rattle.job.proofs.checks.highest_claim.Given as goal

abbrev pub invariant-loop-k : goal.invariant-loop-k
invariant-loop-k l = (l.k ≤ literals l.job) × ((j : ℕ) → j < l.k → claim_of (literal_at l.job (rules l.job) j) ≤ l.highest)

abbrev pub decreases-loop-k : goal.decreases-loop-k
decreases-loop-k l = literals l.job - l.k
