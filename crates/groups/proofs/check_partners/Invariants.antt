-- The loop's invariant: no question before q leads abroad, and the scopes are right.
use Prim.Native.Nat.{ℕ, ◌≤◌, ◌<◌}
use mathlib.Core.Bool.{false}
use mathlib.Core.Path.{◌≡◌}
use lib.ListN.{length}
use Rattle.job.specs.Format.{questions as questions_of, job_of}
use Rattle.job.specs.Job.{most_claims}
use Rattle.groups.specs.Groups.{bad_question}
use Rattle.groups.specs.Scopes.{Known}
use Rattle.groups.proofs.check_partners.Given as goal

abbrev pub invariant-loop-q : goal.invariant-loop-q
invariant-loop-q l = (l.q ≤ questions_of l.job)
    × (length l.scopes ≡ most_claims)
    × (length l.queue ≡ most_claims)
    × Known (job_of l.job) l.groups l.scopes
    × ((k : ℕ) → k < l.q → bad_question l.job l.groups l.workers k ≡ false)
