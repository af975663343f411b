-- The loop's invariant: the claims of the literals before the cursor are met (`Expanded`, specs/Scopes). The measure is what the cursor has left.
use Prim.Native.Nat.{◌-◌, ◌≤◌}
use mathlib.Core.Path.{◌≡◌}
use Rattle.job.specs.Format.{rules as rules_of, literal_at, job_of}
use Rattle.job.specs.Job.{claim_of}
use Rattle.groups.specs.Scopes.{Expanded}
use Rattle.groups.proofs.search.expand.Given as goal

abbrev pub invariant-loop-cursor : goal.invariant-loop-cursor
invariant-loop-cursor l = (l.cursor.end ≡ l.initial.cursor.end)
    × (l.initial.cursor.at ≤ l.cursor.at)
    × (l.cursor.at ≤ l.cursor.end)
    × Expanded (job_of l.job) l.group (λ y. claim_of (literal_at l.job (rules_of l.job) y)) l.initial.cursor.at l.cursor.at
    (record { scopes = l.initial.scopes; queue = l.initial.queue; top = l.initial.top }) (record { scopes = l.scopes; queue = l.queue; top = l.top })

abbrev pub decreases-loop-cursor : goal.decreases-loop-cursor
decreases-loop-cursor l = l.cursor.end - l.cursor.at
