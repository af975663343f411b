-- The loop's invariant is `Seeking` (proofs/Seeking): what is settled, what waits in the queue. The measure is how many claims are more than i.
use Prim.Native.Nat.{◌-◌}
use Rattle.job.specs.Job.{most_claims}
use Rattle.groups.specs.Groups.{asked}
use Rattle.groups.proofs.Seeking.{Seeking}
use Rattle.groups.proofs.search.leads_abroad.Given as goal

abbrev pub invariant-loop-i : goal.invariant-loop-i
invariant-loop-i l = Seeking l.job l.groups l.group (asked l.job l.q).claim l.i (record { scopes = l.scopes; queue = l.queue; top = l.top })

abbrev pub decreases-loop-i : goal.decreases-loop-i
decreases-loop-i l = most_claims - l.i
