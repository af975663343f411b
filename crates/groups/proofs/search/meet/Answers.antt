use Prim.Native.Nat.{◌<◌}
use native.Mathlib.Omega.{arith}
use Rattle.job.specs.Job.{most_claims}
use Rattle.groups.proofs.Scopes.{narrow-small, push-room, met-settled, met_out, met-pushed}
use Rattle.groups.proofs.search.meet.Goals as goal
use Rattle.groups.proofs.search.meet.Goals.{After-narrow}

pub returns-then-settled : goal.returns-then-settled
returns-then-settled c = met-settled _ _ _ _ c.from-scope.ensures _ c.settled.ensures c.if-settled.true

-- a claim that is to be pushed has room
room : (c : After-narrow) → c.args.top < most_claims
room c =
    push-room _ c.args.claim _ c.requires.2 c.requires.0
    (met_out _ _ (record { scopes = c.args.scopes.now; queue = c.args.queue.now; top = c.args.top }) _ c.from-scope.ensures _ c.settled.ensures c.if-settled.false)

pub overflow_cast-scopes : goal.overflow_cast-scopes
overflow_cast-scopes c = omega (arith, c.narrow.ensures, narrow-small c.args.group c.from-scope.result, c.requires.1)

pub offset_bounds-queue-top : goal.offset_bounds-queue-top
offset_bounds-queue-top c = omega (arith, room (goal.at.offset_bounds-queue-top c).After-narrow)

pub bounds-queue-top : goal.bounds-queue-top
bounds-queue-top c = omega (arith, room (goal.at.bounds-queue-top c).After-narrow, c.requires.2.queue_long)

pub overflow_add-result : goal.overflow_add-result
overflow_add-result c = omega (arith, room (goal.at.overflow_add-result c).After-narrow)

pub returns : goal.returns
returns c = met-pushed _ _ _ _ c.from-scope.ensures _ c.settled.ensures c.if-settled.false _ c.narrow.ensures
