-- : the members of the set are what is reached (proofs/KeptMembers).
use Prim.Native.Nat.{ℕ, ◌+◌, ◌≤◌}
use mathlib.Core.Path.{sym, ◌∙◌, ap, ap₂}
use native.Mathlib.Omega.{arith}
use borrow.Author.Tests.{eqb-true}
use lib.ListN.{length}
use Rattle.job.specs.Format.{claims, workers, job_of}
use Rattle.table.specs.Layout.{workers_from, mark}
use Rattle.table.specs.Newest.{with_newest}
use Rattle.table.proofs.Sizes.{sizes}
use Rattle.turn.specs.KeptSet.{Places}
use Rattle.turn.proofs.Following.{room}
use Rattle.turn.proofs.Jobs.{job_ok}
use Rattle.turn.proofs.KeptMembers.{kept-places, took-marks, took-keeps}
use Rattle.turn.proofs.passing.take_over.Goals as goal
use Rattle.turn.proofs.passing.take_over.Goals.{After-reach}

-- the words of claims stand in the table
words : (c : After-reach) → workers_from (job_of c.args.job.now).claims ≤ length c.args.table.now
words c = omega (arith, c.requires.ready.table.room)

-- what is kept, and the words of its members
places : (c : After-reach) → Places c.args.table.now c.reach.new.self.members.now c.reach.new.self.kept.count
places c = let r = c.requires.ready in kept-places _ (job_ok _ r.job) _ _ _ _ c.reach.ensures.reached.0 (omega (arith, r.job.sized.claims_most, (sizes c.args.job.now).claims_are)) (words c)

pub take-requires : goal.take-requires
take-requires c = (places (goal.at.take-requires c).After-reach, omega (arith, c.requires.within.1, c.requires.ready.job.sized.workers_most))

pub keep_newest-requires : goal.keep_newest-requires
keep_newest-requires c = let a = c.requires.ready in
    omega (arith, room _ _ a.table, a.job.sized.claims_most, a.job.sized.workers_most, c.worker_count.ensures.value, c.claim_count.ensures.value, c.take.ensures.long)

pub returns : goal.returns
returns c = let s = c.args.job.now in
    let r = c.reach in
    let m = c.take.ensures in
    let n = c.claim_count.ensures.value in
    let J = job_ok s c.requires.ready.job in record {
      taken = c.keep_newest.ensures
          ∙ (ap₂ (λ (x y : ℕ). with_newest x y c.take.new.table) n c.worker_count.ensures.value
          ∙ ap (with_newest (claims s) (workers s)) (took-marks _ J _ _ _ _ r.ensures.reached.0 _ r.ensures.reached.1 _ (words (goal.at.returns c).After-reach) m));
      keeps = took-keeps _ J _ _ _ _ r.ensures.reached.0 c.args.c r.ensures.reached.1 c.args.w (words (goal.at.returns c).After-reach) m (omega (arith, eqb-true (mark c.args.table.now c.args.c) (c.args.w + 1) c.requires.within.2, c.requires.within.1, c.requires.ready.job.sized.workers_most)) (omega (arith, c.requires.within.1, c.requires.ready.job.sized.workers_most)) _ (n ∙ sym (sizes s).claims_are) c.keep_newest.ensures;
      same_room = record { same_place = r.ensures.same_room.same_place; same_members = r.ensures.same_room.same_members; place_long = r.ensures.same_room.place_long; members_long = r.ensures.same_room.members_long };
    }
