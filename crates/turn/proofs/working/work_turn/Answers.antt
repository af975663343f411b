use Prim.Native.Nat.{◌≤◌, ◌<◌}
use mathlib.Core.Path.{◌≡◌, sym, ◌∙◌, ap, subst⁻¹}
use mathlib.Core.Bool.{false}
use native.Mathlib.Omega.{arith}
use borrow.Author.Tests.{eq-eqb}
use lib.ListN.{length}
use Rattle.job.specs.Format.{job_of}
use Rattle.table.proofs.Sizes.{sizes}
use Rattle.turn.specs.Ready.{passed_in}
use Rattle.turn.specs.Gather.{Gathered}
use Rattle.turn.specs.KeptSet.{held, word_of, Keeps, Places}
use Rattle.turn.specs.declared.Kept.{Kept}
use Rattle.turn.proofs.Completing.{first_left, first_passes}
use Rattle.turn.proofs.Jobs.{job_ok}
use Rattle.turn.proofs.KeptLaws.{nothing-keeps}
use Rattle.turn.proofs.KeptMembers.{kept-places}
use Rattle.turn.proofs.KeptTurns.{done_through}
use Rattle.turn.proofs.KeptWork.{found-by, lent-part, chosen-low, chosen_left, chosen-own, chosen-keeps, work-passes, work_idle, work-completed, alone-part}
use Rattle.turn.proofs.working.work_turn.Goals as goal
use Rattle.turn.proofs.working.work_turn.Goals.{After-reach, Then-not-passed_all}

-- the newest claim has a literal left
left : (c : Then-not-passed_all) → passed_in c.args.index.now c.args.table.now c.args.n ≡ false
left c = sym c.passed_all.ensures ∙ c.if-not-passed_all.true

-- what is kept, and the words of its members
places : (c : After-reach) → Places c.args.table.now c.reach.new.self.members.now c.reach.new.self.kept.count
places c =
    let p = c.requires in
    kept-places _ (job_ok _ p.ready.job) _ _ _ _ c.reach.ensures.reached.0 (omega (arith, p.ready.job.sized.claims_most, (sizes c.args.job.now).claims_are)) (omega (arith, p.ready.table.room))

crew : (c : After-reach) → c.args.w < 32
crew c = omega (arith, c.requires.n_bound.1, c.requires.ready.job.sized.workers_most)

many : (c : After-reach) → c.reach.new.self.kept.count ≤ length c.reach.new.self.members.now
many c = (places c).many

pub passed_all-requires : goal.passed_all-requires
passed_all-requires c = let p = c.requires in omega (arith, p.n_bound.0, p.ready.job.sized.claims_most, p.ready.table.room, (sizes c.args.job.now).claims_are)

pub pass_turn-requires : goal.pass_turn-requires
pass_turn-requires c = let a = c.args in
    let p = c.requires in
    let x = first_left a.job.now a.index.now a.table.now p.ready a.w a.n p.n_bound.0 p.n_bound.2 (left (goal.at.pass_turn-requires c).Then-not-passed_all) in record { ready = p.ready; c_bound = (p.n_bound.0, p.n_bound.1); c_value = (eq-eqb _ _ x.own, x.some); keeps = p.keeps }

pub returns-then-not-passed_all-clause-done : goal.returns-then-not-passed_all-clause-done
returns-then-not-passed_all-clause-done c = let a = c.args in
    let p = c.requires in
    done_through (first_passes a.job.now a.index.now a.table.now p.ready a.w a.n p.n_bound.0 p.n_bound.2 (left (goal.at.returns-then-not-passed_all-clause-done c).Then-not-passed_all)) c.pass_turn.ensures.done

pub reach-requires : goal.reach-requires
reach-requires c = let p = c.requires in record { ready = (p.ready, p.n_bound.0); keeps = p.keeps }

pub chosen-requires : goal.chosen-requires
chosen-requires c = (places (goal.at.chosen-requires c).After-reach, crew (goal.at.chosen-requires c).After-reach, found-by _ _ _ c.requires.ready _ _ _ c.reach.ensures.reached.0)

pub pass_turn-requires-in-Some : goal.pass_turn-requires-in-Some
pass_turn-requires-in-Some c = let a = c.args in
    let p = c.requires in
    let r = c.reach in
    let s = a.job.now in
    let i = a.index.now in
    let t = a.table.now in
    let q = r.new.self.place.now in
    let m = r.new.self.members.now in
    let x = c.chosen.ensures in
    let h = ap word_of c.in-Some.is in record { ready = p.ready; c_bound = (chosen-low s i t p.ready r.new.self.kept q m r.ensures.reached.0 a.w a.n p.n_bound.0 r.ensures.reached.1 x _ h, p.n_bound.1); c_value = (chosen-own s i t p.ready r.new.self.kept q m r.ensures.reached.0 a.w a.n p.n_bound.0 r.ensures.reached.1 x _ h, (chosen_left s i t p.ready r.new.self.kept q m r.ensures.reached.0 a.w a.n p.n_bound.0 r.ensures.reached.1 x _ h).some); keeps = chosen-keeps s i t p.ready r.new.self.kept q m r.ensures.reached.0 a.w a.n p.n_bound.0 r.ensures.reached.1 x _ h }

pub returns-in-Some-clause-done : goal.returns-in-Some-clause-done
returns-in-Some-clause-done c = let a = c.args in
    let p = c.requires in
    let r = c.reach in
    done_through (work-passes a.job.now a.index.now a.table.now p.ready r.new.self.kept r.new.self.place.now r.new.self.members.now r.ensures.reached.0 a.w a.n p.n_bound.0 r.ensures.reached.1 c.chosen.ensures _ (ap word_of c.in-Some.is)) c.pass_turn-in-Some.ensures.done

pub all_owned-requires : goal.all_owned-requires
all_owned-requires c = let x = (goal.at.all_owned-requires c).After-reach in (places x, crew x)

pub complete-requires : goal.complete-requires
complete-requires c = let a = c.args in
    let p = c.requires in
    let r = c.reach in
    let q = r.new.self.place.now in
    let m = r.new.self.members.now in record { lent = (lent-part _ _ _ p.ready r.new.self.kept q m r.ensures.reached.0, alone-part a.job.now a.index.now a.table.now p.ready r.new.self.kept q m r.ensures.reached.0 a.w a.n p.n_bound.0 r.ensures.reached.1 c.chosen.ensures (ap word_of c.in_default.is) c.all_owned.ensures c.if-all_owned.true p.n_bound.1); fits = many (goal.at.complete-requires c).After-reach; w_bound = p.n_bound.1 }

pub clear-requires : goal.clear-requires
clear-requires c = let r = c.reach in
    let g = r.ensures.reached.0.gathered in
    subst⁻¹ (λ n. Gathered n (held r.new.self.kept r.new.self.place.now r.new.self.members.now)) g.long g

pub returns-then-all_owned-clause-done : goal.returns-then-all_owned-clause-done
returns-then-all_owned-clause-done c = let a = c.args in
    let p = c.requires in
    let r = c.reach in
    let q = r.new.self.place.now in
    let m = r.new.self.members.now in
    let g = r.ensures.reached.0.gathered in
    let d = c.clear in
    record {
      made = work-completed a.job.now a.index.now a.table.now p.ready r.new.self.kept q m r.ensures.reached.0 a.w a.n p.n_bound.0 r.ensures.reached.1 c.chosen.ensures (ap word_of c.in_default.is) c.all_owned.ensures c.if-all_owned.true p.n_bound.1 c.complete.ensures;
      keeps = subst⁻¹ (λ (x : Kept). Keeps (job_of a.job.now) c.complete.new.table x d.new.self.place.now d.new.self.members.now) d.ensures.kept
          (nothing-keeps _ _ _ _ d.ensures.zeros g.few (d.ensures.room.0 ∙ g.long) (omega (arith, g.wide, ap length d.ensures.room.1)));
    }

pub returns-clause-done : goal.returns-clause-done
returns-clause-done c = let a = c.args in
    let p = c.requires in
    let r = c.reach in
    record {
      made = work_idle a.job.now a.index.now a.table.now p.ready r.new.self.kept r.new.self.place.now r.new.self.members.now r.ensures.reached.0 a.w a.n p.n_bound.0 r.ensures.reached.1 c.chosen.ensures (ap word_of c.in_default.is) c.all_owned.ensures c.if-all_owned.false;
      keeps = r.ensures.reached.0;
    }
