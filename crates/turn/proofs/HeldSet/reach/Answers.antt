use mathlib.Core.Path.{◌≡◌, refl, ◌∙◌, ap, subst⁻¹}
use native.Mathlib.Omega.{arith}
use lib.ListN.{length, get_or}
use Rattle.turn.specs.Gather.{Gathered}
use Rattle.turn.specs.KeptSet.{held}
use Rattle.turn.proofs.Gathering.{job-claims}
use Rattle.turn.proofs.Jobs.{job_ok}
use Rattle.turn.proofs.KeptLaws.{none-there, none-gathered, gathered-keeps}
use Rattle.turn.proofs.Worklist.{placed-no}
use Rattle.turn.proofs.HeldSet.reach.Goals as goal
use Rattle.turn.proofs.HeldSet.reach.Goals.{After-clear}

pub clear-requires : goal.clear-requires
clear-requires c = let g = c.requires.keeps.gathered in
    subst⁻¹ (λ n. Gathered n (held c.args.self.now.kept c.args.self.now.place.now c.args.self.now.members.now)) g.long g

-- the set was emptied
empty : (c : After-clear) → (d : _) → get_or c.clear.new.self.place.now d 0 ≡ 0
empty c = c.clear.ensures.zeros

pub gather-count-requires : goal.gather-count-requires
gather-count-requires c = let k = c.requires.keeps in
    let d = c.clear.ensures.room in
    let zeros = empty (goal.at.gather-count-requires c).After-clear in record { ready = c.requires.ready.0; claim_bound = (c.requires.ready.1, placed-no _ _ (zeros _)); gathered = none-gathered _ zeros k.gathered.few (d.0 ∙ k.gathered.long) (omega (arith, k.gathered.wide, ap length d.1)); leading = λ x y h l. absurd (none-there _ zeros x h) }

pub returns-clause-reached : goal.returns-clause-reached
returns-clause-reached c = let l = c.requires.ready.1 in
    (gathered-keeps _ (job_ok _ c.requires.ready.0.job) _ _ (omega (arith, job-claims c.args.job.now)) (empty (goal.at.returns-clause-reached c).After-clear) c.gather-count.ensures, refl)
