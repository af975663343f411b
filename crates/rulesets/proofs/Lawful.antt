-- The laws of the census. Assumes nothing.
--   laws     specs/Laws: Laws
use Prim.Native.Nat.{ℕ, ◌≤◌}
use mathlib.Core.Path.{◌≡◌, refl, ◌∙◌, ap, subst}
use mathlib.Core.List.{List, map-map}
use lib.ListN.{length}
use Rattle.job.specs.Job.{Job}
use Rattle.job.specs.Encoding.{encode, ◌∈◌}
use Rattle.base.specs.Lists.{upto}
use Rattle.job.specs.declared.Question.{Question}
use Rattle.calls.specs.Promise.{Fresh, alone}
use Rattle.calls.proofs.Demands.{promise}
use Rattle.rulesets.specs.Sets.{Choice, all_sets, IsSet}
use Rattle.rulesets.specs.Jobs.{set_rules, asks, job_of_set}
use Rattle.rulesets.specs.Census.{needed_by, turns_for, census_answer}
use Rattle.rulesets.specs.Laws.{Sizes, Needed, SetJob, Laws}
use Rattle.rulesets.specs.CensusAnswer.{CensusAnswer}
use Rattle.rulesets.proofs.Listed.{enumerated, is_set}
use Rattle.rulesets.proofs.Answering.{answered, answered-only}
use Rattle.rulesets.proofs.Needing.{needed_any}
use Rattle.rulesets.proofs.Saying.{says}
use Rattle.rulesets.proofs.SetJobs.{set-accepted, set_holds}
use Rattle.rulesets.proofs.Worked.{worked}

sizes : Sizes
sizes = record { one = refl; two = refl; three = refl }

module _ (n : ℕ) (few : n ≤ 3) where
  one-worker : (r : List Choice) → (job_of_set r).workers ≡ 1
  unfolding job_of_set
  one-worker r = refl

  set-needed : (r : List Choice) → IsSet n r → (t : List ℕ) → Fresh (encode (job_of_set r)) t → Needed (encode (job_of_set r)) t (turns_for r)
  set-needed r s t room =
      let h = set_holds n few r s in
      subst (λ (j : Job). Needed (encode (job_of_set r)) t (needed_by j)) h
      (needed_any (encode (job_of_set r)) (set-accepted n few r s) (ap (λ (j : Job). j.workers) h ∙ one-worker r) t room)

  set-alone : (r : List Choice) → alone (job_of_set r) ≡ job_of_set r
  unfolding alone job_of_set
  set-alone r =
      ap (λ (qs : List Question). record { claims = length r; workers = 1; rules = set_rules r; questions = qs })
      (map-map (λ (q : Question). record { worker = 0; claim = q.claim }) asks (upto (length r)))

  set-job : (r : List Choice) → r ∈ all_sets n → SetJob r
  set-job r m =
      let s = is_set n r m in
      let e = set-accepted n few r s in
      record { says = says r; accepted = e; holds = set_holds n few r s; alone = set-alone r; needed = set-needed r s; promise = promise (encode (job_of_set r)) e }

pub laws : (n : ℕ) {a : CensusAnswer} → a ≡ census_answer n → Laws n a
laws n e =
    record { answered = answered n e; only = answered-only n e; enumerated = enumerated n; sizes = sizes; jobs = set-job n; worked = worked }
