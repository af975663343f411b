-- Of an admitted job: what another group's rules can't change (specs/Admission: Apart), and all that the call promises. Assumes nothing.
--   asked_permitted   a worker's question k may be put
--   apart, admission  the theorems
use Prim.Native.Nat.{ℕ, ◌<◌}
use mathlib.Core.Path.{◌≡◌, sym, ◌∙◌, ap, subst, subst⁻¹}
use mathlib.Core.List.{List}
use native.Mathlib.Omega.{arith}
use lib.ListN.{length, get_or}
use Rattle.base.specs.Graph.{here}
use Rattle.job.specs.Format.{workers, job_of}
use Rattle.job.specs.Checks.{check_job}
use Rattle.job.specs.Check.{Accepted}
use Rattle.job.specs.declared.Question.{Question}
use Rattle.semantics.specs.Model.{byte_of, program_of, verdict}
use Rattle.table.specs.Questions.{positions_of, asked_by, claim_asked, question_claim}
use Rattle.turn.proofs.Places.{question_put}
use Rattle.calls.specs.Lists.{Call, IsAnswered, answer_of}
use Rattle.calls.specs.Promise.{Fresh, history}
use Rattle.calls.proofs.Demands.{promise}
use Rattle.groups.specs.Groups.{MayPut, DifferElsewhere, group_of, admit_check}
use Rattle.groups.specs.Admission.{Apart, Admission}
use Rattle.groups.proofs.Admitting.{exactly, rows-first, may_put}
use Rattle.groups.proofs.Relevant.{same-verdict, still_permitted}
use Rattle.groups.proofs.Worked.{admissions_right}

module _ (s gs ws : List ℕ) (admitted : admit_check s gs ws ≡ Accepted) where
  asked_permitted : (w k : ℕ) → k < length (asked_by (job_of s) w) → MayPut (job_of s) gs (group_of ws w) (question_claim (job_of s) w k)
  asked_permitted w k l =
      let p = question_put (job_of s) w k l in
      subst (MayPut (job_of s) gs (group_of ws w)) p.claim
      (subst (λ (u : ℕ). MayPut (job_of s) gs (group_of ws u) p.question.claim) p.worker (may_put s gs ws admitted p.question p.is))

  module _ (s' : List ℕ) (accepted' : Accepted ≡ check_job s') (w : ℕ) (low : w < workers s) (alike : DifferElsewhere (job_of s) (job_of s') gs (group_of ws w)) where
    low-job : w < (job_of s).workers
    unfolding job_of
    low-job = low

    low' : w < (job_of s').workers
    low' = subst⁻¹ (λ (n : ℕ). w < n) alike.workers low-job

    same_asked : asked_by (job_of s') w ≡ asked_by (job_of s) w
    unfolding asked_by
    same_asked = ap (λ (qs : List Question). positions_of qs 0 w) alike.questions

    same-claim : (k : ℕ) → question_claim (job_of s') w k ≡ question_claim (job_of s) w k
    unfolding question_claim asked_by
    same-claim k = ap (λ (qs : List Question). claim_asked qs (get_or (positions_of qs 0 w) k 0)) alike.questions

    module _ (k : ℕ) (l : k < length (asked_by (job_of s) w)) where
      l' : k < length (asked_by (job_of s') w)
      l' = subst⁻¹ (λ (ps : List ℕ). k < length ps) same_asked l

      same_answer :
          (t t' : List ℕ) → Fresh s t → Fresh s' t' → (xs xs' : List Call) → IsAnswered (history s t xs) w k → IsAnswered (history s' t' xs') w k
          → answer_of (job_of s) (history s t xs) w k ≡ answer_of (job_of s') (history s' t' xs') w k
      same_answer t t' f f' xs xs' y y' =
          let c = question_claim (job_of s) w k in
          let may = asked_permitted w k l in
          (promise s (rows-first s gs ws admitted)).right t f xs w k low-job l y
          ∙ (ap byte_of (sym (same-verdict (job_of s) gs (group_of ws w) (job_of s') alike c may c here))
          ∙ (ap (λ (d : ℕ). byte_of (verdict (program_of (job_of s')) d)) (sym (same-claim k)) ∙ sym ((promise s' accepted').right t' f' xs' w k low' l' y')))

    pub apart : Apart s s' gs ws w
    apart =
        record {
          each = λ t t' f f' xs xs' k l. same_answer k l t t' f f' xs xs';
          verdicts = λ k l. same-verdict (job_of s) gs (group_of ws w) (job_of s') alike (question_claim (job_of s) w k) (asked_permitted w k l);
          permits = λ k l.
              subst⁻¹ (MayPut (job_of s') gs (group_of ws w)) (same-claim k)
              (still_permitted (job_of s) gs (group_of ws w) (job_of s') alike (asked_permitted w k l));
        }

pub admission : (s gs ws : List ℕ) → Admission s gs ws
admission s gs ws =
    record {
      exactly = exactly s gs ws;
      answers = λ a s' a' w low alike t t' f f' xs xs' all all' k l.
          let e' = rows-first s' gs ws a' in
          (apart s gs ws a s' e' w low alike).each t t' f f' xs xs' k l (omega (arith, all w (low-job s gs ws a s' e' w low alike)))
          (omega (arith, all' w (low' s gs ws a s' e' w low alike), l' s gs ws a s' e' w low alike k l));
      apart = λ a s' e. apart s gs ws a s' (sym e);
      worked = admissions_right;
    }
