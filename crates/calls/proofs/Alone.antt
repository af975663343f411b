-- One worker asking everything: the same job with one worker is accepted, its turns answer all, and its answers are by position. Assumes nothing.
--   alone-accepted, alone-answers, on-answers   the clauses alone_accepted, alone_answers and answers of Promise
use mathlib.Core.Path.{◌≡◌, refl, sym, ◌∙◌, ap, subst}
use mathlib.Core.Logic.{⊎_elim}
use mathlib.Core.List.Memᴰ
use mathlib.Core.List.{List, [], ◌∷◌, map, Memᴰ}
use Prim.Native.Nat.{ℕ, zero, suc, ◌+◌, ◌≤◌, ◌<◌}
use native.Mathlib.Omega.{arith}
use lib.ListN.{length, get_or, length-map}
use Rattle.base.specs.Choose.{pick}
use Rattle.base.proofs.Compare.{not_below-no}
use Rattle.job.specs.Job.{Job}
use Rattle.job.specs.Format.{job_of}
use Rattle.job.specs.Encoding.{encode, ◌∈◌, Valid}
use Rattle.job.specs.Checks.{check_job}
use Rattle.job.specs.Check.{Check}
use Rattle.job.specs.Check.{Accepted}
use Rattle.job.specs.declared.Question.{Question}
use Rattle.job.proofs.Rows.{join, pass}
use Rattle.job.proofs.Accepted.{accepted}
use Rattle.job.proofs.Encoding.{decoded, encoded_well_formed}
use Rattle.semantics.specs.Model.{byte_of}
use Rattle.table.specs.Questions.{positions_of, asked_by, claim_asked, question_claim}
use Rattle.table.specs.Start.{start_words}
use Rattle.table.proofs.Ranges.{accepts}
use Rattle.waiting.specs.Runs.{Rounds, none, round}
use Rattle.calls.specs.Calls.{check_turn_worker, turn_check}
use Rattle.calls.specs.Lists.{Call, turning, left, unless, made, turns_of, IsAnswered, answer_of, AllAnswered}
use Rattle.calls.specs.Promise.{Fresh, history, alone, turns, bound}
use Rattle.turn.proofs.Places.{place-low}
use Rattle.steps.proofs.Verdicts.{verdict_in}
use Rattle.steps.proofs.Runs.{Made, made-start, made-run}
use Rattle.calls.proofs.Histories.{left-made, made-low}
use Rattle.calls.proofs.OnLists.{valid, ok, started, on_rounds, answer_is}

-- the questions of one worker
abbrev by_zero : Question → Question
by_zero q = record { worker = 0; claim = q.claim }

zero_all : (A : ℕ) (qs : List Question) → ((q : Question) → q ∈ qs → q.claim < A) → (q : Question) → q ∈ map by_zero qs → (q.worker < 1) × (q.claim < A)
zero_all A [] f q i = absurd (Memᴰ.not-nil i)
zero_all A (x ∷ qs) f q i =
    ⊎_elim (λ e. (omega (arith, ap (λ (y : Question). y.worker) e), omega (arith, ap (λ (y : Question). y.claim) e, f x (Memᴰ.head refl))))
    (zero_all A qs (λ r m. f r (Memᴰ.tail m)) q) (Memᴰ.cases_cons i)

zero_count : (qs : List Question) (k : ℕ) → length (positions_of (map by_zero qs) k 0) ≡ length qs
unfolding positions_of pick
zero_count [] k = refl
zero_count (q ∷ qs) k = ap suc (zero_count qs (suc k))

zero-place : (qs : List Question) (k p : ℕ) → p < length qs → get_or (positions_of (map by_zero qs) k 0) p 0 ≡ k + p
unfolding positions_of pick
zero-place [] k p h = absurd (omega arith)
zero-place (q ∷ qs) k zero h = omega arith
zero-place (q ∷ qs) k (suc p) h = omega (arith, zero-place qs (suc k) p (omega arith))

zero-claim : (qs : List Question) (p : ℕ) → claim_asked (map by_zero qs) p ≡ claim_asked qs p
unfolding claim_asked
zero-claim [] p = refl
zero-claim (q ∷ qs) zero = refl
zero-claim (q ∷ qs) (suc p) = zero-claim qs p

module _ (j : Job) where
  alone_count : length (asked_by (alone j) 0) ≡ length j.questions
  unfolding asked_by alone
  alone_count = zero_count j.questions 0

  alone-claim : (p : ℕ) → p < length j.questions → question_claim (alone j) 0 p ≡ claim_asked j.questions p
  unfolding question_claim asked_by alone
  alone-claim p h =
      ap (claim_asked (map by_zero j.questions)) (omega (arith, zero-place j.questions 0 p h)) ∙ zero-claim j.questions p

  alone-verdict : (c : ℕ) → byte_of (verdict_in (alone j) c) ≡ byte_of (verdict_in j c)
  unfolding alone
  alone-verdict c = refl

  alone-workers : (alone j).workers ≡ 1
  unfolding alone
  alone-workers = refl

  alone-bound : bound (alone j) ≡ bound j
  unfolding alone
  alone-bound = omega (arith, length-map j.questions by_zero)

  alone-valid : Valid j → Valid (alone j)
  unfolding alone
  alone-valid v =
      record {
        claims_most = v.claims_most;
        rules_most = v.rules_most;
        literals_most = v.literals_most;
        workers_least = omega arith;
        workers_most = omega arith;
        questions_most = omega (arith, v.questions_most, length-map j.questions by_zero);
        heads_rise = v.heads_rise;
        heads = v.heads;
        missing = v.missing;
        literals = v.literals;
        askers = λ q i. (zero_all j.claims j.questions v.asked q i).0;
        asked = λ q i. (zero_all j.claims j.questions v.asked q i).1;
      }

-- turns of one worker, each accepted and a round
module _ (s : List ℕ) (e : Accepted ≡ check_job s) (one : (job_of s).workers ≡ 1) where
  zero-check : (t : List ℕ) → Made (job_of s) t → Accepted ≡ turn_check s t 0
  unfolding turn_check check_turn_worker job_of
  zero-check t M =
      join _ _ e (join _ _ (accepts (job_of s) t (M.range, M.newests)) (pass _ _ _ _ (not_below-no _ _ (omega (arith, one))) refl))

  zero-made : (t : List ℕ) → Made (job_of s) t → (w : ℕ) → w < (job_of s).workers → Memᴰ w (made s t (turning 0))
  unfolding made unless
  zero-made t M w h =
      subst (λ (k : Check). Memᴰ w (unless k (0 ∷ []))) (zero-check t M) (Memᴰ.head (omega (arith, one)))

  zero_rounds : (b n : ℕ) → b ≤ n → (t : List ℕ) → Made (job_of s) t → Rounds (job_of s).workers b (turns_of s t (turns n))
  unfolding turns_of turns
  zero_rounds zero n l t M = none
  zero_rounds (suc b) zero l t M = absurd (omega arith)
  zero_rounds (suc b) (suc n) l t M =
      round (made s t (turning 0)) (zero-made t M)
      (zero_rounds b n (omega arith) (left s t (turning 0))
      (subst (Made (job_of s)) (sym (left-made s t (turning 0))) (made-run (job_of s) (ok s e) (made s t (turning 0)) t M (made-low s t (turning 0)))))

module _ (s : List ℕ) (e : Accepted ≡ check_job s) where
  abbrev a : List ℕ
  a = encode (alone (job_of s))

  alone_is : job_of (encode (alone (job_of s))) ≡ alone (job_of s)
  alone_is = decoded (alone (job_of s)) (alone-valid (job_of s) (valid s e))

  pub alone-accepted : Accepted ≡ check_job (encode (alone (job_of s)))
  alone-accepted = accepted a (encoded_well_formed (alone (job_of s)) (alone-valid (job_of s) (valid s e)))

  pub alone-answers : (u : List ℕ) → Fresh (encode (alone (job_of s))) u → (n : ℕ) → bound (job_of s) ≤ n → AllAnswered (alone (job_of s)) (history (encode (alone (job_of s))) u (turns n))
  alone-answers u room n l =
      subst (λ (i : Job). AllAnswered i (history a u (turns n))) alone_is
      (on_rounds a alone-accepted u room (turns n)
      (zero_rounds a alone-accepted (ap (λ (i : Job). i.workers) alone_is ∙ alone-workers (job_of s)) (bound (job_of a)) n (omega (arith, ap bound alone_is, alone-bound (job_of s))) (start_words (job_of a) u) (made-start (started a alone-accepted u room (turns n)))))

  -- the answer of the question at position p
  alone-answer : (u : List ℕ) → Fresh (encode (alone (job_of s))) u → (n : ℕ) → AllAnswered (alone (job_of s)) (history (encode (alone (job_of s))) u (turns n)) → (p : ℕ) → p < length (job_of s).questions → answer_of (alone (job_of s)) (history (encode (alone (job_of s))) u (turns n)) 0 p ≡ byte_of (verdict_in (job_of s) (claim_asked (job_of s).questions p))
  alone-answer u room n all p h =
      subst (λ (i : Job). answer_of i (history a u (turns n)) 0 p ≡ byte_of (verdict_in i (question_claim i 0 p))) alone_is
      (answer_is a alone-accepted u room (turns n) 0 p (omega (arith, ap (λ (i : Job). i.workers) alone_is, alone-workers (job_of s)))
      (omega (arith, all 0 (omega (arith, alone-workers (job_of s))), alone_count (job_of s))))
      ∙ alone-verdict (job_of s) (question_claim (alone (job_of s)) 0 p)
      ∙ ap (λ (c : ℕ). byte_of (verdict_in (job_of s) c)) (alone-claim (job_of s) p h)

  pub on-answers : (t u : List ℕ) → Fresh s t → Fresh (encode (alone (job_of s))) u → (xs : List Call) (w k : ℕ) → w < (job_of s).workers → k < length (asked_by (job_of s) w) → IsAnswered (history s t xs) w k → (n : ℕ) → AllAnswered (alone (job_of s)) (history (encode (alone (job_of s))) u (turns n)) → answer_of (job_of s) (history s t xs) w k ≡ answer_of (alone (job_of s)) (history (encode (alone (job_of s))) u (turns n)) 0 (get_or (asked_by (job_of s) w) k 0)
  unfolding question_claim
  on-answers t u room room' xs w k h l y n all =
      answer_is s e t room xs w k h y ∙ sym (alone-answer u room' n all (get_or (asked_by (job_of s) w) k 0) (place-low (job_of s) w k l))
