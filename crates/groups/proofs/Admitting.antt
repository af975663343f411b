-- The rows of the call, and what they mean (specs/Admission: Answer). Assumes nothing.
--   list-row, list-long                          row 20 of one list, by its length
--   lists-right, claims-wrong, workers-wrong     row 20, by the lengths
--   admit_first, admit-lists, admit-questions    the rows in order
--   answered, answer-of                          the call's answer is as the order says, and back
--   may_put                                      what an admitted job's workers may put
use Prim.Native.Nat.{ℕ, ◌<◌}
use mathlib.Core.Path.{◌≡◌, refl, sym, subst}
use mathlib.Core.Bool.{true, false}
use mathlib.Core.List.{List}
use mathlib.Core.Logic.{◌↔◌, by_cases}
use native.Mathlib.Decide.{ℕ_discrete}
use native.Mathlib.Omega.{arith}
use lib.ListN.{length}
use Rattle.base.proofs.Bools.{is, is_true}
use Rattle.base.proofs.Choose.{t?}
use Rattle.base.specs.Compare.{differs}
use Rattle.base.proofs.Compare.{differs-yes, differs-no, differs_eq}
use Rattle.base.proofs.Members.{span_all}
use Rattle.base.proofs.Search.{First, first, none, first_of}
use Rattle.job.specs.Accepted.{WellFormed}
use Rattle.job.specs.Encoding.{◌∈◌, Valid}
use Rattle.job.specs.Format.{claims, rules, literals, workers, questions, question_byte, job_of}
use Rattle.job.specs.Checks.{check_job}
use Rattle.job.specs.Check.{Check}
use Rattle.job.specs.Check.{Accepted, Refused}
use Rattle.std.specs.Prelude.{Err}
use Rattle.job.specs.declared.Question.{Question}
use Rattle.job.proofs.Accepted.{well_formed}
use Rattle.job.specs.Rows.{row}
use Rattle.job.proofs.Rows.{pass, stop, go, halt, row-no, scan_none, scan_at}
use Rattle.job.proofs.Valid.{well_formed-valid}
use Rattle.groups.specs.Groups.{MayPut, foreign, group_of, asked, asker_group, bad_question, check_lists, check_partners, admit_check}
use Rattle.groups.specs.Admission.{Permitted, LeadsAbroad, Answer, first as rows_first, claims_list, workers_list, question, admitted}
use Rattle.groups.proofs.Foreign.{foreign_open, open-foreign}
use Rattle.groups.proofs.Abroad.{abroad-to, to-abroad, permitted, not-abroad}

-- row 20 of a list that is to have as many bytes as was read
pub list-row : (list : List ℕ) (n m : ℕ) {r : Check} → r ≡ row (differs (length list) n) 20 (length list) → n ≡ m → r ≡ row (differs (length list) m) 20 (length list)
list-row list n m h e = rw (← e) h

pub list-long : (list : List ℕ) (n : ℕ) → Accepted ≡ row (differs (length list) n) 20 (length list) → length list ≡ n
list-long list n e = differs_eq _ _ (row-no _ _ _ e)

module _ (s gs ws : List ℕ) where
  lists-right : length gs ≡ claims s → length ws ≡ workers s → Accepted ≡ check_lists s gs ws
  unfolding check_lists
  lists-right a b = pass _ _ _ _ (differs-no _ _ a) (pass _ _ _ _ (differs-no _ _ b) refl)

  pub claims-wrong : (length gs ≡ claims s → ⊥) → Refused 20 (length gs) ≡ check_lists s gs ws
  unfolding check_lists
  claims-wrong n = stop _ _ _ _ (differs-yes _ _ n)

  pub workers-wrong : length gs ≡ claims s → (length ws ≡ workers s → ⊥) → Refused 20 (length ws) ≡ check_lists s gs ws
  unfolding check_lists
  workers-wrong a n = pass _ _ _ _ (differs-no _ _ a) (stop _ _ _ _ (differs-yes _ _ n))

  -- the rows in order
  pub admit_first : {r : Check} {n p : ℕ} → r ≡ Refused n p → r ≡ check_job s → r ≡ admit_check s gs ws
  unfolding admit_check
  admit_first q h = halt _ _ q h

  pub admit-lists : {r : Check} {n p : ℕ} → Accepted ≡ check_job s → r ≡ Refused n p → r ≡ check_lists s gs ws → r ≡ admit_check s gs ws
  unfolding admit_check
  admit-lists e q h = go _ _ refl e (halt _ _ q h)

  pub admit-questions : {r : Check} → Accepted ≡ check_job s → length gs ≡ claims s → length ws ≡ workers s → r ≡ check_partners s gs ws → r ≡ admit_check s gs ws
  unfolding admit_check
  admit-questions e a b h = go _ _ refl e (go _ _ refl (lists-right a b) h)

  -- a question of an accepted job, as a test and in the order's words
  module _ (e : Accepted ≡ check_job s) where
    good : WellFormed s
    good = well_formed s e

    valid : Valid (job_of s)
    valid = well_formed-valid s good

    claim-low : (q : ℕ) → q < questions s → (asked s q).claim < (job_of s).claims
    unfolding job_of
    claim-low q l = good.asked q l

    not_bad : (q : ℕ) → Permitted s gs ws q → bad_question s gs ws q ≡ false
    not_bad q p = not-abroad (job_of s) valid gs _ _ p

    may_ask : (q : ℕ) → q < questions s → bad_question s gs ws q ≡ false → Permitted s gs ws q
    may_ask q l n = permitted (job_of s) valid gs _ _ (claim-low q l) n

    bad-leads : (q : ℕ) → bad_question s gs ws q ≡ true → LeadsAbroad s gs ws q
    bad-leads q b =
        let way = abroad-to (job_of s) valid gs _ _ (is _ b) in
        record { to = way.to; leads = way.leads; foreign = λ o. open-foreign gs _ _ o way.foreign }

    is-bad : (q : ℕ) → q < questions s → LeadsAbroad s gs ws q → bad_question s gs ws q ≡ true
    is-bad q l x =
        is_true _
        (by_cases (t? (foreign gs (asker_group s ws q) x.to)) (λ t. to-abroad (job_of s) valid gs _ x.leads t (claim-low q l))
        (λ n. absurd (x.foreign (foreign_open gs _ _ n))))

  answer-of : {r : Check} → Answer s gs ws r → r ≡ admit_check s gs ws
  unfolding check_partners
  answer-of (rows_first n p e) = admit_first refl (sym e)
  answer-of (claims_list e n) = admit-lists (sym e) refl (claims-wrong n)
  answer-of (workers_list e a n) = admit-lists (sym e) refl (workers-wrong a n)
  answer-of (question e a b q l before x) =
      admit-questions (sym e) a b
      (scan_at (bad_question s gs ws) (questions s) q 21 (question_byte (rules s) (literals s)) l (λ k h. not_bad (sym e) k (before k h)) (is-bad (sym e) q l x))
  answer-of (admitted e a b may) = admit-questions (sym e) a b (scan_none _ _ _ _ (λ q l. not_bad (sym e) q (may q l)))

  -- of an accepted job and lists of the right length
  by-question : check_job s ≡ Accepted → length gs ≡ claims s → length ws ≡ workers s → First (bad_question s gs ws) (questions s) → (r : Check) × Answer s gs ws r
  by-question e a b (first q l before bad) =
      (Refused 21 (question_byte (rules s) (literals s) q), question e a b q l (λ k h. may_ask (sym e) k (omega arith) (before k h)) (bad-leads (sym e) q bad))
  by-question e a b (none f) = (Accepted, admitted e a b (λ q l. may_ask (sym e) q l (f q l)))

  -- one of the answers is given
  given : (c : Check) → check_job s ≡ c → (r : Check) × Answer s gs ws r
  given (Err refusal) e = (Err refusal, rows_first refusal.number refusal.place e)
  given Accepted e =
      by_cases (ℕ_discrete (length gs) (claims s))
      (λ a.
      by_cases (ℕ_discrete (length ws) (workers s)) (λ b. by-question e a b (first_of (bad_question s gs ws) (questions s)))
      (λ n. (Refused 20 (length ws), workers_list e a n)))
      (λ n. (Refused 20 (length gs), claims_list e n))

  answered : Answer s gs ws (admit_check s gs ws)
  answered = let x = given (check_job s) refl in subst (Answer s gs ws) (answer-of x.1) x.1

  pub exactly : (r : Check) → (admit_check s gs ws ≡ r) ↔ Answer s gs ws r
  exactly r = (λ e. subst (Answer s gs ws) e answered, λ x. sym (answer-of x))

  -- what an admitted job's workers may put
  pub rows-first : admit_check s gs ws ≡ Accepted → Accepted ≡ check_job s
  rows-first e = on ((exactly Accepted).0 e)
    where
      on : Answer s gs ws Accepted → Accepted ≡ check_job s
      on (admitted e a b may) = sym e

  pub may_put : admit_check s gs ws ≡ Accepted → (x : Question) → x ∈ (job_of s).questions → MayPut (job_of s) gs (group_of ws x.worker) x.claim
  unfolding job_of
  may_put e = on ((exactly Accepted).0 e)
    where
      on : Answer s gs ws Accepted → (x : Question) → x ∈ (job_of s).questions → MayPut (job_of s) gs (group_of ws x.worker) x.claim
      on (admitted e a b may) = span_all (λ x. MayPut (job_of s) gs (group_of ws x.worker) x.claim) (asked s) 0 (questions s) (λ q l h. may q (omega arith))
