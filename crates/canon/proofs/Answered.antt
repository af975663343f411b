-- What the call that writes a form ensures (specs/Answers: Canonical). Assumes nothing.
--   form_accepts         what the writing of a form needs of an accepted call
--   refused_first, refused-short   what the check answers of a job that is refused, and of a short output
--   canonical-written    a form was written
--   canonical_refused    the check refused, and nothing was written
use Prim.Native.Nat.{ℕ, ◌+◌, ◌≤◌, ◌<◌}
use mathlib.Core.Path.{◌≡◌, refl, sym, ◌∙◌, ap}
use mathlib.Core.Bool.{Bool}
use mathlib.Core.List.{List, ◌++◌}
use native.Mathlib.Omega.{arith}
use lib.ListN.{length, drop}
use Rattle.std.specs.Prelude.{Result, Ok, Err}
use Rattle.base.specs.Compare.{under}
use Rattle.base.proofs.Compare.{under-yes, under-no, under_le}
use Rattle.writing.specs.Written.{wrote, Put}
use Rattle.job.specs.Rows.{◌⨾◌, row}
use Rattle.job.specs.Accepted.{WellFormed}
use Rattle.job.specs.Checks.{check_job}
use Rattle.job.specs.declared.Refusal.{Refusal}
use Rattle.job.specs.Check.{Check}
use Rattle.job.specs.Check.{Accepted, Refused}
use Rattle.job.proofs.Accepted.{well_formed}
use Rattle.job.proofs.Rows.{both, join, pass, row-no}
use Rattle.forms.specs.Form.{form_bytes}
use Rattle.forms.proofs.Laws.{one_form}
use Rattle.canon.specs.Answers.{check_form, Canonical}

module _ (s : List ℕ) (n : ℕ) where
  accepts : Accepted ≡ check_form s n → (Accepted ≡ check_job s) × (length s ≤ n)
  unfolding check_form
  accepts e =
      let h = both (check_job s) (row (under n (length s)) 19 (length s) ⨾ Accepted) e in
      (h.0, under_le n (length s) (row-no _ _ _ (both (row (under n (length s)) 19 (length s)) Accepted h.1).0))

  accepted-by : Accepted ≡ check_job s → length s ≤ n → Accepted ≡ check_form s n
  unfolding check_form
  accepted-by e h = join _ _ e (pass _ _ _ _ (under-no n (length s) h) refl)

  pub form_accepts : Accepted ≡ check_form s n → WellFormed s × (length (form_bytes s) ≤ n)
  form_accepts e = let h = accepts e in (well_formed s h.0, omega (arith, (one_form s h.0).shorter, h.1))

  pub refused_first : (number place : ℕ) → check_job s ≡ Refused number place → check_form s n ≡ Refused number place
  unfolding check_form ◌⨾◌
  refused_first number place r = ap (λ (d : Check). d ⨾ (row (under n (length s)) 19 (length s) ⨾ Accepted)) r

  pub refused-short : check_job s ≡ Accepted → n < length s → check_form s n ≡ Refused 19 (length s)
  unfolding check_form ◌⨾◌ row
  refused-short a h =
      ap (λ (d : Check). d ⨾ (row (under n (length s)) 19 (length s) ⨾ Accepted)) a
      ∙ ap (λ (b : Bool). row b 19 (length s) ⨾ Accepted) (under-yes n (length s) h)

-- two refusals of checks that are one, as answers of the call
one-refusal : {e d : Refusal} {c : Check} → Err e ≡ c → c ≡ Err d → ◌≡◌ {A = Result ℕ Refusal} (Err e) (Err d)
one-refusal {e} {d} p q = let r : e ≡ d = cc in ap Err r

module _ {s before : List ℕ} where
  pub canonical-written : Accepted ≡ check_form s (length before) → {o : List ℕ} {n : ℕ} → Put before 0 (form_bytes s) o n → Canonical s before (Ok n) o
  unfolding wrote
  canonical-written e {o} {n} p =
      let h = accepts s (length before) e in
      record {
        check = e;
        first = λ number place r. absurd (cc);
        short = λ a l. absurd (omega (arith, h.1));
        exactly = (λ a. (sym h.0, h.1), λ a. refl);
        bytes = p.bytes ∙ ap (λ (k : ℕ). form_bytes s ++ drop k before) (start (length (form_bytes s)));
        size = omega (arith, p.next);
        form = one_form s h.0;
        kept = tt;
      }
    where
      start : (k : ℕ) → 0 + k ≡ k
      start k = omega arith

  pub canonical_refused : {e : Refusal} → Err e ≡ check_form s (length before) → Canonical s before (Err e) before
  canonical_refused {e} q =
      record {
        check = q;
        first = λ number place r. one-refusal q (refused_first s (length before) number place r);
        short = λ a l. one-refusal q (refused-short s (length before) a l);
        exactly = (λ a. absurd (cc), λ h. absurd (let a : Accepted ≡ check_form s (length before) = accepted-by s (length before) (sym h.0) h.1 in cc));
        bytes = tt;
        size = tt;
        form = tt;
        kept = refl;
      }
