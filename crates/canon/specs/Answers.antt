-- What the calls answer and write (02, order 7; "Checks: 19 output shorter than the job, last").
--   check_form s n      rows 1 to 8, then 19, for an output of n bytes
--   check_of r          what answer r says of the check: it accepts where the answer is a length
--   Canonical ..        what the call ensures of a job's bytes s and an output that held `before`: its answer r, which is the form's length
--                       or a refusal, and the output o at exit
--   Compared s t r      what the comparing call ensures of its answer r
use Rattle.std.specs.Prelude.{ℕ, ◌<◌, ◌≤◌, ◌≡◌, ◌↔◌, Result, Ok, Err, IsOk, IfOk, OnOk, OnErr, List, ◌++◌, T, ltb, length, drop}
use Rattle.base.specs.Compare.{under}
use Rattle.job.specs.Rows.{◌⨾◌, row}
use Rattle.job.specs.Job.{Job}
use Rattle.job.specs.Checks.{check_job}
use Rattle.job.specs.Encoding.{encode}
use Rattle.job.specs.declared.Refusal.{Refusal}
use Rattle.job.specs.Check.{Check}
use Rattle.job.specs.Check.{Accepted, Refused}
use Rattle.forms.specs.Order.{lex}
use Rattle.forms.specs.Form.{form, form_bytes, earlier as before}
use Rattle.forms.specs.Laws.{OneForm, ByteOrder}
use Rattle.canon.specs.Comparing.{comparison}
use Rattle.std.specs.declared.cmp.Ordering.{Ordering}
use Rattle.std.specs.declared.cmp.Ordering.TheVariants.{Less, Equal, Greater}

-- form output | 19 | shorter than the job | the job's length
unfoldable pub check_form : List ℕ → ℕ → Check
check_form s n = check_job s ⨾ row (under n (length s)) 19 (length s) ⨾ Accepted

abbrev pub check_of : Result ℕ Refusal → Check
check_of (Ok n) = Accepted
check_of (Err refusal) = Err refusal

pub record Canonical (s before : List ℕ) (r : Result ℕ Refusal) (o : List ℕ) : Type 0 where
  pub check : check_of r ≡ check_form s (length before)
  -- which jobs and outputs that refuses: those that the check of a job refuses, as it does, and outputs shorter than the job
  pub first : (number place : ℕ) → check_job s ≡ Refused number place → r ≡ Err (record { number = number; place = place })
  pub short : check_job s ≡ Accepted → length before < length s → r ≡ Err (record { number = 19; place = length s })
  pub exactly : IsOk r ↔ ((check_job s ≡ Accepted) × (length s ≤ length before))
  pub bytes : OnOk r (o ≡ form_bytes s ++ drop (length (form_bytes s)) before)
  pub size : IfOk r (λ n. n ≡ length (form_bytes s))
  pub form : OnOk r (OneForm s)
  pub kept : OnErr r (o ≡ before)

pub record Compared (s t : List ℕ) (r : Ordering) : Type 0 where
  pub value : r ≡ comparison (lex ltb) s t
  pub earlier : (r ≡ Less) ↔ T (lex ltb s t)
  pub equal : (r ≡ Equal) ↔ (s ≡ t)
  pub later : (r ≡ Greater) ↔ T (lex ltb t s)
  pub order : ByteOrder
  -- "Jobs are ordered by these bytes"
  pub jobs : (j k : Job) → s ≡ encode (form j) → t ≡ encode (form k) → (r ≡ Less) ↔ T (before j k)
