-- The header of the form, from the job's counts and those of the rules kept. Assumes nothing.
--   asks-form     its questions are the job's
--   rules-form    its rules are as many as `order` has
--   form_size     the bytes of the form, by these counts
--   header-form   the header of the form, by these counts
use Prim.Native.Nat.{ℕ}
use mathlib.Core.Path.{◌≡◌, refl, sym, ◌∙◌, ap}
use mathlib.Core.List.{List}
use native.Mathlib.Omega.{arith}
use lib.ListN.{length, length-map}
use Rattle.job.specs.Job.{body_count, literal_count}
use Rattle.job.specs.Format.{claims, workers, questions, question_byte, job_of}
use Rattle.job.specs.Encoding.{header_bytes, encode}
use Rattle.job.proofs.Written.{questions_count}
use Rattle.fields.specs.Header.{header_of}
use Rattle.fields.proofs.Heading.{header-job}
use Rattle.forms.specs.Form.{form}
use Rattle.canon.specs.Kept.{line_at, InOrder}
use Rattle.canon.specs.Sizes.{Sizes, sizes_of}
use Rattle.canon.proofs.Handed.{sizes_count}
use Rattle.job.proofs.Questions.{encode_size}

claims-form : (job : List ℕ) → (form (job_of job)).claims ≡ claims job
unfolding form job_of
claims-form job = refl

workers-form : (job : List ℕ) → (form (job_of job)).workers ≡ workers job
unfolding form job_of
workers-form job = refl

pub asks-form : (job : List ℕ) → (form (job_of job)).questions ≡ (job_of job).questions
unfolding form
asks-form job = refl

questions-form : (job : List ℕ) → length (form (job_of job)).questions ≡ questions job
questions-form job = ap length (asks-form job) ∙ questions_count job

pub rules-form : {job order : List ℕ} → InOrder job order → length (form (job_of job)).rules ≡ length order
rules-form {job} {order} o = ap length (sym o.lines) ∙ length-map order (line_at job)

module _ {job sizes order : List ℕ} (z : Sizes job sizes) (o : InOrder job order) where
  literals-form : literal_count (form (job_of job)) ≡ sizes_of sizes order
  literals-form = ap body_count (sym o.lines) ∙ sym (sizes_count z order o.within)

  pub form_size : length (encode (form (job_of job))) ≡ question_byte (length order) (sizes_of sizes order) (questions job)
  form_size = omega (arith, encode_size (form (job_of job)), rules-form o, literals-form, questions-form job)

  pub header-form :
      (a m l t q : ℕ) → a ≡ claims job → m ≡ length order → l ≡ sizes_of sizes order → t ≡ workers job → q ≡ questions job
      → header_of a m l t q ≡ header_bytes (form (job_of job))
  header-form a m l t q ea em el et eq =
      rw (ea, em, el, et, eq, ← claims-form job, ← rules-form o, ← literals-form, ← workers-form job, ← questions-form job) (header-job (form (job_of job)))
