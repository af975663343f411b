-- The check, and where it accepts, the form written.
use mathlib.Core.Path.{ap}
use native.Mathlib.Omega.{arith}
use Rattle.job.proofs.Rows.{returned}
use Rattle.writing.proofs.Wrote.{put_as}
use Rattle.forms.specs.Form.{form_bytes}
use Rattle.canon.proofs.Answered.{form_accepts, canonical-written, canonical_refused}
use Rattle.canon.proofs.canonical.canonical.Goals as goal

pub returns-in_err-check_form : goal.returns-in_err-check_form
returns-in_err-check_form c = rw (returned _ c.from_residual.ensures.1) (record { canonical = canonical_refused c.in_err-check_form.ensures; within = tt })

pub of_accepted-job-requires : goal.of_accepted-job-requires
of_accepted-job-requires c = (form_accepts _ _ c.in_ok-check_form.ensures).0

pub write_form-requires : goal.write_form-requires
write_form-requires c = rw c.of_accepted-job.ensures (form_accepts _ _ c.in_ok-check_form.ensures).1

pub returns : goal.returns
returns c = let p = put_as c.write_form.ensures (ap form_bytes c.of_accepted-job.ensures) in
    record { canonical = canonical-written c.in_ok-check_form.ensures p; within = omega (arith, p.next, (form_accepts _ _ c.in_ok-check_form.ensures).1, c.write_form.auto.out) }
