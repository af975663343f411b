use native.Mathlib.Omega.{arith}
use Rattle.job.specs.Format.{job_of}
use Rattle.table.proofs.Fitting.{counted, fitting}
use Rattle.table.proofs.checks.claim_fits.Goals as goal

pub mark_at-mark-requires : goal.mark_at-mark-requires
unfolding job_of
mark_at-mark-requires c = omega arith

pub cursor_at-cursor-requires : goal.cursor_at-cursor-requires
unfolding job_of
cursor_at-cursor-requires c = omega arith

pub number_at-number-requires : goal.number_at-number-requires
unfolding job_of
number_at-number-requires c = omega arith

pub returns : goal.returns
unfolding job_of
returns c = fitting _ _ c.args.c c.mark_at-mark.ensures.value c.cursor_at-cursor.ensures.value c.number_at-number.ensures.value c.worker_count.ensures.value (counted _ _ c.args.c c.cursor-all.ensures.accepted c.requires.index c.requires.claim c.cursor-all.ensures.value).1 c.claim_count.ensures.value
