use native.Mathlib.Omega.{arith}
use Rattle.job.specs.Format.{job_of}
use Rattle.table.proofs.Marks.{mark-worker, mark_between, mark-past}
use Rattle.table.proofs.checks.is_bad_mark.Goals as goal

pub returns-then-mark-worker_count : goal.returns-then-mark-worker_count
unfolding job_of
returns-then-mark-worker_count c = mark-worker _ _ (omega arith)

pub returns-then-mark-lt-TRUE_MARK : goal.returns-then-mark-lt-TRUE_MARK
unfolding job_of
returns-then-mark-lt-TRUE_MARK c = mark_between _ _ (omega arith) (omega arith)

pub returns : goal.returns
unfolding job_of
returns c = mark-past _ _ (omega arith) (omega arith)
