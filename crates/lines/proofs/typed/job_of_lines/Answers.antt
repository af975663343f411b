-- : refused by a row, or the job written.
use mathlib.Core.Path.{refl}
use Rattle.job.proofs.Rows.{returned}
use Rattle.lines.proofs.Typing.{readable, typing_refused, typing-made, length_most}
use Rattle.lines.proofs.typed.job_of_lines.Goals as goal

pub returns-in_err-tally : goal.returns-in_err-tally
returns-in_err-tally c =
    rw (returned _ c.from_residual.ensures.1) (record { typing = typing_refused _ _ _ _ _ c.in_err-tally.ensures.check refl; fits = tt })

pub put_job-requires : goal.put_job-requires
put_job-requires c = readable _ _ _ c.in_ok-tally.ensures.check _ refl c.in_ok-tally.ensures.tally

pub returns : goal.returns
returns c = let a = c.in_ok-tally.ensures in
    record {
      typing = typing-made _ _ _ _ _ a.check refl c.put_job.ensures;
      fits = length_most _ _ _ _ _ a.check refl c.put_job.ensures c.in_ok-tally.tally (readable _ _ _ a.check _ refl a.tally);
    }
