use mathlib.Core.Path.{sym, ◌∙◌}
use Rattle.listing.proofs.Accepting.{accepted_input, both_parts, parts, refused-by, accepted-by}
use Rattle.listing.proofs.list.list_checked.Goals as goal

pub of_accepted-job-requires : goal.of_accepted-job-requires
of_accepted-job-requires c = let i = c.args.input.now in
    let q = both_parts i c.job_end.ensures.0 c.split_at.ensures.front c.split_at.ensures.back in
    rw q.0 (accepted_input i (sym c.in-Ok.is ∙ c.requires.checked)).good

pub list_accepted-requires : goal.list_accepted-requires
list_accepted-requires c = let i = c.args.input.now in
    let q = both_parts i c.job_end.ensures.0 c.split_at.ensures.front c.split_at.ensures.back in
    let p = parts i (accepted_input i (sym c.in-Ok.is ∙ c.requires.checked)) (c.of_accepted-job.ensures ∙ q.0) q.1 in
    record { named = p.0; short = p.1; fits = c.requires.fits }

pub returns-in-Err : goal.returns-in-Err
returns-in-Err c = refused-by c.args.input.now c.in-Err.is c.put_refusal.ensures

pub returns-in-Ok : goal.returns-in-Ok
returns-in-Ok c = let q = both_parts c.args.input.now c.job_end.ensures.0 c.split_at.ensures.front c.split_at.ensures.back in
    accepted-by c.args.input.now c.in-Ok.is (c.of_accepted-job.ensures ∙ q.0) q.1 c.list_accepted.ensures
