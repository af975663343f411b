use mathlib.Core.Path.{◌≡◌, ◌∙◌, ap}
use native.Mathlib.Omega.{arith}
use lib.ListN.{length, length-replicate}
use Rattle.job.specs.Format.{job_of}
use Rattle.table.specs.Layout.{used}
use Rattle.listing.proofs.Page.{listed_by}
use Rattle.listing.proofs.list.list_on.Goals as goal

pub play-counts-requires : goal.play-counts-requires
play-counts-requires c = let p = c.requires in
    let z : length c.args.table.now ≡ used (job_of c.args.job.now) = ap length p.zeros ∙ length-replicate _ 0 in record { named = p.named; named_len_bound = p.short; job_in_bounds = omega (arith, z) }

pub put_text-requires : goal.put_text-requires
put_text-requires c = let p = c.requires in
    let z : length c.args.table.now ≡ used (job_of c.args.job.now) = ap length p.zeros ∙ length-replicate _ 0 in record { room = omega (arith, z); fits = p.fits }

pub returns : goal.returns
returns c = listed_by (job_of c.args.job.now) c.args.named.now c.requires.zeros c.play-counts.ensures.value c.play-counts.ensures.table_after c.put_text.ensures
