-- The listing of the job of typed lines, with its schedule behind it. Assumes nothing.
use Rattle.job.specs.Encoding.{Valid}
use Rattle.lines.specs.Lines.{Lines, job_from}
use Rattle.listing.proofs.Whole.{whole}
use Rattle.makejob.specs.Lists.{Lists}

pub lists : (l : Lines) → Valid (job_from l) → Lists l
lists l v = record { whole = whole (job_from l) v }
