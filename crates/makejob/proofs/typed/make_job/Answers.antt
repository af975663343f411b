-- : an accepted job is listed.
use Rattle.makejob.proofs.Listing.{lists}
use Rattle.makejob.proofs.typed.make_job.Goals as goal

pub returns-clause-lists : goal.returns-clause-lists
returns-clause-lists c = λ l e ok. lists l ((c.job_of_lines.ensures.typing.made l e).valid ok)
