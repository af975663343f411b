-- The header of a job, from the counts of its lines. Assumes nothing.
use mathlib.Core.Path.{◌≡◌, ◌∙◌}
use Rattle.fields.proofs.Heading.{header-job}
use Rattle.job.specs.Encoding.{header_bytes}
use Rattle.lines.specs.Lines.{Lines, typed, job_from}
use Rattle.lines.specs.Placing.{header_by}
use Rattle.lines.proofs.Numbered.{sizes}
use Rattle.lines.proofs.Sorted.{Below, sorted-length, sorted-bodies}
use Rattle.lines.proofs.Validity.{typed_size}

pub header-lines : (l : Lines) → Below l.claims (typed l) → header_by (sizes l) ≡ header_bytes (job_from l)
header-lines l b =
    let m = sorted-length l.claims (typed l) b ∙ typed_size l in
    let n = sorted-bodies l.claims (typed l) b in
    rw (← m, ← n) (header-job (job_from l))
