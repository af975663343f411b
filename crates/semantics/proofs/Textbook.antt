-- The textbook's wording and the verdicts of a valid job (specs/Textbook: Textbook). Assumes nothing.
use Prim.Native.Nat.{ℕ}
use mathlib.Core.Path.{sym, ◌∙◌}
use mathlib.Core.List.{List}
use Rattle.job.specs.Job.{Job}
use Rattle.job.specs.Encoding.{Valid}
use Rattle.job.specs.Format.{job_of}
use Rattle.job.specs.Accepted.{WellFormed}
use Rattle.job.proofs.Valid.{well_formed-valid}
use Rattle.semantics.specs.Model.{program_of}
use Rattle.semantics.specs.Missing.{extended, as_written}
use Rattle.semantics.specs.Textbook.{Textbook}
use Rattle.semantics.proofs.Extended.{extension}
use Rattle.semantics.proofs.Same.{both_wordings}
use Rattle.semantics.proofs.Undefined.{not_undefined}

pub textbook : (j : Job) → Valid j → Textbook j
textbook j v =
    let written = both_wordings (as_written (extended j)) in
    record {
      own = both_wordings (program_of j);
      written = written;
      same = λ c l. written.same_verdicts.same_verdict c ∙ sym ((extension j v).same c l);
      not_undefined = not_undefined j;
    }

-- of the job of accepted bytes
pub textbook_of : (s : List ℕ) → WellFormed s → Textbook (job_of s)
textbook_of s w = textbook (job_of s) (well_formed-valid s w)
