-- The answer of the call that admits a job, as a number.
--   Admitted s gs ws x   x is the number of the answer that groups promises of job s and its lists
use Rattle.std.specs.Prelude.{ℕ, List, ◌≡◌}
use Rattle.job.specs.Check.{Check}
use Rattle.codes.specs.Numbers.{of_written}
use Rattle.groups.specs.Groups.{admit_check}
use Rattle.groups.specs.Admission.{Admission}

pub record Admitted (s gs ws : List ℕ) (x : ℕ) : Type 0 where
  pub check : Check
  pub is : check ≡ admit_check s gs ws
  pub admission : Admission s gs ws
  pub number : x ≡ of_written check 0
