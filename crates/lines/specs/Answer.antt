-- What a call answers that gives a value where it accepts.
--   check_of r     its check
--   written_of r   how many bytes are written: none where it refuses
--   go_on r f      what comes of the value; the refusal where there is none
use Rattle.std.specs.Prelude.{ℕ, Result, Ok, Err}
use Rattle.job.specs.Check.{Check, Accepted}
use Rattle.job.specs.declared.Refusal.{Refusal}

abbrev pub go_on : {A : Type 0} → Result A Refusal → (A → Check) → Check
go_on (Ok x) f = f x
go_on (Err refusal) f = Err refusal

abbrev pub check_of : {A : Type 0} → Result A Refusal → Check
check_of r = go_on r (λ x. Accepted)

abbrev pub written_of : Result ℕ Refusal → ℕ
written_of (Ok n) = n
written_of (Err refusal) = 0
