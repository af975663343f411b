-- The marks that completion gives, by the values of the part (parts/specs/Part). Assumes nothing.
--   part-places   the words of its claims stand in the table
--   part-few      there are no more of them than claims
--   part-marks    the mark of each value is the one that completion gives
use Prim.Native.Nat.{ℕ, ◌<◌, ◌≤◌}
use mathlib.Core.Path.{◌≡◌, sym, ◌∙◌, ap}
use mathlib.Core.List.{List}
use native.Mathlib.Omega.{arith}
use lib.ListN.{length, get_or}
use Rattle.job.specs.Job.{Job, most_claims}
use Rattle.job.specs.Format.{job_of}
use Rattle.parts.specs.Part.{PartValues}
use Rattle.parts.specs.Written.{Lent}
use Rattle.parts.proofs.Sizes.{fewer-claims}
use Rattle.table.specs.Layout.{mark_of_value}
use Rattle.table.proofs.Sizes.{sizes}
use Rattle.turn.specs.Turn.{completed_mark}
use Rattle.turn.specs.KeptSet.{Places}
use Rattle.turn.proofs.Gathering.{seen_low}
use Rattle.turn.proofs.Worklist.{some-place}

pub part-places : {s index t place ms : List ℕ} → Lent s index t place ms → Places t ms (length ms)
part-places {s} {index} {t} {place} {ms} p =
    let low : (i : ℕ) → i < length ms → get_or ms i 0 < length place =
    λ i l. seen_low place (get_or ms i 0) (some-place place (get_or ms i 0) (omega (arith, p.numbered.placed i l))) in
    record {
      many = omega arith;
      few = λ i l. omega (arith, low i l, p.long, p.job.sized.claims_most);
      words = λ i l. omega (arith, low i l, p.long, p.table.room, (sizes s).claims_are);
    }

pub part-marks : {j : Job} {t ms vs : List ℕ} → PartValues j t ms vs → (i : ℕ) → i < length ms → completed_mark j t (get_or ms i 0) ≡ mark_of_value (get_or vs i 0)
unfolding completed_mark
part-marks v i l = sym (ap (λ (x : ℕ). mark_of_value x) (v.at i l))

-- there are no more of them than claims
pub part-few : {s index t place ms : List ℕ} → Lent s index t place ms → length ms ≤ most_claims
part-few {s} {index} {t} {place} {ms} p = omega (arith, fewer-claims (job_of s) t place ms p.numbered (p.long ∙ sym (sizes s).claims_are), (sizes s).claims_are, p.job.sized.claims_most)
