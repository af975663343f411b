-- What a call gives by its checks, and what its answer says of them. Assumes nothing.
--   goes_on, stops_at           F of the whole check, once its first part has answered
--   answered_on, answered_at    the same of an answer
--   answered-ok, answered-err   the check of an answer
--   ran-stop, -stop_then, _then, -made   a run
--   start-good, schedule-low    what accepted rows say
use Prim.Native.Nat.{ℕ, ◌≤◌}
use mathlib.Core.Path.{◌≡◌, refl, sym, ◌∙◌, ap}
use native.Mathlib.Omega.{arith}
use mathlib.Core.List.{List}
use lib.ListN.{length, get_or}
use Rattle.base.proofs.Compare.{not_below_lt}
use Rattle.job.specs.Accepted.{WellFormed}
use Rattle.job.proofs.Rows.{onward, returned, both, scan_all}
use Rattle.job.proofs.Accepted.{well_formed}
use Rattle.job.specs.Format.{workers, job_of}
use Rattle.table.specs.Layout.{used}
use Rattle.table.proofs.Ranges.{enough-room}
use Rattle.turn.specs.Turn.{run_table, run_kinds}
use Rattle.calls.specs.Calls.{Named, answered, start_check, check_schedule, tally, run_left, Ran}
use Rattle.job.specs.Rows.{◌⨾◌}
use Rattle.job.specs.Check.{Check, Accepted}
use Rattle.job.specs.declared.Refusal.{Refusal}
use Rattle.std.specs.Prelude.{Result, Ok, Err, IsErrAnd}

module _ {X : Type 0} (F : Check → X) (x y : Check) where
  pub goes_on : Accepted ≡ x → {r : X} → r ≡ F y → r ≡ F (x ⨾ y)
  goes_on q h = h ∙ ap F (onward x y q refl)

  pub stops_at : {e : Refusal} → Err e ≡ x → {r : X} → r ≡ F (Err e) → r ≡ F (x ⨾ y)
  unfolding ◌⨾◌
  stops_at q h = h ∙ ap F (rw (← q) refl)

-- an answer, past the check's first part and refused by it
module _ {A : Type 0} (v : A) (x y : Check) where
  pub answered_on : Accepted ≡ x → {r : Result A Refusal} → r ≡ answered y v → r ≡ answered (x ⨾ y) v
  answered_on = goes_on (λ (k : Check). answered k v) x y

  pub answered_at : {e : Refusal} → Err e ≡ x → {r : Result A Refusal} → IsErrAnd r (λ z. z ≡ e) → r ≡ answered (x ⨾ y) v
  unfolding answered
  answered_at q {r} h = stops_at (λ (k : Check). answered k v) x y q (returned r h)

-- what an answer says of its check
pub answered-ok : {A : Type 0} (v : A) (x : Check) {r : Result A Refusal} {w : A} → r ≡ answered x v → r ≡ Ok w → (Accepted ≡ x) × (w ≡ v)
unfolding answered
answered-ok v Accepted {r} {w} a b = let e : Ok w ≡ Ok v = sym b ∙ a in (refl, cc)
answered-ok v (Err refusal) {r} {w} a b = let z : ◌≡◌ {A = ℕ} 0 1 = cc in absurd (omega arith)

pub answered-err : {A : Type 0} (v : A) (x : Check) {r : Result A Refusal} {e : Refusal} → r ≡ answered x v → r ≡ Err e → Err e ≡ x
unfolding answered
answered-err v Accepted a b = let z : ◌≡◌ {A = ℕ} 0 1 = cc in absurd (omega arith)
answered-err v (Err refusal) {r} {e} a b = let q : refusal ≡ e = cc in ap Err (sym q)

-- a run, by its checks
module _ (s t ws : List ℕ) where
  pub ran-stop : (x : Check) {e : Refusal} → Err e ≡ x → {r : Result (List ℕ) Refusal} → IsErrAnd r (λ z. z ≡ e) → Ran x s t ws r t
  unfolding answered run_left
  ran-stop x q {r} h = rw (← q) (record { answer_is = returned r h; table_is = refl })

  pub ran-stop_then : (x y : Check) {e : Refusal} → Err e ≡ x → {r : Result (List ℕ) Refusal} → IsErrAnd r (λ z. z ≡ e) → Ran (x ⨾ y) s t ws r t
  unfolding ◌⨾◌
  ran-stop_then x y q h = ran-stop (x ⨾ y) (rw (← q) refl) h

  pub ran_then : (x y : Check) → Accepted ≡ x → {r : Result (List ℕ) Refusal} {u : List ℕ} → Ran y s t ws r u → Ran (x ⨾ y) s t ws r u
  unfolding ◌⨾◌
  ran_then x y q m = rw (← q) m

  pub ran-made : (x : Check) → Accepted ≡ x → {counts u : List ℕ} → counts ≡ tally (run_kinds (job_of s) t ws) → u ≡ run_table (job_of s) t ws → Ran x s t ws (Ok counts) u
  unfolding answered run_left
  ran-made x q h g = rw (← q) (record { answer_is = ap Ok h; table_is = g })

-- what accepted rows 1 to 9 say
pub start-good : (s t : List ℕ) → Accepted ≡ start_check s t → WellFormed s × (used (job_of s) ≤ length t)
unfolding start_check
start-good s t e = let p = both _ _ e in (well_formed s p.0, enough-room (job_of s) t p.1)

-- a schedule that is accepted names workers of the job
pub schedule-low : (s ws : List ℕ) → Accepted ≡ check_schedule s ws → Named s ws
unfolding check_schedule
schedule-low s ws e i h = not_below_lt (get_or ws i 0) (workers s) (scan_all _ _ _ _ e i h)
