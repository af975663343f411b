-- A job with its schedule behind it is listed as that job and those turns. Assumes nothing.
use Prim.Native.Nat.{ℕ, ◌+◌, ◌≤◌}
use mathlib.Core.List.{List, ◌++◌}
use mathlib.Core.Path.{◌≡◌, refl, ◌∙◌, ap}
use native.Mathlib.Omega.{arith}
use lib.ListN.{length, get_or, take, drop, length-append, get_or-append}
use lib.Seq.{take_at, drop_at}
use Rattle.base.proofs.Choose.{pick-false}
use Rattle.base.proofs.Compare.{under-no, over_no, not_below-no}
use Rattle.job.specs.Bytes.{half, word}
use Rattle.job.specs.Job.{Job}
use Rattle.job.specs.Format.{job_of, workers}
use Rattle.job.specs.Checks.{check_job}
use Rattle.job.specs.Accepted.{Sized}
use Rattle.job.specs.Encoding.{encode, Valid}
use Rattle.job.specs.Check.{Accepted}
use Rattle.job.proofs.Rows.{pass, scan_none, join}
use Rattle.job.proofs.Accepted.{accepted}
use Rattle.job.proofs.Encoding.{reading, encoded_well_formed}
use Rattle.calls.specs.Calls.{check_schedule}
use Rattle.listing.specs.Listing.{job_end, job_part, schedule_part, listing_check, listing_if, listing, listed}
use Rattle.listing.specs.Told.{Scheduled, Listing}
use Rattle.listing.proofs.Shown.{shows}

module _ (j : Job) (v : Valid j) (ws : List ℕ) (s : Scheduled j ws) where
  ok : Accepted ≡ check_job (encode j)
  ok = accepted (encode j) (encoded_well_formed j v)

  well : Sized (encode j)
  well = (encoded_well_formed j v).sized

  input-length : length (encode j ++ ws) ≡ length (encode j) + length ws
  input-length = length-append (encode j) ws

  long : 36 ≤ length (encode j)
  long = omega (arith, well.size)

  first_word : word (encode j ++ ws) 0 ≡ length (encode j)
  unfolding word half
  first_word =
      let a : get_or (encode j ++ ws) 0 0 ≡ get_or (encode j) 0 0 = get_or-append (encode j) ws 0 0 (omega (arith, long)) in
      let b : get_or (encode j ++ ws) 1 0 ≡ get_or (encode j) 1 0 = get_or-append (encode j) ws 0 1 (omega (arith, long)) in
      let c : get_or (encode j ++ ws) 2 0 ≡ get_or (encode j) 2 0 = get_or-append (encode j) ws 0 2 (omega (arith, long)) in
      let d : get_or (encode j ++ ws) 3 0 ≡ get_or (encode j) 3 0 = get_or-append (encode j) ws 0 3 (omega (arith, long)) in
      rw (a, b, c, d) well.total_is

  ends : job_end (encode j ++ ws) ≡ length (encode j)
  unfolding job_end
  ends =
      pick-false _ _ _ (under-no _ _ (omega (arith, input-length, long)))
      ∙ pick-false _ _ _ (over_no _ _ (omega (arith, input-length, first_word)))
      ∙ first_word

  job_is : job_part (encode j ++ ws) ≡ encode j
  job_is = ap (λ (k : ℕ). take k (encode j ++ ws)) ends ∙ take_at (encode j) ws (length (encode j)) refl

  schedule_is : schedule_part (encode j ++ ws) ≡ ws
  schedule_is = ap (λ (k : ℕ). drop k (encode j ++ ws)) ends ∙ drop_at (encode j) ws (length (encode j)) refl

  means : job_of (encode j) ≡ j
  means = reading.meaning j v

  workers_are : workers (encode j) ≡ j.workers
  unfolding job_of
  workers_are = ap (λ (x : Job). x.workers) means

  schedule-passes : Accepted ≡ check_schedule (encode j) ws
  unfolding check_schedule
  schedule-passes = scan_none _ _ _ _ (λ k l. not_below-no _ _ (omega (arith, s.named k l, workers_are)))

  taken : Accepted ≡ listing_check (encode j ++ ws)
  unfolding listing_check
  taken = pass _ _ _ _ (over_no _ _ (omega (arith, input-length, s.fits))) (rw (job_is, schedule_is) (join _ _ ok schedule-passes))

  listing_is : listing (encode j ++ ws) ≡ listed j ws
  unfolding listing listing_if
  listing_is = rw (← taken, job_is, schedule_is, means)

  pub whole : Listing j ws
  whole = record { accepted = taken; text = listing_is; shows = rw (job_is, schedule_is, means) at (shows (encode j ++ ws) taken) }
