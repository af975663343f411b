-- What an accepted input has. Assumes nothing.
--   accepted_input   its job is accepted, its schedule names workers of the job, and it is not too long
--   some_zeros       a front part of zeros
--   used_most        13,416 words are enough for the table of every job; used_zeros   those used, of as many zeros
--   both_parts       the two parts of an input, as it was split
--   parts            what the two parts of an accepted input have
--   refused-by, accepted-by, room_by   the text by the check; no_room, in-room   the text in the buffer
--   check-short, check-room   the checks of a call, without room and with it
use Prim.Native.Nat.{ℕ, zero, suc, ◌+◌, ◌≤◌, ◌<◌}
use mathlib.Core.Path.{◌≡◌, refl, sym, ◌∙◌, ap, ap₂, subst}
use mathlib.Core.Bool.{Bool, true, false}
use mathlib.Core.List.{List, ◌∷◌, ◌++◌}
use native.Mathlib.Omega.{arith}
use lib.ListN.{length, get_or, take, drop, replicate, length-append, length-drop}
use Rattle.base.proofs.Choose.{pick_true, pick-false}
use Rattle.base.proofs.Compare.{over_le, under-yes, under-no}
use Rattle.writing.specs.Written.{Put, wrote}
use Rattle.writing.specs.Writes.{Writes}
use Rattle.writing.specs.declared.writer.Writer.{Writer}
use Rattle.writing.proofs.Writing.{writes_as}
use Rattle.job.specs.Accepted.{WellFormed}
use Rattle.job.specs.Checks.{check_job}
use Rattle.job.specs.Rows.{◌⨾◌, row}
use Rattle.job.specs.Format.{workers, job_of}
use Rattle.job.specs.Check.{Check}
use Rattle.job.specs.Check.{Accepted, Refused}
use Rattle.std.specs.Prelude.{Err}
use Rattle.std.specs.Result.{result_and}
use Rattle.job.proofs.Accepted.{well_formed}
use Rattle.job.proofs.Rows.{both, row-no}
use Rattle.job.proofs.Written.{questions_count}
use Rattle.table.specs.Layout.{most_words, used}
use Rattle.calls.proofs.Answering.{schedule-low}
use Rattle.listing.specs.Listing.{job_end, job_part, schedule_part, most_input, listing_check, list_check, most_text, refusal_line, listed, listing_if, listing, room_length, room_bytes}

pub record AcceptedInput (i : List ℕ) : Type 0 where
  pub short : length i ≤ most_input
  pub job : Accepted ≡ check_job (job_part i)
  pub good : WellFormed (job_part i)
  pub low : (k : ℕ) → k < length (schedule_part i) → get_or (schedule_part i) k 0 < workers (job_part i)

pub accepted_input : (i : List ℕ) → Accepted ≡ listing_check i → AcceptedInput i
unfolding listing_check
accepted_input i e =
    let x = both _ _ e in
    let y = both _ _ x.1 in
    record {
      short = over_le _ _ (row-no _ _ _ x.0);
      job = y.0;
      good = well_formed _ y.0;
      low = schedule-low _ _ y.1;
    }

pub used_most : (s : List ℕ) → WellFormed s → used (job_of s) ≤ most_words
unfolding job_of
used_most s w = omega (arith, w.sized.claims_most, w.sized.workers_most, w.sized.questions_most, questions_count s)

pub some_zeros : (n m : ℕ) → n ≤ m → take {A = ℕ} n (replicate m 0) ≡ replicate n 0
some_zeros zero m h = refl
some_zeros (suc n) zero h = absurd (omega arith)
some_zeros (suc n) (suc m) h = ap (λ (l : List ℕ). 0 ∷ l) (some_zeros n m (omega arith))

pub used_zeros : (s : List ℕ) → WellFormed s → {words : List ℕ} → words ≡ replicate most_words 0 → {n : ℕ} → n ≡ used (job_of s) → take n words ≡ replicate (used (job_of s)) 0
used_zeros s w e {n} q = ap (take n) e ∙ some_zeros n most_words (omega (arith, used_most s w)) ∙ ap (λ (k : ℕ). replicate {A = ℕ} k 0) q

-- the two parts of an input, as it is split at the place that was read
pub both_parts :
    (i : List ℕ) {end : ℕ} → end ≡ job_end i → {job ws : List ℕ} → job ≡ take end i → ws ≡ drop end i → (job ≡ job_part i) × (ws ≡ schedule_part i)
both_parts i e p q = (p ∙ ap (λ (k : ℕ). take k i) e, q ∙ ap (λ (k : ℕ). drop k i) e)

abbrev Parts : List ℕ → List ℕ → Type 0
Parts job ws = ((k : ℕ) → k < length ws → get_or ws k 0 < workers job) × (length ws ≤ most_input)

pub parts : (i : List ℕ) → AcceptedInput i → {job ws : List ℕ} → job ≡ job_part i → ws ≡ schedule_part i → Parts job ws
parts i a {job} {ws} p q =
    let short : length (schedule_part i) ≤ most_input = omega (arith, length-drop (job_end i) i, a.short) in
    let here : Parts (job_part i) (schedule_part i) = (a.low, short) in
    subst (λ (x : List ℕ). Parts x ws) (sym p) (subst (Parts (job_part i)) (sym q) here)

module _ (i : List ℕ) {check : Check} {a b : Writer} where
  pub refused-by : {n p : ℕ} → check ≡ Refused n p → Writes a b (refusal_line n p) → Writes a b (listing_if check i)
  unfolding listing_if
  refused-by {n} {p} e q = subst (λ (x : Check). Writes a b (listing_if x i)) (sym e) q

  pub accepted-by : {job ws : List ℕ} → check ≡ Accepted → job ≡ job_part i → ws ≡ schedule_part i → Writes a b (listed (job_of job) ws) → Writes a b (listing_if check i)
  unfolding listing_if
  accepted-by e p q w =
      subst (λ (x : Check). Writes a b (listing_if x i)) (sym e) (writes_as w (ap₂ (λ (x y : List ℕ). listed (job_of x) y) p q))

pub room_by : (i : List ℕ) {check : Check} {buf out : List ℕ} {r : ℕ} → check ≡ listing_check i → Put buf 0 (listing_if check i) out r → Put buf 0 (listing i) out r
unfolding listing
room_by i {buf = buf} {out = out} {r = r} e q = subst (λ (x : Check). Put buf 0 (listing_if x i) out r) e q

-- the checks of a call
row_refuses : (x y : Check) (number place : ℕ) {b : Bool} → b ≡ true → y ≡ x → y ⨾ Refused number place ≡ x ⨾ row b number place
unfolding row
row_refuses x y number place e q = rw (e, q)

row-passes : (x : Check) (number place : ℕ) {b : Bool} → b ≡ false → x ≡ x ⨾ row b number place
unfolding row ◌⨾◌
row-passes Accepted number place e = rw e
row-passes (Err refusal) number place e = refl

and-first : (x y : Check) → result_and x y ≡ x ⨾ y
unfolding ◌⨾◌
and-first Accepted y = refl
and-first (Err refusal) y = refl

module _ (i : List ℕ) {check : Check} {n : ℕ} (checked : check ≡ listing_check i) where
  pub check-short : n < most_text → result_and check (Refused 16 most_text) ≡ list_check i n
  unfolding list_check
  check-short h = and-first check (Refused 16 most_text) ∙ row_refuses (listing_check i) check 16 most_text (under-yes _ _ h) checked

  pub check-room : most_text ≤ n → check ≡ list_check i n
  unfolding list_check
  check-room h = checked ∙ row-passes (listing_check i) 16 most_text (under-no _ _ h)

-- the text in the buffer
wrote-holds : (buf text : List ℕ) → length text ≤ length (wrote buf 0 text)
unfolding wrote
wrote-holds buf text =
    omega (arith, length-append (take 0 buf) text, length-append (take 0 buf ++ text) (drop (0 + length text) buf))

module _ (i buf : List ℕ) where
  pub no_room : length buf < most_text → (0 ≡ room_length i buf) × (buf ≡ room_bytes i buf)
  unfolding room_length room_bytes
  no_room h = let e = under-yes _ _ h in (sym (pick_true _ _ _ e), sym (pick_true _ _ _ e))

  pub in-room : {out : List ℕ} {r : ℕ} → most_text ≤ length buf → Put buf 0 (listing i) out r → (r ≡ room_length i buf) × (out ≡ room_bytes i buf) × (r ≤ length out)
  unfolding room_length room_bytes
  in-room h p =
      let e = under-no _ _ h in
      let n : length (listing i) ≡ 0 + length (listing i) = omega arith in
      (p.next ∙ sym n ∙ sym (pick-false _ _ _ e), p.bytes ∙ sym (pick-false _ _ _ e), omega (arith, p.next, ap length p.bytes, wrote-holds buf (listing i)))
