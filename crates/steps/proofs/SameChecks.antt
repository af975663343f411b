-- Rows 9 and 10 go by the words used alone: on tables that agree on them, in range or not, they answer the same. Assumes nothing.
--   scan_same, each_same   checks of items in turn, compared item by item
--   check_same             a refusal has the same number and place in both
use Prim.Native.Nat.{ℕ, zero, suc, ◌<◌}
use mathlib.Core.Path.{◌≡◌, refl, ap, ap₂}
use mathlib.Core.Bool.{Bool, not}
use mathlib.Core.List.{List}
use native.Mathlib.Omega.{arith}
use lib.Dec.{eqb}
use lib.ListN.{length, get_or}
use Rattle.base.specs.Compare.{over, differs}
use Rattle.base.proofs.Compare.{under-no}
use Rattle.base.proofs.Counts.{count_same}
use Rattle.job.specs.Job.{Job}
use Rattle.job.specs.Rows.{◌⨾◌, row, scan}
use Rattle.job.specs.Check.{Check}
use Rattle.table.specs.Layout.{used, header, opened_word, fixed_words, newest_word, answer_word, fresh, kept, most_value}
use Rattle.table.specs.Ranges.{each, check_room, marked, bad_header, check_claim, check_worker, bad_answer, check_words, check_table}
use Rattle.steps.specs.Agreeing.{Agree}
use Rattle.steps.proofs.Agreeing.{mark_same, cursor_same, number_same, awaited_same, answered_same, opened_same, sought_same}

scan_same : (f g : ℕ → Bool) (n number : ℕ) (place : ℕ → ℕ) → ((k : ℕ) → k < n → f k ≡ g k) → scan f n number place ≡ scan g n number place
unfolding scan
scan_same f g zero number place h = refl
scan_same f g (suc n) number place h =
    ap₂ ◌⨾◌ (ap (λ (b : Bool). row b number (place 0)) (h 0 (omega arith)))
    (scan_same (λ k. f (suc k)) (λ k. g (suc k)) n number (λ k. place (suc k)) (λ k l. h (suc k) (omega arith)))

each_same : (f g : ℕ → Check) (n : ℕ) → ((k : ℕ) → k < n → f k ≡ g k) → each f n ≡ each g n
unfolding each
each_same f g zero h = refl
each_same f g (suc n) h = ap₂ ◌⨾◌ (h 0 (omega arith)) (each_same (λ k. f (suc k)) (λ k. g (suc k)) n (λ k l. h (suc k) (omega arith)))

module _ {j : Job} {t u : List ℕ} (a : Agree j t u) where
  room_same : check_room j t ≡ check_room j u
  unfolding check_room
  room_same = rw (under-no (length t) (used j) a.long, under-no (length u) (used j) a.longer)

  marked_same : marked j t ≡ marked j u
  unfolding marked
  marked_same = count_same (λ c. not (fresh u c)) (λ c. not (fresh t c)) j.claims (λ c l. ap (λ (m : ℕ). not (eqb m 0)) (mark_same a c l))

  claim_same : (c : ℕ) → c < j.claims → check_claim j t c ≡ check_claim j u c
  unfolding check_claim
  claim_same c l = rw (mark_same a c l, cursor_same a c l, number_same a c l)

  kept_same : (w : ℕ) → w < j.workers → kept j t w ≡ kept j u w
  kept_same w l = a.same (newest_word j w) (omega arith)

  worker_same : (w : ℕ) → w < j.workers → check_worker j t w ≡ check_worker j u w
  unfolding check_worker
  worker_same w l = rw (awaited_same a w l, answered_same a w l, kept_same w l, sought_same a w)

  words_same : check_words j t ≡ check_words j u
  unfolding check_words
  words_same =
      ap₂ ◌⨾◌
      (scan_same (bad_header j t) (bad_header j u) fixed_words 10 (λ i. i) (λ i l. ap (λ (x : ℕ). differs x (get_or (header j) i 0)) (a.same i (omega arith))))
      (ap₂ ◌⨾◌ (ap₂ (λ (x y : ℕ). row (differs x y) 10 opened_word) (opened_same a) marked_same)
      (ap₂ ◌⨾◌ (each_same (check_claim j t) (check_claim j u) j.claims claim_same)
      (ap₂ ◌⨾◌ (each_same (check_worker j t) (check_worker j u) j.workers worker_same)
      (scan_same (bad_answer j t) (bad_answer j u) (length j.questions) 10 (answer_word j)
      (λ k l. ap (λ (x : ℕ). over x most_value) (a.same (answer_word j k) (omega arith)))))))

  pub check_same : check_table j t ≡ check_table j u
  unfolding check_table
  check_same = ap₂ ◌⨾◌ room_same words_same
