-- Following the owners of awaited claims, a move at a time. Assumes nothing.
use Prim.Native.Nat.{ℕ, zero, suc, ◌-◌, ◌<◌, ◌≤◌}
use mathlib.Core.Path.{◌≡◌, refl, sym, ◌∙◌, ap}
use mathlib.Core.Bool.{Bool, true, false}
use mathlib.Core.List.{List}
use mathlib.Core.Logic.{⊎_elim}
use native.Mathlib.Omega.{arith}
use borrow.Author.Tests.{eq-eqb, ne_eqb, le-leb, lt-leb}
use lib.Dec.{eqb, leb}
use lib.ListN.{length, get_or}
use Rattle.base.specs.Choose.{pick}
use Rattle.job.specs.Job.{Job, most_workers}
use Rattle.job.specs.Format.{claims, workers, questions, job_of}
use Rattle.table.proofs.Sizes.{words-room}
use Rattle.table.specs.Layout.{mark, awaited, answered, kept, answer_at, answered_at, awaited_at, newest_at, true_mark, undefined_mark}
use Rattle.table.specs.Ranges.{InRange}
use Rattle.turn.specs.Turn.{meets}

-- a move from v, which awaits a, whose mark is m
module _ (j : Job) (t : List ℕ) (w : ℕ) where
  pub met : (n v : ℕ) → v ≡ w → true ≡ meets n j t w v
  unfolding meets pick
  met zero v e = sym (eq-eqb v w e)
  met (suc n) v e = rw (eq-eqb v w e)

  pub no_moves : (n v : ℕ) → n ≤ 0 → eqb v w ≡ meets n j t w v
  unfolding meets
  no_moves zero v h = refl
  no_moves (suc n) v h = absurd (omega arith)

  -- what is left after a move, by what was read
  abbrev after : ℕ → ℕ → ℕ → ℕ → Bool
  after n v a m = pick (eqb v w) true (pick (eqb a 0) false (pick (eqb m 0) false (pick (leb true_mark m) false (meets (n - 1) j t w (m - 1)))))

  one-move : (n v : ℕ) → 0 < n → meets n j t w v ≡ after n v (awaited j t v) (mark t (awaited j t v - 1))
  unfolding meets
  one-move zero v h = absurd (omega arith)
  one-move (suc n) v h =
      let e : n ≡ suc n - 1 = omega arith in
      ap (λ (k : ℕ). pick (eqb v w) true (pick (eqb (awaited j t v) 0) false (pick (eqb (mark t (awaited j t v - 1)) 0) false (pick (leb true_mark (mark t (awaited j t v - 1))) false (meets k j t w (mark t (awaited j t v - 1) - 1)))))) e

  module _ (n v : ℕ) (some : 0 < n) (other : v ≡ w → ⊥) {a : ℕ} (awaits : a ≡ awaited j t v) where
    pub awaits_none : a ≡ 0 → false ≡ meets n j t w v
    unfolding pick
    awaits_none e = sym (one-move n v some ∙ rw (ne_eqb v w other, eq-eqb (awaited j t v) 0 (sym awaits ∙ e)))

    module _ (real : a ≡ 0 → ⊥) {m : ℕ} (marked : m ≡ mark t (a - 1)) where
      read : meets n j t w v ≡ after n v a m
      read =
          one-move n v some ∙ ap (λ (x : ℕ). after n v x (mark t (x - 1))) (sym awaits) ∙ ap (λ (x : ℕ). after n v a x) (sym marked)

      pub at-fresh : m ≡ 0 → false ≡ meets n j t w v
      unfolding pick
      at-fresh e = sym (read ∙ rw (ne_eqb v w other, ne_eqb a 0 real, eq-eqb m 0 e))

      pub at-complete : (m ≡ 0 → ⊥) → true_mark ≤ m → false ≡ meets n j t w v
      unfolding pick
      at-complete d h = sym (read ∙ rw (ne_eqb v w other, ne_eqb a 0 real, ne_eqb m 0 d, le-leb true_mark m h))

      pub moves : (m ≡ 0 → ⊥) → m < true_mark → meets n j t w v ≡ meets (n - 1) j t w (m - 1)
      unfolding pick
      moves d h = read ∙ rw (ne_eqb v w other, ne_eqb a 0 real, ne_eqb m 0 d, lt-leb true_mark m h)

-- the words that a turn reads are there, and show claims and workers of the job
module _ (s t : List ℕ) (r : InRange (job_of s) t) where
  pub room : answer_at (claims s) (workers s) (questions s) ≤ length t
  room = words-room s t r.room

  pub awaited_most : (w : ℕ) → w < workers s → awaited (job_of s) t w ≤ claims s
  unfolding job_of
  awaited_most w h = r.awaits w h

  pub open-owner : (c : ℕ) → c < claims s → mark t c < true_mark → mark t c ≤ workers s
  unfolding job_of
  open-owner c h o = ⊎_elim (λ e. e) (λ e. absurd (omega arith)) (r.claim c h).mark_in

  pub mark_most : workers s ≤ most_workers → (c : ℕ) → c < claims s → mark t c ≤ undefined_mark
  unfolding job_of
  mark_most few c h = ⊎_elim (λ e. omega arith) (λ e. e.1) (r.claim c h).mark_in

-- a worker's words that were read with the header's count of claims
pub awaited-read : (s t : List ℕ) {n : ℕ} (w : ℕ) {r : ℕ} → n ≡ claims s → r ≡ get_or t (awaited_at n w) 0 → r ≡ awaited (job_of s) t w
unfolding job_of
awaited-read s t w e f = f ∙ ap (λ (x : ℕ). get_or t (awaited_at x w) 0) e

pub newest-read : (s t : List ℕ) {n : ℕ} (w : ℕ) {r : ℕ} → n ≡ claims s → r ≡ get_or t (newest_at n w) 0 → r ≡ kept (job_of s) t w
unfolding job_of
newest-read s t w e f = f ∙ ap (λ (x : ℕ). get_or t (newest_at x w) 0) e

pub answered-read : (s t : List ℕ) {n : ℕ} (w : ℕ) {r : ℕ} → n ≡ claims s → r ≡ get_or t (answered_at n w) 0 → r ≡ answered (job_of s) t w
unfolding job_of
answered-read s t w e f = f ∙ ap (λ (x : ℕ). get_or t (answered_at x w) 0) e
