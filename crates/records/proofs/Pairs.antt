-- The pairs of bytes. Assumes nothing.
--   workers-length, workers_at   as many workers as pairs; the worker of a pair
--   pair_at                      what is left of the bytes at a pair
--   gives-yes                    a pair that is a turn; gives-past, gives_other   one that isn't: its worker, or its kind
--   held_more, held_none, held-few   at a pair that holds, at one that doesn't, and at the end
use Prim.Native.Nat.{ℕ, zero, suc, ◌+◌, ◌*◌, ◌≤◌, ◌<◌}
use mathlib.Core.Path.{◌≡◌, refl, sym, ◌∙◌, ap}
use mathlib.Core.Bool.{true, false}
use mathlib.Core.List.{List, [], ◌∷◌}
use native.Mathlib.Omega.{arith}
use lib.ListN.{length, get_or, drop}
use lib.Seq.{drop-cons}
use Rattle.base.proofs.Choose.{pick_true, pick-false}
use Rattle.base.proofs.Compare.{not_below-yes, not_below-no, differs-yes, differs-no}
use Rattle.job.specs.Job.{Job}
use Rattle.turn.specs.Turn.{kind_number, turn}
use Rattle.records.specs.Record.{pairs, workers_in, gives, held}

pub workers-length : (r : List ℕ) → length (workers_in r) ≡ pairs r
unfolding workers_in
workers-length [] = refl
workers-length (w ∷ []) = refl
workers-length (w ∷ k ∷ r) = omega (arith, workers-length r)

pub workers_at : (r : List ℕ) (i : ℕ) → i < pairs r → get_or (workers_in r) i 0 ≡ get_or r (2 * i) 0
unfolding workers_in
workers_at [] i h = absurd (omega arith)
workers_at (w ∷ []) i h = absurd (omega arith)
workers_at (w ∷ k ∷ r) zero h = refl
workers_at (w ∷ k ∷ r) (suc i) h =
    let e : 2 * suc i ≡ suc (suc (2 * i)) = omega arith in
    workers_at r i (omega arith) ∙ ap (λ (x : ℕ). get_or (w ∷ k ∷ r) x 0) (sym e)

pub pair_at : (r : List ℕ) (i : ℕ) → i < pairs r → drop (2 * i) r ≡ get_or r (2 * i) 0 ∷ get_or r (2 * i + 1) 0 ∷ drop (2 * (i + 1)) r
pair_at r i h =
    let e : suc (2 * i) ≡ 2 * i + 1 = omega arith in
    let q : suc (2 * i + 1) ≡ 2 * (i + 1) = omega arith in
    drop-cons r (2 * i) 0 (omega arith)
    ∙ ap (λ (x : List ℕ). get_or r (2 * i) 0 ∷ x)
    (ap (λ (x : ℕ). drop x r) e ∙ (drop-cons r (2 * i + 1) 0 (omega arith) ∙ ap (λ (x : ℕ). get_or r (2 * i + 1) 0 ∷ drop x r) q))

module _ (j : Job) (t : List ℕ) (w k : ℕ) where
  pub gives-yes : w < j.workers → k ≡ kind_number (turn j t w).kind → gives j t w k ≡ true
  unfolding gives
  gives-yes l e = rw (not_below-no _ _ l, differs-no _ _ e)

  pub gives-past : j.workers ≤ w → gives j t w k ≡ false
  unfolding gives
  gives-past l = rw (not_below-yes _ _ l)

  pub gives_other : w < j.workers → (k ≡ kind_number (turn j t w).kind → ⊥) → gives j t w k ≡ false
  unfolding gives
  gives_other l e = rw (not_below-no _ _ l, differs-yes _ _ e)

  pub held_more : (r : List ℕ) → gives j t w k ≡ true → held j t (w ∷ k ∷ r) ≡ suc (held j (turn j t w).table r)
  unfolding held
  held_more r e = pick_true _ _ _ e

  pub held_none : (r : List ℕ) → gives j t w k ≡ false → held j t (w ∷ k ∷ r) ≡ 0
  unfolding held
  held_none r e = pick-false _ _ _ e

pub held-few : (j : Job) (t r : List ℕ) → length r < 2 → held j t r ≡ 0
unfolding held
held-few j t [] h = refl
held-few j t (x ∷ []) h = refl
held-few j t (x ∷ y ∷ r) h = absurd (omega arith)
