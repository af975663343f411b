-- The whole turn from its bullets, by what the code read. Assumes nothing.
use Prim.Native.Nat.{ℕ, ◌+◌, ◌-◌, ◌<◌, ◌≤◌}
use mathlib.Core.Path.{◌≡◌, refl, sym, ◌∙◌, ap, subst⁻¹}
use mathlib.Core.Bool.{false}
use mathlib.Core.List.{List}
use native.Mathlib.Omega.{arith}
use borrow.Author.Tests.{eq-eqb, ne_eqb, le-leb, lt-leb}
use lib.Dec.{eqb}
use lib.ListN.{set}
use Rattle.base.proofs.Choose.{pick_true, pick-false}
use Rattle.job.specs.Job.{Job}
use Rattle.job.specs.Format.{claims, workers, job_of}
use Rattle.table.specs.Layout.{mark, awaited, kept, awaited_at, true_mark}
use Rattle.table.specs.Newest.{sought, NewestKept}
use Rattle.table.proofs.Sizes.{sizes}
use Rattle.turn.specs.Turn.{Turned, ask_turn, work_turn, base_turn, turn, keeping}
use Rattle.turn.specs.Ready.{Made}
use Rattle.turn.specs.declared.Kind.{Kind}
use Rattle.turn.specs.declared.Kind.TheVariants.{Idle, Woke}
use Rattle.turn.proofs.Making.{made_kept}
use Rattle.turn.proofs.ThirdWords.{await-kept}

-- the turn by the part of 01's text that applies
by_part : (j : Job) (t : List ℕ) (w : ℕ) {r : Turned} {kind : Kind} {u : List ℕ} → base_turn j t w ≡ r → Made (keeping j r) kind u → Made (turn j t w) kind u
unfolding turn
by_part j t w {r} {kind} {u} e m = subst⁻¹ (λ (x : Turned). Made (keeping j x) kind u) e m

-- w awaits claim a - 1, whose mark is m
module _ (s t : List ℕ) (w : ℕ) (K : NewestKept (job_of s) t) {a : ℕ} (awaits : a ≡ awaited (job_of s) t w) where
  module _ (real : a ≡ 0 → ⊥) {m : ℕ} (marked : m ≡ mark t (a - 1)) where
    waiting : eqb (awaited (job_of s) t w) 0 ≡ false
    waiting = ne_eqb _ _ (λ e. real (awaits ∙ e))

    mark_is : mark t (awaited (job_of s) t w - 1) ≡ m
    mark_is = ap (λ (x : ℕ). mark t (x - 1)) (sym awaits) ∙ sym marked

    pub wakes : true_mark ≤ m → {n : ℕ} → n ≡ claims s → Made (turn (job_of s) t w) Woke (set t (awaited_at n w) 0)
    unfolding base_turn job_of
    wakes h {n} e =
        by_part (job_of s) t w
        (pick-false _ _ _ waiting ∙ (pick_true _ _ _ (le-leb true_mark (mark t (awaited (job_of s) t w - 1)) (omega (arith, mark_is))) ∙ ap (λ (x : ℕ). record { kind = Woke; table = set t (awaited_at x w) 0 }) (sym e)))
        (made_kept (job_of s) (subst⁻¹ (λ (x : ℕ). NewestKept (job_of s) (set t (awaited_at x w) 0)) (e ∙ sym (sizes s).claims_are) (await-kept K w 0)) (record { kind_is = refl; table_is = refl }))

    pub waits-on : m < true_mark → Made (turn (job_of s) t w) Idle t
    unfolding base_turn
    waits-on h = by_part (job_of s) t w (pick-false _ _ _ waiting ∙ pick-false _ _ _ (lt-leb true_mark (mark t (awaited (job_of s) t w - 1)) (omega (arith, mark_is)))) (made_kept (job_of s) K (record { kind_is = refl; table_is = refl }))

  -- w awaits nothing, and n - 1 is its newest open claim
  module _ (free : a ≡ 0) {n : ℕ} (small : w < workers s) (newest-is : n ≡ kept (job_of s) t w) where
    newest_of : sought (job_of s).claims t w ≡ n
    newest_of = sym (newest-is ∙ K.is w (omega (arith, (sizes s).workers_are)))

    pub asks : n ≡ 0 → {kind : Kind} {u : List ℕ} → Made (keeping (job_of s) (ask_turn (job_of s) t w)) kind u → Made (turn (job_of s) t w) kind u
    unfolding base_turn
    asks e m = by_part (job_of s) t w (pick_true _ _ _ (eq-eqb _ _ (sym awaits ∙ free)) ∙ pick_true _ _ _ (eq-eqb _ _ (newest_of ∙ e))) m

    pub works : (v : ℕ) → n ≡ v + 1 → {kind : Kind} {u : List ℕ} → Made (keeping (job_of s) (work_turn (job_of s) t w v)) kind u → Made (turn (job_of s) t w) kind u
    unfolding base_turn
    works v q m =
        let e : sought (job_of s).claims t w - 1 ≡ v = omega (arith, newest_of) in
        by_part (job_of s) t w (pick_true _ _ _ (eq-eqb _ _ (sym awaits ∙ free)) ∙ (pick-false _ _ _ (ne_eqb (sought (job_of s).claims t w) 0 (λ z. omega (arith, newest_of))) ∙ ap (work_turn (job_of s) t w) e)) m

-- the claim that the third word names is what a search finds
pub newest-sought : (s t : List ℕ) (w : ℕ) → NewestKept (job_of s) t → w < workers s → {n : ℕ} → n ≡ kept (job_of s) t w → (v : ℕ) → n ≡ v + 1 → v + 1 ≡ sought (claims s) t w
newest-sought s t w K small e v q = sym q ∙ (e ∙ K.is w (omega (arith, (sizes s).workers_are)) ∙ ap (λ (a : ℕ). sought a t w) (sizes s).claims_are)
