-- Following the owners in the words is following them in the state. Assumes nothing.
use mathlib.Core.Path.{◌≡◌, ap}
use mathlib.Core.Logic.{◌⊎◌, inl, inr, ⊎_elim}
use mathlib.Core.Bool.{false}
use mathlib.Core.List.{List}
use Prim.Native.Nat.{ℕ, zero, suc, ◌-◌, ◌≤◌, ◌<◌}
use native.Mathlib.Omega.{arith}
use lib.Dec.{T, leb, eqb, nleb→lt, not_T, leb→le, eqb→eq, eqb_refl}
use Rattle.base.specs.Choose.{pick}
use Rattle.base.proofs.Choose.{either_left, either-right, either-cases, unless_parts, unless_of}
use Rattle.job.specs.Job.{Job}
use Rattle.table.specs.Layout as W
use Rattle.table.specs.Ranges.{InRange}
use Rattle.waiting.specs.Steps.{Within, there, move}
use Rattle.turn.specs.Turn.{meets}
use Rattle.turn.proofs.Tests.{not_eq, eq-not}
use Rattle.steps.proofs.View.{low_in, low_pos, view}

module _ (j : Job) (t : List ℕ) (R : InRange j t) where
  -- the mark of a claim that isn't complete is its owner + 1
  pub owner-low : (c : ℕ) → c < j.claims → W.mark t c < W.true_mark → W.mark t c ≤ j.workers
  owner-low c h m = ⊎_elim (λ a. a) (λ a. absurd (omega (arith, a.0))) (R.claim c h).mark_in

  module _ (w : ℕ) where
    pub meets-within : (n v : ℕ) → v < j.workers → T (meets n j t w v) → Within (view j t) w n v
    unfolding meets
    meets-within zero v h m = rw (eqb→eq v w m) there
    meets-within (suc n) v h m = go (meets-within n) (either-cases (eqb v w) _ m)
      where
        a : ℕ
        a = W.awaited j t v

        k : ℕ
        k = W.mark t (a - 1)

        go : ((u : ℕ) → u < j.workers → T (meets n j t w u) → Within (view j t) w n u) → T (eqb v w) ⊎ T (pick (eqb a 0) false (pick (eqb k 0) false (pick (leb W.true_mark k) false (meets n j t w (k - 1))))) → Within (view j t) w (suc n) v
        go ih (inl e) = rw (eqb→eq v w e) there
        go ih (inr b) =
            let p = unless_parts (eqb a 0) _ b in
            let q = unless_parts (eqb k 0) _ p.1 in
            let r = unless_parts (leb W.true_mark k) _ q.1 in
            let x : ¬ (a ≡ 0) = not_eq a 0 p.0 in
            let y : ¬ (k ≡ 0) = not_eq k 0 q.0 in
            let z : k < W.true_mark = nleb→lt W.true_mark k r.0 in
            let c : a - 1 < j.claims = omega (arith, R.awaits v h) in
            let e = low_in k c in
            let u : k ≤ j.workers = owner-low (a - 1) c z in
            move {v = v} {u = k - 1}
            (record {
              claim = a - 1;
              waits = record { awaits = omega (arith, low_in a h); unmet = omega arith };
              owner = record { mine = omega arith; still = omega arith };
            })
            (ih (k - 1) (omega arith) r.1)

    pub within-meets : {n v : ℕ} → Within (view j t) w n v → T (meets n j t w v)
    unfolding meets
    within-meets {n = zero} there = eqb_refl w
    within-meets {n = suc n} there = either_left (eqb w w) _ (eqb_refl w)
    within-meets {v = v} (move {k = n} {u = u} x p) = either-right (eqb v w) _ (go (within-meets p))
      where
        d : ℕ
        d = x.claim

        a : ℕ
        a = W.awaited j t v

        k : ℕ
        k = W.mark t (a - 1)

        go : T (meets n j t w u) → T (pick (eqb a 0) false (pick (eqb k 0) false (pick (leb W.true_mark k) false (meets n j t w (k - 1)))))
        go m =
            let e = low_pos {n = j.workers} {i = v} {v = a} (omega (arith, x.waits.awaits)) in
            let z : a - 1 ≡ d = omega (arith, e.1, x.waits.awaits) in
            let f = low_pos {n = j.claims} {i = d} {v = W.mark t d} (omega (arith, x.owner.mine)) in
            let y : k ≡ W.mark t d = ap (W.mark t) z in
            let l : k ≡ suc u = omega (arith, f.1, x.owner.mine) in
            let q : k - 1 ≡ u = omega arith in
            unless_of (eqb a 0) _ (eq-not a 0 (λ b. omega (arith, e.1, x.waits.awaits)))
            (unless_of (eqb k 0) _ (eq-not k 0 (λ b. omega arith))
            (unless_of (leb W.true_mark k) _ (not_T (leb W.true_mark k) (λ b. absurd (omega (arith, leb→le W.true_mark k b, f.1, x.owner.still)))) (rw q m)))
