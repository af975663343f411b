-- How the parts of the potential compare: a worker's phase, lateness and worth, a claim's value, and the sums. Assumes nothing.
use mathlib.Core.Path.{◌≡◌}
use Prim.Native.Nat.{ℕ, suc, ◌+◌, ◌*◌, ◌≤◌, ◌<◌}
use native.Mathlib.Omega.{arith}
use Rattle.base.proofs.Sum.{sum_le, sum_fall, sum-rise}
use Rattle.waiting.specs.State.{State, Done, own, away, Engaged, awaiting, owning, Asked, met, left, Inv}
use Rattle.waiting.specs.Bound.{Phase, over, busy, due, ahead, Late, late, early, Worth, Value, whole, part, Total}
use Rattle.waiting.specs.Steps.{AtQuestion}
use Rattle.waiting.proofs.Basics.{at_ease, has-question}

module _ {s : State} {w : ℕ} where
  pub phase_most : {p : ℕ} → Phase s w p → p ≤ 2
  phase_most (over a e) = omega arith
  phase_most (busy a g e) = omega arith
  phase_most (due a g d e) = omega arith
  phase_most (ahead a g d e) = omega arith

  pub phase-busy : {q p : ℕ} → s.asks w ≡ suc q → Engaged s w → Phase s w p → p ≡ 1
  phase-busy f g (over a e) = omega arith
  phase-busy f g (busy a h e) = e
  phase-busy f g (due a h d e) = absurd (h g)
  phase-busy f g (ahead a h d e) = absurd (h g)

  pub late_most : {l : ℕ} → Late s w l → l ≤ 1
  late_most (late a n e) = omega arith
  late_most (early f e) = omega arith

  pub late_free : {l : ℕ} → s.awaited w ≡ 0 → Late s w l → l ≡ 0
  late_free z (late a n e) = omega arith
  late_free z (early f e) = e

  pub late_asked : {d l : ℕ} → s.awaited w ≡ suc d → s.asks w ≡ suc d → Late s w l → l ≡ 0
  late_asked a f (late b n e) = absurd (n (omega arith))
  late_asked a f (early g e) = e

-- The same questions and waits before and after.
module _ {s s' : State} {w : ℕ} (asks : s'.asks w ≡ s.asks w) (awaits : s'.awaited w ≡ s.awaited w) where
  late_same : {l l' : ℕ} → Late s w l → Late s' w l' → l ≡ l'
  late_same (late a n e) (late b m f) = omega arith
  late_same (late {d = d} a n e) (early g f) = absurd (n (omega (arith, g d (omega arith))))
  late_same (early g e) (late {d = d} b m f) = absurd (m (omega (arith, g d (omega arith))))
  late_same (early g e) (early h f) = omega arith

-- whose question is asked about as in `Asked` is busy or due
pub phase-asked : {s : State} {w p : ℕ} → Asked s w → Phase s w p → 1 ≤ p
phase-asked k (busy a g e) = omega arith
phase-asked k (due a g d e) = omega arith
phase-asked (met f h) (over a e) = absurd (omega arith)
phase-asked (left f h) (over a e) = absurd (omega arith)
phase-asked (met {q = r} f h) (ahead {q = q} a g m e) = let z : r ≡ q = omega arith in let y = rw z at h in absurd (omega arith)
phase-asked (left f (own o)) (ahead a g m e) = absurd (g (owning o))
phase-asked (left f (away h m)) (ahead a g l e) = absurd (g (awaiting h.awaits))

module _ {s s' : State} {w : ℕ} (asks : s'.asks w ≡ s.asks w) (awaits : s'.awaited w ≡ s.awaited w)
    (answers : s'.answered w ≡ s.answered w)
    (stay : Engaged s w → Asked s' w) (back : Engaged s' w → Engaged s w) (done : (q : ℕ) → Done s q → Done s' q) where
  phase_mono : {p p' : ℕ} → Phase s w p → Phase s' w p' → p ≤ p'
  phase_mono (over a e) q = omega arith
  phase_mono (ahead a g m e) q = omega arith
  phase_mono (busy a g e) q = omega (arith, phase-asked (stay g) q)
  phase_mono (due a n d e) (over b f) = absurd (omega arith)
  phase_mono (due a n d e) (busy b g f) = absurd (n (back g))
  phase_mono (due a n d e) (due b m c f) = omega arith
  phase_mono (due {q = q} a n d e) (ahead {q = r} b h m f) =
      let z : q ≡ r = omega arith in let y = done r (rw z at d) in absurd (omega arith)

  pub worth_mono : {n n' : ℕ} → Worth s w n → Worth s' w n' → n ≤ n'
  worth_mono p q =
      omega (arith, p.worth, q.worth, phase_mono p.its-phase q.its-phase, late_same asks awaits p.its-late q.its-late)

module _ {s s' : State} {c : ℕ} (done : Done s c → Done s' c) where
  pub value_more : {n n' : ℕ} (k : ℕ) → s.cursor c + k ≤ s'.cursor c → Value s c n → Value s' c n' → n + 2 * k ≤ n'
  value_more k l (whole d e) (whole f g) = omega arith
  value_more k l (whole d e) (part f g) = let z = done d in absurd (omega arith)
  value_more k l (part d e) (whole f g) = omega arith
  value_more k l (part d e) (part f g) = omega arith

  pub value_mono : {n n' : ℕ} → s'.cursor c ≡ s.cursor c → Value s c n → Value s' c n' → n ≤ n'
  value_mono l p q = omega (arith, value_more 0 (omega arith) p q)

-- a question whose claim is not complete
pub not_yet : {s : State} {w q p : ℕ} → AtQuestion s w q → s.mark q < 256 → Phase s w p → p ≡ 0
not_yet k l (over a e) = e
not_yet k l (busy a g e) = absurd (at_ease k g)
not_yet {q = q} k l (due {q = r} a n d e) = let z : r ≡ q = omega (arith, k.asks) in let y = rw z at d in absurd (omega arith)
not_yet k l (ahead a n m e) = e

-- w awaits nothing and owns something before, and owns something after
module _ {s s' : State} {T w : ℕ} (I : Inv s T) (I' : Inv s' T) (free : s.awaited w ≡ 0) (g : Engaged s w) (g' : Engaged s' w)
    (answers : s'.answered w ≡ s.answered w) where
  pub stays-busy : {n n' : ℕ} → Worth s w n → Worth s' w n' → n ≤ n' + 1
  stays-busy p q =
      let a = has-question (I.asked g) in
      let b = has-question (I'.asked g') in
      omega (
        arith,
        p.worth,
        q.worth,
        phase-busy a.1 g p.its-phase,
        phase-busy b.1 g' q.its-phase,
        late_free free p.its-late,
        late_most q.its-late,
      )

-- The three ways in which the sum of all rises.
module _ {s s' : State} {A T n n' : ℕ} (p : Total s A T n) (p' : Total s' A T n') where
  pub by-worker : (w : ℕ) → w < T → ((c : ℕ) → p.values c ≤ p'.values c) → ((u : ℕ) → (u ≡ w → ⊥) → p.worths u ≤ p'.worths u)
      → p.worths w + 1 ≤ p'.worths w → n < n'
  by-worker w l v o h =
      omega (arith, p.total, p'.total, sum_le p.values p'.values A (λ i m. v i), sum-rise p.worths p'.worths w o 1 T l h)

  pub by-literal : (c w : ℕ) → c < A → ((x : ℕ) → (x ≡ c → ⊥) → p.values x ≤ p'.values x) → p.values c + 2 ≤ p'.values c
      → ((u : ℕ) → (u ≡ w → ⊥) → p.worths u ≤ p'.worths u) → p.worths w ≤ p'.worths w + 1 → n < n'
  by-literal c w l v m o h =
      omega (arith, p.total, p'.total, sum-rise p.values p'.values c v 2 A l m, sum_fall p.worths p'.worths w o 1 T h)

  pub by-claim : (c : ℕ) → c < A → ((x : ℕ) → (x ≡ c → ⊥) → p.values x ≤ p'.values x) → p.values c + 1 ≤ p'.values c
      → ((u : ℕ) → p.worths u ≤ p'.worths u) → n < n'
  by-claim c l v m o =
      omega (arith, p.total, p'.total, sum-rise p.values p'.values c v 1 A l m, sum_le p.worths p'.worths T (λ i m. o i))
