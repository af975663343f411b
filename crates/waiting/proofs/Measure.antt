-- Every table has a potential, at least T at the start, and at most 2 L + A + 3 Q + T, less while a question is open. Assumes nothing.
use mathlib.Core.Path.{◌≡◌, refl}
use Prim.Native.Nat.{ℕ, zero, suc, ◌+◌, ◌-◌, ◌*◌, ◌≤◌, ◌<◌}
use native.Mathlib.Omega.{arith}
use native.Mathlib.Decide.{ℕ_discrete, dec_lt}
use Rattle.waiting.specs.State.{State, Own, Engaged, awaiting, owning}
use Rattle.waiting.specs.Steps.{Start}
use Rattle.base.specs.Sum.{sum}
use Rattle.waiting.specs.Bound.{Phase, over, busy, due, ahead, Late, late, early, Worth, Value, whole, part, Total}
use Rattle.waiting.specs.Runs.{Sizes, bound, Ranged}
use Rattle.waiting.proofs.Basics.{own?}
use Rattle.base.proofs.Search.{Found, found, none, find}
use Rattle.base.proofs.Sum.{sum_le, sum-rise, sum-least, sum-line}
use Rattle.waiting.proofs.Worth.{phase_most, late_most, late_free}

module _ {s : State} {A : ℕ} (below : (c : ℕ) → 0 < s.mark c → c < A) where
  engaged? : (w : ℕ) → Dec (Engaged s w)
  engaged? w = go (s.awaited w) refl
    where
      look : s.awaited w ≡ 0 → Found (Own s w) A → Dec (Engaged s w)
      look a (found x h o) = yes (owning o)
      look a (none f) = no off
        where
          off : Engaged s w → ⊥
          off (awaiting e) = omega arith
          off (owning {x = x} o) = f x (below x (omega arith)) o

      go : (k : ℕ) → s.awaited w ≡ k → Dec (Engaged s w)
      go zero a = look a (find (Own s w) (own? w) A)
      go (suc d) a = yes (awaiting a)

  phase_of : (w : ℕ) → (p : ℕ) × Phase s w p
  phase_of w = go (s.asks w) refl (engaged? w)
    where
      end : (q : ℕ) → s.asks w ≡ suc q → (Engaged s w → ⊥) → Dec (s.mark q < 256) → (p : ℕ) × Phase s w p
      end q a n (yes l) = (0, ahead a n l refl)
      end q a n (no l) = (2, due {q = q} a n (omega arith) refl)

      go : (k : ℕ) → s.asks w ≡ k → Dec (Engaged s w) → (p : ℕ) × Phase s w p
      go zero a d = (0, over a refl)
      go (suc q) a (yes g) = (1, busy a g refl)
      go (suc q) a (no n) = end q a n (dec_lt (s.mark q) 256)

  late_of : (w : ℕ) → (l : ℕ) × Late s w l
  late_of w = go (s.awaited w) refl
    where
      end : (d : ℕ) → s.awaited w ≡ suc d → Dec (s.asks w ≡ suc d) → (l : ℕ) × Late s w l
      end d a (yes e) = (0, early (λ c f. omega arith) refl)
      end d a (no n) = (1, late a n refl)

      go : (k : ℕ) → s.awaited w ≡ k → (l : ℕ) × Late s w l
      go zero a = (0, early (λ d e. absurd (omega arith)) refl)
      go (suc d) a = end d a (ℕ_discrete (s.asks w) (suc d))

  worth_of : (w : ℕ) → (n : ℕ) × Worth s w n
  worth_of w =
      let p = phase_of w in
      let l = late_of w in (
        3 * s.answered w + p.0 + 1 - l.0,
        record {
          phase = p.0;
          late = l.0;
          its-phase = p.1;
          its-late = l.1;
          worth = omega (arith, late_most l.1);
        },
      )

  value-of : (c : ℕ) → (n : ℕ) × Value s c n
  value-of c = go (dec_lt (s.mark c) 256)
    where
      go : Dec (s.mark c < 256) → (n : ℕ) × Value s c n
      go (yes l) = (2 * s.cursor c, part l refl)
      go (no l) = (2 * s.cursor c + 1, whole (omega arith) refl)

  pub total_of : (T : ℕ) → (n : ℕ) × Total s A T n
  total_of T = (
    sum (λ c. (value-of c).0) A + sum (λ w. (worth_of w).0) T,
    record {
      values = λ c. (value-of c).0;
      worths = λ w. (worth_of w).0;
      value = λ c. (value-of c).1;
      worth = λ w. (worth_of w).1;
      total = refl;
    },
  )

value_most : {s : State} {c n : ℕ} → Value s c n → n ≤ 2 * s.cursor c + 1
value_most (whole d e) = omega arith
value_most (part d e) = omega arith

worth_most : {s : State} {w n : ℕ} (t : ℕ) → s.answered w ≤ t → ((q : ℕ) → s.asks w ≡ suc q → s.answered w < t) → Worth s w n → n ≤ 3 * t + 1
worth_most {s} {w} {n} t h f p = go p.its-phase
  where
    go : Phase s w p.phase → n ≤ 3 * t + 1
    go (over a e) = omega (arith, p.worth)
    go (busy {q = q} a g e) = omega (arith, p.worth, f q a)
    go (due {q = q} a g d e) = omega (arith, p.worth, f q a)
    go (ahead {q = q} a g d e) = omega (arith, p.worth, f q a)

module _ {j : Sizes} {s : State} {n : ℕ} (R : Ranged j s) (p : Total s j.A j.T n) where
  pub open-bound : {w q : ℕ} → w < j.T → s.asks w ≡ suc q → n < bound j + j.T
  open-bound {w} {q} l a =
      let v = sum_le p.values (λ c. 2 * j.size c + 1) j.A (λ c m. omega (arith, value_most (p.value c), R.cursors c)) in
      let u = sum-rise p.worths (λ u. 3 * j.total u + 1) w
      (λ u m. worth_most (j.total u) (R.answers u) (λ q e. R.open-question e) (p.worth u)) 1 j.T l
      (omega (arith, (p.worth w).worth, phase_most (p.worth w).its-phase, R.open-question a)) in
      omega (arith, p.total, sum-line 2 j.size j.A, sum-line 3 j.total j.T)

module _ {s : State} {A T n : ℕ} (k : Start s) (p : Total s A T n) where
  pub start-least : T ≤ n
  start-least =
      let u = sum-least p.worths T (λ w m. omega (arith, (p.worth w).worth, late_free (k.awaits w) (p.worth w).its-late)) in
      omega (arith, p.total)
