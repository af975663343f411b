-- After 2 L + A + 3 Q rounds from a start all is answered. Assumes nothing.
use mathlib.Core.Path.{◌≡◌, refl}
use mathlib.Core.List.Memᴰ
use mathlib.Core.List.{List, [], ◌∷◌, ◌++◌, Memᴰ}
use Prim.Native.Nat.{ℕ, zero, suc, ◌+◌, ◌-◌, ◌≤◌, ◌<◌}
use native.Mathlib.Omega.{arith}
use native.Mathlib.Decide.{dec_lt}
use Rattle.waiting.specs.State.{State, Inv}
use Rattle.waiting.specs.Steps.{Step, woke, answered, opened-asked, waits_asked, passed, skipped, opened, waits, took, Ready, wakes, answers, opens, awaits, passes, Start}
use Rattle.waiting.specs.Bound.{Total}
use Rattle.waiting.specs.Runs.{Sizes, bound, Ranged, Run, stop, moved, idled, Rounds, none, round, AllAnswered}
use Rattle.base.proofs.Search as F
use Rattle.waiting.proofs.Keeps.{keeps, start-holds}
use Rattle.waiting.proofs.Progress.{progress, rest}
use Rattle.waiting.proofs.Rises.{rises}
use Rattle.waiting.proofs.Measure.{total_of, open-bound, start-least}

pub step-ready : {T w : ℕ} {s s' : State} → Step T w s s' → Ready s w
step-ready (woke k) = wakes k.awaited k.over
step-ready (answered k) = answers k.at k.over
step-ready (opened-asked k) = opens k.at k.opens.fresh
step-ready (waits_asked k) = awaits k.at k.held
step-ready (Step.completes k) = Ready.completes k.at (λ x p. (k.all p, k.full p))
step-ready (passed k) = passes k.at
step-ready (skipped k) = passes k.at
step-ready (opened k) = passes k.at
step-ready (waits k) = passes k.at
step-ready (took k) = passes k.at

-- a table that turns made, and its potential, at least n
record Reached (j : Sizes) (s : State) (n : ℕ) : Type 0 where
  inv : Inv s j.T
  ranged : Ranged j s
  potential : ℕ
  total : Total s j.A j.T potential
  least : n ≤ potential

record Split (j : Sizes) (s : State) (r ws : List ℕ) (s' : State) : Type 1 where
  mid : State
  first : Run j s r mid
  then : Run j mid ws s'

split : {j : Sizes} {s s' : State} (r : List ℕ) {ws : List ℕ} → Run j s (r ++ ws) s' → Split j s r ws s'
split {s = s} [] h = record { mid = s; first = stop; then = h }
split (w ∷ r) (moved l k R h) = let t = split r h in record { mid = t.mid; first = moved l k R t.first; then = t.then }
split (w ∷ r) (idled l f h) = let t = split r h in record { mid = t.mid; first = idled l f t.first; then = t.then }

data Outcome (j : Sizes) (s : State) (n : ℕ) : Type 0 where
  ended : AllAnswered j.T s → Outcome j s n
  risen : Reached j s n → Outcome j s n

-- w has a question left
record Open (s : State) (w : ℕ) : Type 0 where
  some : 0 < s.asks w

open? : (s : State) (w : ℕ) → Dec (Open s w)
open? s w = go (dec_lt 0 (s.asks w))
  where
    go : Dec (0 < s.asks w) → Dec (Open s w)
    go (yes l) = yes (record { some = l })
    go (no n) = no (λ k. n k.some)

module _ {j : Sizes} (few : j.T ≤ 32) where
  below : {s : State} → Ranged j s → (c : ℕ) → 0 < s.mark c → c < j.A
  below R c h = R.finite.below h

  after : {s s' : State} {w n : ℕ} → w < j.T → Reached j s n → Step j.T w s s' → Ranged j s' → Reached j s' (suc n)
  after small h k R =
      let I = keeps small few h.inv k in
      let t = total_of (below R) j.T in
      record {
        inv = I;
        ranged = R;
        potential = t.0;
        total = t.1;
        least = omega (arith, rises h.inv I small few (below h.ranged) h.total t.1 k, h.least);
      }

  less : {s : State} {n m : ℕ} → m ≤ n → Reached j s n → Reached j s m
  less l h = record { inv = h.inv; ranged = h.ranged; potential = h.potential; total = h.total; least = omega (arith, h.least) }

  run-keeps : {s s' : State} {ws : List ℕ} {n : ℕ} → Run j s ws s' → Reached j s n → Reached j s' n
  run-keeps stop h = h
  run-keeps (moved l k R r) h = run-keeps r (less (omega arith) (after l h k R))
  run-keeps (idled l f r) h = run-keeps r h

  -- the turns name a worker whose turn is not idle
  run-rises : {s s' : State} {ws : List ℕ} {n u : ℕ} → Run j s ws s' → Reached j s n → Ready s u → Memᴰ u ws → Reached j s' (suc n)
  run-rises stop h g m = absurd (Memᴰ.not-nil m)
  run-rises (moved l k R r) h g m = run-keeps r (after l h k R)
  run-rises (idled l f r) h g (Memᴰ.head e) = absurd (f (rw e at g))
  run-rises (idled l f r) h g (Memᴰ.tail m) = run-rises r h g m

  run-answered : {s s' : State} {ws : List ℕ} {n : ℕ} → Run j s ws s' → Reached j s n → AllAnswered j.T s → AllAnswered j.T s'
  run-answered stop h z = z
  run-answered {s} (moved {w = w} l k R r) h z = absurd (rest h.inv h.ranged.finite (z w l) (step-ready k))
  run-answered (idled l f r) h z = run-answered r h z

  rounds-rise : {s s' : State} {ws : List ℕ} {k n : ℕ} → Rounds j.T k ws → Run j s ws s' → Reached j s n → Outcome j s' (n + k)
  rounds-rise none r h = risen (less (omega arith) (run-keeps r h))
  rounds-rise {s} {s'} {k = suc k} {n = n} (round t {ws = ws} all R) r h = go (λ m q g. rounds-rise R q g) (split t r) (F.find (Open s) (open? s) j.T)
    where
      more : Outcome j s' (suc n + k) → Outcome j s' (n + suc k)
      more (ended z) = ended z
      more (risen g) = risen (less (omega arith) g)

      go : ((mid : State) → Run j mid ws s' → Reached j mid (suc n) → Outcome j s' (suc n + k)) → Split j s t ws s' → F.Found (Open s) j.T → Outcome j s' (n + suc k)
      go ih p (F.Found.found w l o) =
          let m = progress h.inv h.ranged.finite {w = w} {q = s.asks w - 1} l (omega (arith, o.some)) in
          more (ih p.mid p.then (run-rises p.first h m.ready (all m.who m.small)))
      go ih p (F.Found.none f) = ended (run-answered r h (λ w l. none_open w l))
        where
          none_open : (w : ℕ) → w < j.T → s.asks w ≡ 0
          none_open w l = let g : ¬ (0 < s.asks w) = λ z. f w l (record { some = z }) in omega arith

  -- the bound on the rounds
  pub rounds-answer : {s s' : State} {ws : List ℕ} → Start s → Ranged j s → Run j s ws s' → Rounds j.T (bound j) ws → AllAnswered j.T s'
  rounds-answer {s} {s'} k R r b w l = go (rounds-rise b r h)
    where
      t : (n : ℕ) × Total s j.A j.T n
      t = total_of (below R) j.T

      h : Reached j s t.0
      h = record { inv = start-holds j.T k; ranged = R; potential = t.0; total = t.1; least = omega arith }

      none_left : (q : ℕ) → s'.asks w ≡ q → Reached j s' (t.0 + bound j) → s'.asks w ≡ 0
      none_left zero e g = e
      none_left (suc q) e g = absurd (omega (arith, open-bound g.ranged g.total l e, g.least, start-least k t.1))

      go : Outcome j s' (t.0 + bound j) → s'.asks w ≡ 0
      go (ended z) = z w l
      go (risen g) = none_left (s'.asks w) refl g
