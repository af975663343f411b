-- While a question is open somebody's turn is not idle, and once none is, every turn is. Assumes nothing.
use mathlib.Core.Path.{◌≡◌, refl}
use Prim.Native.Nat.{ℕ, zero, suc, ◌-◌, ◌<◌}
use native.Mathlib.Omega.{arith}
use native.Mathlib.Decide.{ℕ_discrete, dec_lt}
use Rattle.base.specs.Graph.{Reach, here, step}
use Rattle.waiting.specs.State.{State, Own, Edge, Waits, Next, Grounded, ground, Engaged, awaiting, owning, Inv, Newest}
use Rattle.waiting.specs.Steps.{AtQuestion, Ready, wakes, answers, opens, awaits, completes, passes, Mover, Finite}
use Rattle.waiting.proofs.Basics.{own?, walk, waits-not, owner, owner_of, has-question}
use Rattle.base.proofs.Search.{none, Best, best, greatest}

-- all that a worker who waits on nothing reaches is its own
stays-own : {s : State} {T w x y : ℕ} → Inv s T → s.awaited w ≡ 0 → Own s w x → Reach (Edge s) x y → Own s w y
stays-own {s} {w = w} {y = y} I free o p = let m = walk I o p in go m.chain m.its
  where
    go : {u : ℕ} → Reach (Next s) w u → Own s u y → Own s w y
    go here q = q
    go (step n r) q = absurd (waits-not free n.waits)

module _ {s : State} {T A : ℕ} (I : Inv s T) (F : Finite s A) where
  record Unfinished (n x : ℕ) : Type 0 where
    path : Reach (Edge s) n x
    some : 0 < s.next x

  unfinished? : (n x : ℕ) → Dec (Unfinished n x)
  unfinished? n x = go (F.reach? n x) (dec_lt 0 (s.next x))
    where
      go : Dec (Reach (Edge s) n x) → Dec (0 < s.next x) → Dec (Unfinished n x)
      go (yes p) (yes l) = yes (record { path = p; some = l })
      go (yes p) (no m) = no (λ u. m u.some)
      go (no m) d = no (λ u. m u.path)

  module _ (w : ℕ) (free : s.awaited w ≡ 0) where
    at-claim : (n : ℕ) → Newest s w n → Ready s w
    at-claim n N = go (greatest (Unfinished n) (unfinished? n) s.number A)
      where
        go : Best (Unfinished n) s.number A → Ready s w
        go (best c u g) =
            passes {b = s.next c - 1} (record {
              top = n;
              at = record { free = free; newest = N };
              its = stays-own I free N.its u.path;
              path = u.path;
              next = omega (arith, u.some);
              last = λ {x = x} o p l. g x (F.below (omega (arith, o))) (record { path = p; some = l });
            })
        go (none f) = completes (record { free = free; newest = N }) (λ x p. (stays-own I free N.its p, full x p))
          where
            full : (x : ℕ) → Reach (Edge s) n x → s.next x ≡ 0
            full x p =
                let o = stays-own I free N.its p in
                let m : ¬ (0 < s.next x) = λ l. f x (F.below (omega (arith, o))) (record { path = p; some = l }) in
                omega arith

    at-question : (q : ℕ) → s.asks w ≡ suc q → ((x : ℕ) → Own s w x → ⊥) → Ready s w
    at-question q e f = go (ℕ_discrete (s.mark q) 0) (dec_lt (s.mark q) 256)
      where
        at : AtQuestion s w q
        at = record { free = free; none = λ o. f _ o; asks = e }

        go : Dec (s.mark q ≡ 0) → Dec (s.mark q < 256) → Ready s w
        go (yes z) d = opens at z
        go (no z) (yes l) = awaits at (owner {s = s} {x = q} (omega arith) l).1
        go (no z) (no l) = answers at (omega arith)

    at_rest : (q : ℕ) → s.asks w ≡ suc q → Ready s w
    at_rest q e = go (greatest (Own s w) (own? w) s.number A)
      where
        go : Best (Own s w) s.number A → Ready s w
        go (best n o g) = at-claim n (record { its = o; last = λ {x = x} p. g x (F.below (omega (arith, p))) p })
        go (none f) = at-question q e (λ x o. f x (F.below (omega arith)) o)

  -- from a worker with a question left, along the waits
  from : {w : ℕ} → Grounded s w → w < T → (q : ℕ) → s.asks w ≡ suc q → Mover s T
  from {w} (ground g) small q e = go (λ u n. from (g u n)) (s.awaited w) refl
    where
      go : ((u : ℕ) → Next s w u → u < T → (q : ℕ) → s.asks u ≡ suc q → Mover s T) → (k : ℕ) → s.awaited w ≡ k → Mover s T
      go ih zero a = record { who = w; small = small; ready = at_rest w a q e }
      go ih (suc d) a = on (dec_lt (s.mark d) 256)
        where
          on : Dec (s.mark d < 256) → Mover s T
          on (yes l) =
              let h : Waits s w d = record { awaits = a; unmet = l } in
              let o = owner_of I h in
              let r = has-question (I.asked (owning o.1)) in
              ih o.0 (record { claim = d; waits = h; owner = o.1 }) (I.workers o.1) r.0 r.1
          on (no l) = record { who = w; small = small; ready = wakes {d = d} a (omega arith) }

  pub progress : {w q : ℕ} → w < T → s.asks w ≡ suc q → Mover s T
  progress {w} {q} small e = from (I.grounded w) small q e

  -- no question left: nobody owns or awaits anything, and nobody's turn changes anything
  quiet : {w : ℕ} → s.asks w ≡ 0 → Engaged s w → ⊥
  quiet z g = let r = has-question (I.asked g) in omega (arith, r.1)

  pub rest : {w : ℕ} → s.asks w ≡ 0 → Ready s w → ⊥
  rest z (wakes a d) = quiet z (awaiting a)
  rest z (answers k d) = omega (arith, k.asks)
  rest z (opens k f) = omega (arith, k.asks)
  rest z (awaits k o) = omega (arith, k.asks)
  rest z (completes k f) = quiet z (owning k.newest.its)
  rest z (passes k) = quiet z (owning k.its)
