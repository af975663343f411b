-- `completed` keeps what holds: what is completed is closed under edges, and only edges of its own claims fade, so all else reaches what it
-- reached. Assumes nothing.
use mathlib.Core.Path.{◌≡◌}
use mathlib.Core.Logic.{◌⊎◌, inl, inr}
use Prim.Native.Nat.{ℕ, suc, ◌<◌}
use native.Mathlib.Omega.{arith}
use native.Mathlib.Decide.{dec_lt}
use Rattle.base.specs.Graph.{Reach}
use Rattle.waiting.specs.State.{State, Own, Done, Edge, Mutual, Waits, Grounded, ground, Order, leads, newer, Goes, own, away, Engaged, awaiting, owning, Asked, met, left, Inv}
use Rattle.waiting.specs.Steps.{Completed, CompletedMark, completed, kept, Faded, leads as still, behind}
use Rattle.base.proofs.Paths.{trans, one, minus_fun}
use Rattle.waiting.proofs.Marks.{completed_aged, completed_done}

module _ {s s' : State} {T w n : ℕ} (I : Inv s T) (k : Completed s s' w n) where
  abbrev R : ℕ → Type 0
  R x = Reach (Edge s) n x

  closed : (x y : ℕ) → Edge s x y → R x → R y
  closed x y e r = trans r (one e)

  r? : (x : ℕ) → R x ⊎ (R x → ⊥)
  r? x = go (k.marks x)
    where
      go : CompletedMark s s' n x → R x ⊎ (R x → ⊥)
      go (completed r h) = inl r
      go (kept m e) = inr m

  same : {x : ℕ} → (R x → ⊥) → s'.mark x ≡ s.mark x
  same {x} m = go (k.marks x)
    where
      go : CompletedMark s s' n x → s'.mark x ≡ s.mark x
      go (completed r h) = absurd (m r)
      go (kept m e) = e

  pub over : {x : ℕ} → R x → Done s' x
  over {x} r = go (k.marks x)
    where
      go : CompletedMark s s' n x → Done s' x
      go (completed r h) = record { over = h }
      go (kept m e) = absurd (m r)

  -- what is not complete now is outside
  out : {x : ℕ} → s'.mark x < 256 → R x → ⊥
  out l r = omega (arith, over r)

  low : {x : ℕ} → s'.mark x < 256 → s.mark x < 256
  low l = omega (arith, same (out l))

  keep-own : {u x : ℕ} → Own s u x → (R x → ⊥) → Own s' u x
  keep-own o m = omega (arith, same m)

  was-own : {u x : ℕ} → Own s' u x → Own s u x
  was-own o = omega (arith, same (out o.still))

  was_edge : {x y : ℕ} → Edge s' x y → Edge s x y
  was_edge e = record { passed = k.literals.more e.passed; ahead = low e.ahead }

  -- what becomes complete was reached
  newly : {x : ℕ} → s.mark x < 256 → Done s' x → R x
  newly {x} l d = go (k.marks x)
    where
      go : CompletedMark s s' n x → R x
      go (completed r h) = r
      go (kept m e) = absurd (omega arith)

  edge : (x y : ℕ) → Edge s x y → (R y → ⊥) → Edge s' x y
  edge x y e m = record { passed = go (k.literals.less e.passed); ahead = omega (arith, e.ahead, same m) }
    where
      -- an earlier literal's claim, completed now, leads back to x: then y would be completed too
      go : Faded s s' x y → s'.Passed x y
      go (still p) = p
      go (behind p l d) = absurd (m (closed x y e (trans (newly l d) (I.back p l))))

  up : {x y : ℕ} → Reach (Edge s) x y → (R y → ⊥) → Reach (Edge s') x y
  up p m = minus_fun R closed edge p m

  inside : {x y : ℕ} → Reach (Edge s) x y → R x → R y
  inside p r = trans r p

  up_mutual : {x y : ℕ} → Mutual s x y → (R x → ⊥) → Mutual s' x y
  up_mutual m out = record { to = up m.to (λ r. out (inside m.from r)); from = up m.from out }

  keep-waits : {u d : ℕ} → Waits s u d → (R d → ⊥) → Waits s' u d
  keep-waits {u} h m = omega (arith, same m, k.workers.awaits u)

  was-waits : {u d : ℕ} → Waits s' u d → Waits s u d
  was-waits {u} h = omega (arith, same (out h.unmet), k.workers.awaits u)

  keep-goes : {u y : ℕ} → Goes s u y → (R y → ⊥) → Goes s' u y
  keep-goes (own o) m = own (keep-own o m)
  keep-goes (away h q) m = away (keep-waits h (λ r. m (inside q.from r))) (up_mutual q m)

  order : {x y : ℕ} → (R x → ⊥) → (R y → ⊥) → Order s x y → Order s' x y
  order l m (leads p) = leads (up p m)
  order {x} {y} l m (newer {z = z} q h) = newer (up_mutual q l) (omega (arith, k.numbers y, k.numbers z))

  grounded : {u : ℕ} → Grounded s u → Grounded s' u
  grounded (ground g) =
      ground (λ t n. grounded (g t (record { claim = n.claim; waits = was-waits n.waits; owner = was-own n.owner })))

  pub engaged : {u : ℕ} → Engaged s' u → Engaged s u
  engaged {u} (awaiting {d = d} e) = awaiting {d = d} (omega (arith, k.workers.awaits u))
  engaged {u} (owning o) = owning (was-own o)

  pub asked : {u : ℕ} → Asked s u → Asked s' u
  asked {u} (met {q = q} e h) = met {q = q} (omega (arith, k.workers.asks u)) (completed_done k h)
  asked {u} (left {q = q} e h) = go (r? q)
    where
      f : s'.asks u ≡ suc q
      f = omega (arith, k.workers.asks u)

      go : R q ⊎ (R q → ⊥) → Asked s' u
      go (inl r) = met f (over r)
      go (inr m) = left f (keep-goes h m)

  all_done : {x y : ℕ} → s.Passed x y → Done s' x → Done s' y
  all_done {x} {y} p h = go (r? x) (dec_lt (s.mark y) 256)
    where
      go : R x ⊎ (R x → ⊥) → Dec (s.mark y < 256) → Done s' y
      go (inl r) (yes l) = over (trans r (one (record { passed = p; ahead = l })))
      go (inl r) (no l) = completed_done k (omega arith)
      go (inr m) d = let g : Done s x = omega (arith, same m) in completed_done k (I.closed p g)

  full : {x : ℕ} → Done s' x → s'.next x ≡ 0
  full {x} d = go (r? x)
    where
      go : R x ⊎ (R x → ⊥) → s'.next x ≡ 0
      go (inl r) = omega (arith, k.full r, k.literals.nexts x)
      go (inr m) = let h : Done s x = omega (arith, same m) in omega (arith, I.full h, k.literals.nexts x)

  -- what leads back did so outside
  back : {x y : ℕ} → s.Earlier x y → s'.mark y < 256 → Reach (Edge s') y x
  back {x} {y} p l =
      let e : Edge s x y = record { passed = s.sooner p; ahead = low l } in
      up (I.back p (low l)) (λ r. out l (closed x y e r))

  pub completed-keeps : Inv s' T
  completed-keeps = record {
    begun = λ p. completed_aged k (I.begun (k.literals.more p));
    named = λ p. completed_aged k (I.named (k.literals.more p));
    closed = λ p h. all_done (k.literals.more p) h;
    full = λ d. full d;
    counted = λ x. omega (arith, I.counted x, k.numbers x, k.opened);
    workers = λ o. I.workers (was-own o);
    order = λ o p. order (out o.still) (out p.still) (I.order (was-own o) (was-own p));
    owned = λ h. completed_aged k (I.owned (was-waits h));
    reaches = λ h o. up (I.reaches (was-waits h) (was-own o)) (out h.unmet);
    goes = λ o e. keep-goes (I.goes (was-own o) (was_edge e)) (out e.ahead);
    grounded = λ u. grounded (I.grounded u);
    asked = λ h. asked (I.asked (engaged h));
    alone = λ {w = u} {d = d} e f o. I.alone {w = u} {d = d} (omega (arith, k.workers.awaits u)) (omega (arith, k.workers.asks u)) (was-own o);
    back = λ p l. back (k.literals.earlier p) l;
  }
