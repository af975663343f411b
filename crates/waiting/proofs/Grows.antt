-- A turn that completes nothing: no edge and no wait is lost, so what is reached stays reached. Assumes nothing.
use mathlib.Core.Path.{◌≡◌}
use mathlib.Core.Logic.{by_cases}
use Prim.Native.Nat.{ℕ, suc, ◌<◌}
use native.Mathlib.Omega.{arith}
use native.Mathlib.Decide.{dec_lt}
use Rattle.base.specs.Graph.{Reach}
use Rattle.base.proofs.Paths.{map}
use Rattle.waiting.specs.State.{State, Own, Done, Edge, Mutual, Waits, Order, leads, newer, Goes, own, away, Asked, met, left, Inv}
use Rattle.waiting.specs.Steps.{Claims}
use Rattle.waiting.proofs.Basics.{one-owner}
use Rattle.waiting.proofs.Marks.{claims_aged, claims_done}
use Rattle.waiting.proofs.Links.{Linked, before, now, Links}

-- b is the claim of the literal that w passes, if it passes one
pub record Grows (s s' : State) (w b : ℕ) : Type 0 where
  pub links : Links s s' w b
  pub aged : {x : ℕ} → 0 < s.mark x → 0 < s'.mark x
  pub done : {x : ℕ} → Done s x → Done s' x
  pub was_done : {x : ℕ} → Done s' x → Done s x
  pub numbers : {u x : ℕ} → Own s u x → s'.number x ≡ s.number x
  pub wait : {u d : ℕ} → Waits s u d → s'.awaited u ≡ suc d

module _ {s s' : State} {T w b : ℕ} (I : Inv s T) (g : Grows s s' w b) where
  pub low : {x : ℕ} → s'.mark x < 256 → s.mark x < 256
  low {x} l = by_cases (dec_lt (s.mark x) 256) (λ h. h) (λ n. let d : Done s x = omega arith in absurd (omega (arith, g.done d)))

  pub low-now : {x : ℕ} → s.mark x < 256 → s'.mark x < 256
  low-now {x} l =
      by_cases (dec_lt (s'.mark x) 256) (λ h. h) (λ n. let d : Done s' x = omega arith in absurd (omega (arith, g.was_done d)))

  pub edge : {x y : ℕ} → Edge s x y → Edge s' x y
  edge e = record { passed = g.links.less e.passed; ahead = low-now e.ahead }

  pub up : {x y : ℕ} → Reach (Edge s) x y → Reach (Edge s') x y
  up p = map (λ x y e. edge e) p

  up_mutual : {x y : ℕ} → Mutual s x y → Mutual s' x y
  up_mutual m = record { to = up m.to; from = up m.from }

  pub waits : {u d : ℕ} → Waits s u d → Waits s' u d
  waits q = record { awaits = g.wait q; unmet = low-now q.unmet }

  pub newer-now : {u x y z : ℕ} → Own s u x → Own s u y → Mutual s x z → s.number y < s.number z → s'.number y < s'.number z
  newer-now o p m l = omega (arith, g.numbers p, g.numbers (one-owner I m o))

  pub order : {u x y : ℕ} → Own s u x → Own s u y → Order s' x y
  order {u} {x} {y} o p = go (I.order o p)
    where
      go : Order s x y → Order s' x y
      go (leads q) = leads (up q)
      go (newer m l) = newer (up_mutual m) (newer-now o p m l)

  -- the laws of passed literals
  pub begun : {x y : ℕ} → s'.Passed x y → 0 < s'.mark x
  begun p = go (g.links.more p)
    where
      go : {x y : ℕ} → Linked s w b x y → 0 < s'.mark x
      go (before q) = g.aged (I.begun q)
      go (now o) = g.aged (omega arith)

  pub named : {x y : ℕ} → 0 < s'.mark b → s'.Passed x y → 0 < s'.mark y
  named l p = go (g.links.more p)
    where
      go : {x y : ℕ} → Linked s w b x y → 0 < s'.mark y
      go (before q) = g.aged (I.named q)
      go (now o) = l

  pub closed : {x y : ℕ} → s'.Passed x y → Done s' x → Done s' y
  closed p d = go (g.links.more p) (g.was_done d)
    where
      go : {x y : ℕ} → Linked s w b x y → Done s x → Done s' y
      go (before q) e = g.done (I.closed q e)
      go (now o) e = absurd (omega arith)

  pub full : {x : ℕ} → Done s' x → s'.next x ≡ 0
  full d = let h = g.was_done d in omega (arith, I.full h, g.links.nexts h)

  pub back : {x y : ℕ} → s'.Earlier x y → s'.mark y < 256 → Reach (Edge s') y x
  back p l = up (g.links.back p (low l))

  -- what was a worker's goes with it
  module _ (keeps : (u x : ℕ) → Own s u x → Goes s' u x) where
    pub goes : {u y : ℕ} → Goes s u y → Goes s' u y
    goes (own o) = keeps _ _ o
    goes (away q m) = away (waits q) (up_mutual m)

    -- where an edge from a claim of u leads, if a new one leads from w's to where w goes
    pub edge_goes : {u x y : ℕ} → Own s u x → s.mark y < 256 → (s.mark b < 256 → Own s w x → Goes s' u b) → Linked s w b x y → Goes s' u y
    edge_goes o l k (before p) = goes (I.goes o (record { passed = p; ahead = l }))
    edge_goes o l k (now p) = k l p

    pub asked : {u : ℕ} → s'.asks u ≡ s.asks u → Asked s u → Asked s' u
    asked e (met {q = q} f d) = met {q = q} (omega arith) (g.done d)
    asked e (left {q = q} f h) = left {q = q} (omega arith) (goes h)

-- no claim is opened, taken or completed
pub claims_grow : {s s' : State} {w b : ℕ} → Claims s s' → Links s s' w b → ((u d : ℕ) → Waits s u d → s'.awaited u ≡ suc d) → Grows s s' w b
claims_grow k l h = record {
  links = l;
  aged = λ p. claims_aged k p;
  done = λ d. claims_done k d;
  was_done = λ {x = x} d. omega (arith, k.marks x);
  numbers = λ {x = x} o. k.numbers x;
  wait = λ q. h _ _ q;
}
