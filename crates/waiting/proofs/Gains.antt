-- A turn after which nobody waits anew, and the claims of a set, perhaps empty, are w's: it keeps what holds. Assumes nothing.
use mathlib.Core.Path.{◌≡◌, refl}
use Prim.Native.Nat.{ℕ, suc, ◌≤◌, ◌<◌}
use native.Mathlib.Omega.{arith}
use Rattle.base.specs.Graph.{Reach}
use Rattle.waiting.specs.State.{State, Own, Edge, Waits, Next, Grounded, ground, Order, leads, Goes, own, Engaged, awaiting, owning, Asked, Inv}
use Rattle.waiting.proofs.Basics.{own_unique, waits-not}
use Rattle.waiting.proofs.Links.{Linked, before, now}
use Rattle.waiting.proofs.Grows.{Grows, low, up, order, begun, named, closed, full, back as leads-back, edge_goes, asked}

-- who owns a claim now owned it before, or it is of the set and w's
pub data Was (s : State) (w : ℕ) (R : ℕ → Type 0) (u x : ℕ) : Type 0 where
  was : Own s u x → Was s w R u x
  got : u ≡ w → R x → Was s w R u x

pub record Gains (s s' : State) (T w b : ℕ) (R : ℕ → Type 0) : Type 0 where
  pub grows : Grows s s' w b
  pub waited : (u d : ℕ) → s'.awaited u ≡ suc d → s.awaited u ≡ suc d
  pub asks : (u : ℕ) → Engaged s u → s'.asks u ≡ s.asks u
  pub counted : (x : ℕ) → s'.number x ≤ s'.opened
  pub marked : 0 < s'.mark b
  pub owned : (u x : ℕ) → Own s' u x → Was s w R u x
  pub keeps : (u x : ℕ) → Own s u x → Goes s' u x
  pub ahead : s.mark b < 256 → Own s' w b
  -- w, if the set isn't empty
  pub free : (x : ℕ) → R x → s.awaited w ≡ 0
  pub small : (x : ℕ) → R x → w < T
  pub question : (x : ℕ) → R x → Asked s' w
  -- edges from the set, and the order of its claims and w's
  pub inner : (x y : ℕ) → R x → Edge s x y → Own s' w y
  pub into : (x y : ℕ) → Own s w x → R y → Reach (Edge s') x y
  pub among : (x y : ℕ) → R x → R y → Reach (Edge s') x y
  pub outof : (x y : ℕ) → R x → Own s w y → Order s' x y

module _ {s s' : State} {T w b : ℕ} {R : ℕ → Type 0} (I : Inv s T) (k : Gains s s' T w b R) where
  back : {u d : ℕ} → Waits s' u d → Waits s u d
  back q = record { awaits = k.waited _ _ q.awaits; unmet = low I k.grows q.unmet }

  -- w, if it gains anything, waits on nothing
  waits_none : {u d x : ℕ} → Waits s u d → u ≡ w → R x → ⊥
  waits_none q e r = waits-not (k.free _ r) (rw e at q)

  ordered : {u x y : ℕ} → Was s w R u x → Was s w R u y → Order s' x y
  ordered (was o) (was p) = order I k.grows o p
  ordered (was o) (got e r) = leads (k.into _ _ (rw e at o) r)
  ordered (got e r) (was p) = k.outof _ _ r (rw e at p)
  ordered (got e r) (got f q) = leads (k.among _ _ r q)

  goes_on : {u x y : ℕ} → Was s w R u x → s.mark y < 256 → Linked s w b x y → Goes s' u y
  goes_on (was o) l p = edge_goes I k.grows k.keeps o l (λ m q. rw (own_unique o q) (own (k.ahead m))) p
  goes_on (got e r) l (before p) = rw e (own (k.inner _ _ r (record { passed = p; ahead = l })))
  goes_on (got e r) l (now p) = rw e (own (k.ahead l))

  grounded : {u : ℕ} → Grounded s u → Grounded s' u
  grounded (ground g) = ground (λ t n. next (back n.waits) (k.owned _ _ n.owner) (λ m. grounded (g t m)))
    where
      next : {u t d : ℕ} → Waits s u d → Was s w R t d → (Next s u t → Grounded s' t) → Grounded s' t
      next q (was o) f = f (record { claim = _; waits = q; owner = o })
      next q (got e r) f = rw e (ground (λ v n. absurd (waits_none (back n.waits) refl r)))

  reaches : {u d x : ℕ} → Waits s u d → Was s w R u x → Reach (Edge s') x d
  reaches q (was o) = up I k.grows (I.reaches q o)
  reaches q (got e r) = absurd (waits_none q e r)

  -- an engaged worker was engaged, or is w
  data Off (u : ℕ) : Type 0 where
    off : Engaged s u → Off u
    gained : {x : ℕ} → u ≡ w → R x → Off u

  engaged_or : {u : ℕ} → Engaged s' u → Off u
  engaged_or {u} (awaiting {d = d} e) = off (awaiting (k.waited u d e))
  engaged_or {u} (owning {x = x} o) = go (k.owned u x o)
    where
      go : Was s w R u x → Off u
      go (was p) = off (owning p)
      go (got e r) = gained e r

  pub engaged : {u : ℕ} → (u ≡ w → ⊥) → Engaged s' u → Engaged s u
  engaged {u} n h = go (engaged_or h)
    where
      go : Off u → Engaged s u
      go (off g) = g
      go (gained e r) = absurd (n e)

  pub asked-on : {u : ℕ} → Engaged s u → Asked s' u
  asked-on {u} h = asked I k.grows k.keeps (k.asks u h) (I.asked h)

  all_asked : {u : ℕ} → Off u → Asked s' u
  all_asked (off h) = asked-on h
  all_asked (gained e r) = rw e (k.question _ r)

  worker : {u x : ℕ} → Was s w R u x → u < T
  worker (was o) = I.workers o
  worker (got e r) = rw e (k.small _ r)

  alone : {u d x : ℕ} → s.awaited u ≡ suc d → s'.asks u ≡ suc d → Was s w R u x → ⊥
  alone {u} a f (was o) = I.alone a (omega (arith, k.asks u (awaiting a))) o
  alone {u} a f (got e r) = let z : s.awaited u ≡ 0 = rw e (k.free _ r) in omega arith

  pub gains_keep : Inv s' T
  gains_keep = record {
    begun = λ p. begun I k.grows p;
    named = λ p. named I k.grows k.marked p;
    closed = λ p d. closed I k.grows p d;
    full = λ d. full I k.grows d;
    counted = k.counted;
    workers = λ o. worker (k.owned _ _ o);
    order = λ o p. ordered (k.owned _ _ o) (k.owned _ _ p);
    owned = λ q. k.grows.aged (I.owned (back q));
    reaches = λ q o. reaches (back q) (k.owned _ _ o);
    goes = λ o e. goes_on (k.owned _ _ o) (low I k.grows e.ahead) (k.grows.links.more e.passed);
    grounded = λ u. grounded (I.grounded u);
    asked = λ h. all_asked (engaged_or h);
    alone = λ {w = u} {d = d} e f o. alone (k.waited u d e) f (k.owned _ _ o);
    back = λ p l. leads-back I k.grows p l;
  }
