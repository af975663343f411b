-- What follows of one table: owners, chains of waits, one owner of what is mutual, that all of w's reach its newest, and
-- that what the claim which w moves on leads to leads back to it. Assumes nothing.
use mathlib.Core.Path.{◌≡◌, refl}
use Prim.Native.Nat.{ℕ, suc, ◌-◌, ◌<◌}
use native.Mathlib.Omega.{arith}
use native.Mathlib.Decide.{ℕ_discrete, dec_lt}
use Rattle.base.specs.Graph.{Reach, here, step}
use Rattle.waiting.specs.State.{State, Own, Edge, Mutual, Waits, Next, Grounded, ground, Order, leads, newer, Goes, own, away, Engaged, awaiting, owning, Asked, met, left, Inv, Newest}
use Rattle.waiting.specs.Steps.{AtQuestion, AtLiteral}
use Rattle.base.proofs.Paths.{trans, one, first}

module _ {s : State} where
  pub own_unique : {v w x : ℕ} → Own s v x → Own s w x → v ≡ w
  own_unique p q = omega arith

  pub own? : (w x : ℕ) → Dec (Own s w x)
  own? w x = go (ℕ_discrete (s.mark x) (suc w)) (dec_lt (s.mark x) 256)
    where
      go : Dec (s.mark x ≡ suc w) → Dec (s.mark x < 256) → Dec (Own s w x)
      go (yes e) (yes l) = yes (record { mine = e; still = l })
      go (yes e) (no n) = no (λ o. n o.still)
      go (no n) d = no (λ o. n o.mine)

  waits_unique : {w d e : ℕ} → Waits s w d → Waits s w e → d ≡ e
  waits_unique p q = omega arith

  -- the owner of an open claim
  pub owner : {x : ℕ} → 0 < s.mark x → s.mark x < 256 → (v : ℕ) × Own s v x
  owner {x} p q = (s.mark x - 1, record { mine = omega arith; still = q })

  next_unique : {v u t : ℕ} → Next s v u → Next s v t → u ≡ t
  next_unique {v} {u} {t} p q = own_unique (rw (waits_unique p.waits q.waits) at p.owner) q.owner

-- z is open, and its owner is met from v
pub record Met (s : State) (v z : ℕ) : Type 0 where
  pub by : ℕ
  pub its : Own s by z
  pub chain : Reach (Next s) v by

module _ {s : State} {T : ℕ} (I : Inv s T) where
  pub owner_of : {w d : ℕ} → Waits s w d → (u : ℕ) × Own s u d
  owner_of h = owner (I.owned h) h.unmet

  module _ {v : ℕ} (ih : (u : ℕ) → Next s v u → (d z : ℕ) → Own s u d → Reach (Edge s) d z → Met s u z) where
    walk_out : {y z : ℕ} → Reach (Edge s) y z → (Own s v y → Met s v z) → Goes s v y → Met s v z
    walk_out p k (own o) = k o
    walk_out p k (away h m) =
        let o = owner_of h in
        let n : Next s v o.0 = record { claim = _; waits = h; owner = o.1 } in
        let r = ih o.0 n _ _ o.1 (trans m.from p) in
        record { by = r.by; its = r.its; chain = step n r.chain }

    walk_in : {x z : ℕ} → Reach (Edge s) x z → Own s v x → Met s v z
    walk_in here o = record { by = v; its = o; chain = here }
    walk_in (step e p) o = walk_out p (λ q. walk_in p q) (I.goes o e)

  -- what a claim of v reaches belongs to v or to one that the chain of waits from v meets
  walk_from : {v : ℕ} → Grounded s v → (x z : ℕ) → Own s v x → Reach (Edge s) x z → Met s v z
  walk_from (ground g) x z o p = walk_in (λ u n d y od q. walk_from (g u n) d y od q) p o

  pub walk : {v x z : ℕ} → Own s v x → Reach (Edge s) x z → Met s v z
  walk {v} {x} {z} o p = walk_from (I.grounded v) x z o p

  -- no chain of waits comes back
  ring-from : {v : ℕ} → Grounded s v → (u : ℕ) → Next s v u → Reach (Next s) u v → ⊥
  ring-from (ground g) u n p = let f = first p n in ring-from (g u n) f.0 f.1 (trans f.2 (one n))

  pub ring : {v u : ℕ} → Next s v u → Reach (Next s) u v → ⊥
  ring {v} {u} n p = ring-from (I.grounded v) u n p

  -- two workers that meet each other are one
  meet : {v w : ℕ} → Reach (Next s) v w → Reach (Next s) w v → v ≡ w
  meet here q = refl
  meet (step n p) q = absurd (ring n (trans p q))

  -- what is mutual has one owner
  pub one-owner : {v x y : ℕ} → Mutual s x y → Own s v x → Own s v y
  one-owner {v} {x} {y} m o =
      let a = walk o m.to in
      let b = walk a.its m.from in
      let e : a.by ≡ v = meet (rw (own_unique b.its o) at b.chain) a.chain in
      rw e at a.its

  -- every claim of w reaches its newest
  pub to-newest : {w n x : ℕ} → Newest s w n → Own s w x → Reach (Edge s) x n
  to-newest {w} {n} {x} N o = go (I.order o N.its)
    where
      go : Order s x n → Reach (Edge s) x n
      go (leads p) = p
      go (newer {z = z} m l) = let b = N.last (one-owner m o) in absurd (omega arith)

  -- and the claim whose literal it passes
  pub to-literal : {w c b x : ℕ} → AtLiteral s w c b → Own s w x → Reach (Edge s) x c
  to-literal k o = trans (to-newest k.at.newest o) k.path

  -- what that claim leads to is w's, so it leads back
  pub literal-back : {w c b y : ℕ} → AtLiteral s w c b → s.Passed c y → s.mark y < 256 → Reach (Edge s) y c
  literal-back {w} {c} {b} {y} k p l = go (I.goes k.its (record { passed = p; ahead = l }))
    where
      go : Goes s w y → Reach (Edge s) y c
      go (own o) = to-literal k o
      go (away h m) = absurd (omega (arith, h.awaits, k.at.free))

pub at_ease : {s : State} {w q : ℕ} → AtQuestion s w q → Engaged s w → ⊥
at_ease k (awaiting e) = omega (arith, k.free)
at_ease k (owning o) = k.none o

pub has-question : {s : State} {w : ℕ} → Asked s w → (q : ℕ) × (s.asks w ≡ suc q)
has-question (met {q = q} e d) = (q, e)
has-question (left {q = q} e g) = (q, e)

-- A worker that waits on nothing ends the chain.
module _ {s : State} {w : ℕ} (free : s.awaited w ≡ 0) where
  pub waits-not : {d : ℕ} → Waits s w d → ⊥
  waits-not h = omega arith

  end_step : {u v : ℕ} → Next s u v → Reach (Next s) u w → Reach (Next s) v w
  end_step n here = absurd (waits-not n.waits)
  end_step n (step m q) = rw (next_unique m n) at q

  -- what is met on the way to the end meets the end
  pub to_end : {u v : ℕ} → Reach (Next s) u v → Reach (Next s) u w → Reach (Next s) v w
  to_end here q = q
  to_end (step n p) q = to_end p (end_step n q)
