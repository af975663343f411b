-- `took` keeps what holds: all that C reaches is mutual with C, and of workers on the chain of waits that ends at w. Assumes nothing.
use mathlib.Core.Logic.{◌⊎◌, inl, inr}
use Prim.Native.Nat.{ℕ}
use native.Mathlib.Omega.{arith}
use Rattle.base.specs.Graph.{Reach, here, step, Plus, old, new}
use Rattle.base.proofs.Paths.{trans, one, map, plus_inv}
use Rattle.waiting.specs.State.{State, Own, Done, Edge, Next, Order, leads, newer, Goes, own, away, owning, Inv}
use Rattle.waiting.specs.Steps.{Took, TakenMark, taken, kept}
use Rattle.waiting.proofs.Basics.{own_unique, walk, to-literal, to_end}
use Rattle.waiting.proofs.Within.{within_reach}
use Rattle.waiting.proofs.Marks.{took_aged, took_done}
use Rattle.waiting.proofs.Links.{links_pass}
use Rattle.waiting.proofs.Grows.{Grows, low-now, edge, up, waits, newer-now, asked}
use Rattle.waiting.proofs.Gains.{Was, was, got, Gains}

module _ {s s' : State} {T w c b : ℕ} (I : Inv s T) (k : Took s s' T w c b) where
  -- reached from c once it has passed its literal
  abbrev R : ℕ → Type 0
  R x = Reach (Plus (Edge s) c b) c x

  was_done : {x : ℕ} → Done s' x → Done s x
  was_done {x} h = go (k.marks x)
    where
      go : TakenMark s s' w c b x → Done s x
      go (taken r p q e) = omega (arith, k.at.its)
      go (kept n e) = omega arith

  grows : Grows s s' w b
  grows = record {
    links = links_pass I k.at k.literals;
    aged = λ p. took_aged k p;
    done = λ d. took_done k d;
    was_done = λ d. was_done d;
    numbers = λ {x = x} o. k.numbers x;
    wait = λ {u = u} q. omega (arith, k.workers.awaits u);
  }

  plus_edge : {x y : ℕ} → Plus (Edge s) c b x y → Edge s' x y
  plus_edge (old e) = edge I grows e
  plus_edge new = record { passed = k.literals.less new; ahead = low-now I grows k.held.still }

  up_r : {x y : ℕ} → Reach (Plus (Edge s) c b) x y → Reach (Edge s') x y
  up_r p = map (λ x y e. plus_edge e) p

  -- all of a worker whose chain meets w reaches c
  met-to_c : {u x : ℕ} → Reach (Next s) u w → Own s u x → Reach (Edge s) x c
  met-to_c here o = to-literal I k.at o
  met-to_c (step n p) o = trans (I.reaches n.waits o) (met-to_c p n.owner)

  -- the owner of what is reached from c meets w
  reached : {x : ℕ} → R x → (u : ℕ) × Own s u x × Reach (Next s) u w
  reached {x} r = go (plus_inv r)
    where
      go : Reach (Edge s) c x ⊎ (Reach (Edge s) c c × Reach (Edge s) b x) → (u : ℕ) × Own s u x × Reach (Next s) u w
      go (inl p) = let m = walk I k.at.its p in (m.by, m.its, to_end k.at.at.free m.chain here)
      go (inr p) = let m = walk I k.held p.1 in (m.by, m.its, to_end k.at.at.free m.chain (within_reach k.meets))

  back : {x : ℕ} → R x → Reach (Edge s) x c
  back r = let m = reached r in met-to_c m.2 m.1

  pub own-taken : {x : ℕ} → R x → Own s' w x
  own-taken {x} r = go (k.marks x)
    where
      go : TakenMark s s' w c b x → Own s' w x
      go (taken r p q e) = omega (arith, k.at.its)
      go (kept n e) = let m = reached r in absurd (n r (omega (arith, m.1)) m.1.still)

  owned : (u x : ℕ) → Own s' u x → Was s w R u x
  owned u x o = go (k.marks x)
    where
      go : TakenMark s s' w c b x → Was s w R u x
      go (taken r p q e) = got (omega arith) r
      go (kept n e) = was (omega arith)

  -- what was u's is u's still, or went with the claim that u waits on
  keeps : (u y : ℕ) → Own s u y → Goes s' u y
  keeps u y o = go (k.marks y)
    where
      on : {u : ℕ} → R y → Own s u y → Reach (Next s) u w → Goes s' u y
      on r o here = own (own-taken r)
      on r o (step n p) =
          away (waits I grows n.waits)
          (record { to = up I grows (I.reaches n.waits o); from = trans (up I grows (met-to_c p n.owner)) (up_r r) })

      go : TakenMark s s' w c b y → Goes s' u y
      go (taken r p q e) = let m = reached r in on r o (rw (own_unique m.1 o) at m.2)
      go (kept n e) = own (omega arith)

  outof : (x y : ℕ) → R x → Own s w y → Order s' x y
  outof x y r o = go (I.order k.at.its o)
    where
      go : Order s c y → Order s' x y
      go (leads q) = leads (up I grows (trans (back r) q))
      go (newer q l) =
          newer (record { to = up I grows (trans (back r) q.to); from = trans (up I grows q.from) (up_r r) })
          (newer-now I grows k.at.its o q l)

  pub took_gains : Gains s s' T w b R
  took_gains = record {
    grows = grows;
    waited = λ u d e. omega (arith, k.workers.awaits u);
    asks = λ u g. k.workers.asks u;
    counted = λ x. omega (arith, I.counted x, k.numbers x, k.opened);
    marked = took_aged k (omega (arith, k.held));
    owned = owned;
    keeps = keeps;
    ahead = λ l. own-taken (one new);
    free = λ x r. k.at.at.free;
    small = λ x r. I.workers k.at.its;
    question = λ x r. asked I grows keeps (k.workers.asks w) (I.asked (owning k.at.its));
    inner = λ x y r e. own-taken (trans r (one (old e)));
    into = λ x y o r. trans (up I grows (to-literal I k.at o)) (up_r r);
    among = λ x y r q. trans (up I grows (back r)) (up_r q);
    outof = outof;
  }
