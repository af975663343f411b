-- `waits` keeps what holds: the chain of waits from the claim's owner does not meet w. Assumes nothing.
use mathlib.Core.Path.{◌≡◌}
use Prim.Native.Nat.{ℕ, suc, ◌<◌}
use native.Mathlib.Omega.{arith}
use native.Mathlib.Decide.{ℕ_discrete}
use Rattle.base.specs.Graph.{Reach, here, step, new}
use Rattle.base.proofs.Paths.{trans, one}
use Rattle.waiting.specs.State.{State, Own, Done, Edge, Waits, Next, Grounded, ground, own, away, Engaged, awaiting, owning, Asked, met, left, Inv}
use Rattle.waiting.specs.Steps.{Claims, Awaits, WaitsAsked, WaitsOn}
use Rattle.waiting.proofs.Basics.{own_unique, waits-not, to-literal}
use Rattle.waiting.proofs.Within.{meets-within}
use Rattle.waiting.proofs.Marks.{claims-own, claims-owned}
use Rattle.waiting.proofs.Links.{Links, links_stay, links_pass}
use Rattle.waiting.proofs.Grows.{Grows, claims_grow, low, up, order, begun, named, closed, full, back, edge_goes, asked}

module _ {s s' : State} {w b : ℕ} (free : s.awaited w ≡ 0) (claims : Claims s s') (aw : Awaits s s' w b) where
  wait : (u d : ℕ) → Waits s u d → s'.awaited u ≡ suc d
  wait u d q = go (ℕ_discrete u w)
    where
      go : Dec (u ≡ w) → s'.awaited u ≡ suc d
      go (yes e) = absurd (waits-not free (rw e at q))
      go (no n) = omega (arith, aw.awaits u n)

  grows : Links s s' w b → Grows s s' w b
  grows l = claims_grow claims l wait

  pub engaged : {u : ℕ} → (u ≡ w → ⊥) → Engaged s' u → Engaged s u
  engaged {u} n (awaiting {d = d} e) = awaiting {d = d} (omega (arith, aw.awaits u n))
  engaged n (owning o) = owning (claims-owned claims o)

  pub asked-on : {T u : ℕ} → Inv s T → Links s s' w b → Engaged s u → Asked s' u
  asked-on {u = u} I l h = asked I (grows l) (λ u x o. own (claims-own claims o)) (aw.asks u) (I.asked h)

  waits-now : {h : ℕ} → Own s h b → Waits s' w b
  waits-now held = omega (arith, aw.await, held, claims.marks b)

module _ {s s' : State} {T w b h : ℕ} (I : Inv s T) (free : s.awaited w ≡ 0) (claims : Claims s s') (aw : Awaits s s' w b)
    (links : Links s s' w b) (held : Own s h b) (misses : Reach (Next s) h w → ⊥) where
  data Was (u d : ℕ) : Type 0 where
    was : Waits s u d → (u ≡ w → ⊥) → Was u d
    fresh : u ≡ w → d ≡ b → Was u d

  waited : {u d : ℕ} → Waits s' u d → Was u d
  waited {u} {d} q = go (ℕ_discrete u w)
    where
      go : Dec (u ≡ w) → Was u d
      go (yes e) = let f : s'.awaited u ≡ suc b = rw e aw.await in fresh e (omega arith)
      go (no n) = was (omega (arith, aw.awaits u n, claims.marks d)) n

  data WasNext (u t : ℕ) : Type 0 where
    was : Next s u t → WasNext u t
    fresh : u ≡ w → t ≡ h → WasNext u t

  next-before : {u t : ℕ} → Next s' u t → WasNext u t
  next-before {u} {t} n = go (waited n.waits)
    where
      go : Was u n.claim → WasNext u t
      go (Was.was q m) = was (record { claim = n.claim; waits = q; owner = claims-owned claims n.owner })
      go (Was.fresh e d) = fresh e (own_unique (rw d at (claims-owned claims n.owner)) held)

  -- those whose chain does not meet w
  apart : {u : ℕ} → Grounded s u → (Reach (Next s) u w → ⊥) → Grounded s' u
  apart (ground g) f = ground (λ t n. next f (next-before n) (λ m f. apart (g t m) f))
    where
      next : {u t : ℕ} → (Reach (Next s) u w → ⊥) → WasNext u t → (Next s u t → (Reach (Next s) t w → ⊥) → Grounded s' t) → Grounded s' t
      next f (was n) k = k n (λ p. f (step n p))
      next f (fresh e m) k = absurd (f (rw e here))

  grounded : {u : ℕ} → Grounded s u → Grounded s' u
  grounded (ground g) = ground (λ t n. next (next-before n) (λ m. grounded (g t m)))
    where
      next : {u t : ℕ} → WasNext u t → (Next s u t → Grounded s' t) → Grounded s' t
      next (was n) k = k n
      next (fresh e m) k = rw m (apart (I.grounded h) misses)

  module _ (to_b : (x : ℕ) → Own s w x → Reach (Edge s') x b) (ask : Asked s' w) (lone : (x : ℕ) → s.asks w ≡ suc b → Own s w x → ⊥) where
    alone : (u : ℕ) {d x : ℕ} → s'.awaited u ≡ suc d → s'.asks u ≡ suc d → Own s u x → ⊥
    alone u {d} {x} e f o = go (ℕ_discrete u w)
      where
        go : Dec (u ≡ w) → ⊥
        go (yes h) =
            let a : s'.awaited u ≡ suc b = rw h aw.await in
            let g : s.asks u ≡ suc b = omega (arith, aw.asks u) in
            lone x (rw h at g) (rw h at o)
        go (no n) = I.alone {w = u} {d = d} (omega (arith, aw.awaits u n)) (omega (arith, aw.asks u)) o

    reaches : {u d x : ℕ} → Was u d → Own s u x → Reach (Edge s') x d
    reaches (Was.was q n) o = up I (grows free claims aw links) (I.reaches q o)
    reaches (Was.fresh e f) o = rw f (to_b _ (rw e at o))

    all_asked : {u : ℕ} → Engaged s' u → Asked s' u
    all_asked {u} g = go (ℕ_discrete u w)
      where
        go : Dec (u ≡ w) → Asked s' u
        go (yes e) = rw e ask
        go (no n) = asked-on free claims aw I links (engaged free claims aw n g)

    was-owned : {u d : ℕ} → Was u d → 0 < s'.mark d
    was-owned {d = d} (Was.was q n) = omega (arith, I.owned q, claims.marks d)
    was-owned (Was.fresh e f) = rw f (omega (arith, held, claims.marks b))

    waits_keep : Inv s' T
    waits_keep =
        let g = grows free claims aw links in
        record {
          begun = λ p. begun I g p;
          named = λ p. named I g (omega (arith, held, claims.marks b)) p;
          closed = λ p d. closed I g p d;
          full = λ d. full I g d;
          counted = λ x. omega (arith, I.counted x, claims.numbers x, claims.opened);
          workers = λ o. I.workers (claims-owned claims o);
          order = λ o p. order I g (claims-owned claims o) (claims-owned claims p);
          owned = λ q. was-owned (waited q);
          reaches = λ q o. reaches (waited q) (claims-owned claims o);
          goes = λ o e. edge_goes I g (λ u x p. own (claims-own claims p)) (claims-owned claims o) (low I g e.ahead)
              (λ l p. rw (own_unique (claims-owned claims o) p) (away (waits-now free claims aw held) (record { to = here; from = here })))
              (g.links.more e.passed);
          grounded = λ u. grounded (I.grounded u);
          asked = λ h. all_asked h;
          alone = λ {w = u} e f o. alone u e f (claims-owned claims o);
          back = λ p l. back I g p l;
        }

-- the end of a chain owns something
end_owns : {s : State} {w v b : ℕ} → Reach (Next s) v w → Own s v b → (x : ℕ) × Own s w x
end_owns {b = b} here o = (b, o)
end_owns (step n p) o = end_owns p n.owner

module _ {s s' : State} {T w q : ℕ} (I : Inv s T) (k : WaitsAsked s s' w q) where
  pub waits-asked-keeps : Inv s' T
  waits-asked-keeps =
      waits_keep I k.at.free k.claims k.awaits (links_stay I q k.literals) k.held (λ p. k.at.none (end_owns p k.held).1)
      (λ x o. absurd (k.at.none o))
      (left {q = q} (omega (arith, k.awaits.asks w, k.at.asks))
      (away (waits-now k.at.free k.claims k.awaits k.held) (record { to = here; from = here })))
      (λ x e o. k.at.none o)

module _ {s s' : State} {T w c b : ℕ} (I : Inv s T) (k : WaitsOn s s' T w c b) where
  lone : s.asks w ≡ suc b → Asked s w → ⊥
  lone e (met {q = q} f d) = let g : q ≡ b = omega arith in let h : Done s b = rw g at d in omega (arith, k.held)
  lone e (left {q = q} f (own o)) = let g : q ≡ b = omega arith in k.other (own_unique k.held (rw g at o))
  lone e (left f (away h m)) = waits-not k.at.at.free h

  pub waits-keeps : Inv s' T
  waits-keeps =
      let l = links_pass I k.at k.literals in
      let g = grows k.at.at.free k.claims k.awaits l in
      let n : Edge s' c b = record { passed = k.literals.less new; ahead = omega (arith, k.held, k.claims.marks b) } in
      waits_keep I k.at.at.free k.claims k.awaits l k.held (λ p. k.misses (meets-within I (I.workers k.held) p))
      (λ x o. trans (up I g (to-literal I k.at o)) (one n))
      (asked-on k.at.at.free k.claims k.awaits I l (owning k.at.its))
      (λ x e o. lone e (I.asked (owning k.at.its)))
