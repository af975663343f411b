-- `passed`, `skipped`, `woke` and `answered` keep what holds: no claim is opened, taken or completed, and nobody comes to wait. Assumes nothing.
use mathlib.Core.Path.{◌≡◌}
use Prim.Native.Nat.{ℕ, suc, ◌<◌}
use native.Mathlib.Omega.{arith}
use native.Mathlib.Decide.{ℕ_discrete}
use Rattle.waiting.specs.State.{State, Own, Done, Waits, own, Engaged, Inv}
use Rattle.waiting.specs.Steps.{Claims, PassedTo, complete, own as to-own, Woke, Answered, PassedOn, Skipped}
use Rattle.waiting.proofs.Basics.{at_ease}
use Rattle.waiting.proofs.Marks.{claims-own, claims-owned}
use Rattle.waiting.proofs.Links.{Links, links_stay, links_pass, links_skip}
use Rattle.waiting.proofs.Grows.{claims_grow}
use Rattle.waiting.proofs.Gains.{was, Gains}

passed_to : {s : State} {w b : ℕ} → s.mark b < 256 → PassedTo s w b → Own s w b
passed_to l (complete d) = absurd (omega arith)
passed_to l (to-own o) = o

to-marked : {s : State} {w b : ℕ} → PassedTo s w b → 0 < s.mark b
to-marked (complete d) = omega arith
to-marked (to-own o) = omega arith

module _ {s s' : State} {T w b : ℕ} (I : Inv s T) (k : Claims s s') (links : Links s s' w b) (to : PassedTo s w b)
    (wait : (u d : ℕ) → Waits s u d → s'.awaited u ≡ suc d) (waited : (u d : ℕ) → s'.awaited u ≡ suc d → s.awaited u ≡ suc d)
    (asks : (u : ℕ) → Engaged s u → s'.asks u ≡ s.asks u) where
  still_gains : Gains s s' T w b (λ x. ⊥)
  still_gains = record {
    grows = claims_grow k links wait;
    waited = waited;
    asks = asks;
    counted = λ x. omega (arith, I.counted x, k.numbers x, k.opened);
    marked = omega (arith, k.marks b, to-marked to);
    owned = λ u x o. was (claims-owned k o);
    keeps = λ u x o. own (claims-own k o);
    ahead = λ l. claims-own k (passed_to l to);
    free = λ x r. absurd r;
    small = λ x r. absurd r;
    question = λ x r. absurd r;
    inner = λ x y r. absurd r;
    into = λ x y o r. absurd r;
    among = λ x y r. absurd r;
    outof = λ x y r. absurd r;
  }

module _ {s s' : State} {T w c b : ℕ} (I : Inv s T) (k : PassedOn s s' w c b) where
  pub passed_gains : Gains s s' T w b (λ x. ⊥)
  passed_gains =
      still_gains I k.claims (links_pass I k.at k.literals) k.to
      (λ u d q. omega (arith, k.workers.awaits u)) (λ u d e. omega (arith, k.workers.awaits u)) (λ u g. k.workers.asks u)

module _ {s s' : State} {T w c b : ℕ} (I : Inv s T) (k : Skipped s s' w c b) where
  pub skipped_gains : Gains s s' T w c (λ x. ⊥)
  skipped_gains =
      still_gains I k.claims (links_skip I k.at c k.literals) (to-own k.at.its)
      (λ u d q. omega (arith, k.workers.awaits u)) (λ u d e. omega (arith, k.workers.awaits u)) (λ u g. k.workers.asks u)

module _ {s s' : State} {T w : ℕ} (I : Inv s T) (k : Woke s s' w) where
  wait : (u d : ℕ) → Waits s u d → s'.awaited u ≡ suc d
  wait u d q = go (ℕ_discrete u w)
    where
      go : Dec (u ≡ w) → s'.awaited u ≡ suc d
      go (yes e) =
          let f : s.awaited u ≡ suc k.claim = rw e k.awaited in
          let g : d ≡ k.claim = omega arith in
          let h : Done s d = rw g k.over in
          absurd (omega arith)
      go (no n) = omega (arith, k.awaits u n)

  waited : (u d : ℕ) → s'.awaited u ≡ suc d → s.awaited u ≡ suc d
  waited u d a = go (ℕ_discrete u w)
    where
      go : Dec (u ≡ w) → s.awaited u ≡ suc d
      go (yes e) = let f : s'.awaited u ≡ 0 = rw e k.free in absurd (omega arith)
      go (no n) = omega (arith, k.awaits u n)

  pub woke_gains : Gains s s' T w k.claim (λ x. ⊥)
  woke_gains = still_gains I k.claims (links_stay I k.claim k.literals) (complete k.over) wait waited (λ u g. k.asks u)

module _ {s s' : State} {T w q : ℕ} (I : Inv s T) (k : Answered s s' w q) where
  pub answered_gains : Gains s s' T w q (λ x. ⊥)
  answered_gains =
      still_gains I k.claims (links_stay I q k.literals) (complete k.over)
      (λ u d h. omega (arith, k.awaits u)) (λ u d e. omega (arith, k.awaits u))
      (λ u g. k.asks u (λ e. at_ease k.at (rw e at g)))
