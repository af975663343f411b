-- `opened` keeps what holds: w gains the claim that it opens, newer than all of its. Assumes nothing.
use mathlib.Core.Path.{◌≡◌}
use Prim.Native.Nat.{ℕ, suc, ◌≤◌, ◌<◌}
use native.Mathlib.Omega.{arith}
use native.Mathlib.Decide.{ℕ_discrete}
use Rattle.base.specs.Graph.{Reach, here, new}
use Rattle.base.proofs.Paths.{trans, one}
use Rattle.waiting.specs.State.{State, Own, Done, Edge, newer, own, owning, Asked, left, Inv}
use Rattle.waiting.specs.Steps.{Opens, Workers, OpenedAsked, Opened}
use Rattle.waiting.proofs.Basics.{own_unique, to-literal}
use Rattle.waiting.proofs.Marks.{not_b, opens_aged, opens_done, opens-own}
use Rattle.waiting.proofs.Links.{Links, links_stay, links_pass}
use Rattle.waiting.proofs.Grows.{Grows, up, asked}
use Rattle.waiting.proofs.Gains.{Was, was, got, Gains}

module _ {s s' : State} {T w b : ℕ} (I : Inv s T) (small : w < T) (few : T ≤ 32) (opens : Opens s s' w b) (workers : Workers s s') where
  owns-now : Own s' w b
  owns-now = omega (arith, opens.mark)

  was_done : {x : ℕ} → Done s' x → Done s x
  was_done {x} d = go (ℕ_discrete x b)
    where
      go : Dec (x ≡ b) → Done s x
      go (yes e) = let f : s'.mark x ≡ suc w = rw e opens.mark in omega arith
      go (no n) = omega (arith, opens.marks x n)

  owned : (u x : ℕ) → Own s' u x → Was s w (λ z. z ≡ b) u x
  owned u x o = go (ℕ_discrete x b)
    where
      go : Dec (x ≡ b) → Was s w (λ z. z ≡ b) u x
      go (yes e) = got (own_unique (rw e at o) owns-now) e
      go (no n) = was (omega (arith, opens.marks x n))

  counted : (x : ℕ) → s'.number x ≤ s'.opened
  counted x = go (ℕ_discrete x b)
    where
      go : Dec (x ≡ b) → s'.number x ≤ s'.opened
      go (yes e) = let f : s'.number x ≡ suc s.opened = rw e opens.number in omega (arith, opens.opened)
      go (no n) = omega (arith, opens.numbers x n, I.counted x, opens.opened)

  number_old : {u x : ℕ} → Own s u x → s'.number x ≡ s.number x
  number_old {u} {x} o = opens.numbers x (not_b opens (omega arith))

  opens_grow : Links s s' w b → Grows s s' w b
  opens_grow l = record {
    links = l;
    aged = λ p. opens_aged opens p;
    done = λ d. opens_done opens d;
    was_done = λ d. was_done d;
    numbers = λ o. number_old o;
    wait = λ {u = u} q. omega (arith, workers.awaits u);
  }

  module _ (free : s.awaited w ≡ 0) (links : Links s s' w b) (to_b : (x : ℕ) → Own s w x → Reach (Edge s') x b) (ask : Asked s' w) where
    opens_gain : Gains s s' T w b (λ z. z ≡ b)
    opens_gain = record {
      grows = opens_grow links;
      waited = λ u d e. omega (arith, workers.awaits u);
      asks = λ u g. workers.asks u;
      counted = counted;
      marked = omega (arith, opens.mark);
      owned = owned;
      keeps = λ u x o. own (opens-own opens o);
      ahead = λ l. owns-now;
      free = λ x r. free;
      small = λ x r. small;
      question = λ x r. ask;
      inner = λ x y r e. absurd (not_b opens (I.begun e.passed) r);
      into = λ x y o r. rw r (to_b x o);
      among = λ x y r q. rw (r, q) here;
      outof = λ x y r o. rw r (newer {z = b} (record { to = here; from = here }) (omega (arith, number_old o, I.counted y, opens.number)));
    }

module _ {s s' : State} {T w q : ℕ} (I : Inv s T) (small : w < T) (few : T ≤ 32) (k : OpenedAsked s s' w q) where
  pub asked_gains : Gains s s' T w q (λ z. z ≡ q)
  asked_gains =
      opens_gain I small few k.opens k.workers k.at.free (links_stay I q k.literals) (λ x o. absurd (k.at.none o))
      (left {q = q} (omega (arith, k.workers.asks w, k.at.asks)) (own (owns-now I small few k.opens k.workers)))

module _ {s s' : State} {T w c b : ℕ} (I : Inv s T) (small : w < T) (few : T ≤ 32) (k : Opened s s' w c b) where
  pub opened_gains : Gains s s' T w b (λ z. z ≡ b)
  opened_gains =
      let l = links_pass I k.at k.literals in
      let g = opens_grow I small few k.opens k.workers l in
      let n : Edge s' c b = record { passed = k.literals.less new; ahead = omega (arith, k.opens.mark) } in
      opens_gain I small few k.opens k.workers k.at.at.free l (λ x o. trans (up I g (to-literal I k.at o)) (one n))
      (asked I g (λ u x o. own (opens-own k.opens o)) (k.workers.asks w) (I.asked (owning k.at.its)))
