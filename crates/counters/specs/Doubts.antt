-- U shrinks by counters where K has grown (01: U = D(K)): a rule counts the positions of its body whose literal fails. Claims that a rule held
-- up which fails now are doubted: they leave U for a list, and those that another rule holds up come back.
--   stays k u c          claim c is not doubted: it is outside u, or in k
--   Left k c u q t ..    u, the list and its length after claim c left u for the list, unless it stays
--   Owed s k cnt u q r t ..   counters, u and the list after a position of rule r failed: the rule counts one more, and from 0 on its head leaves
--   Falling s K own cnt u q i x t   the counters of a U that shrinks against K: each position whose literal fails, and is not pending, is due
--   Fallen               u and the list were u₀ and q₀ before: each claim that left u is on the list, and nothing else was added
--   Kept s K cnt₀ cnt u  each rule that counted nothing, and whose head is still in u and not in K, counts nothing now
--   Sunk                 u fell from u₀, by the counters: up to place i of the list, where the positions from x on have failed
--   Negations, Doubted, Lost, Recovered   what the steps between leave
use Rattle.std.specs.Prelude.{ℕ, ◌+◌, ◌*◌, ◌<◌, ◌≤◌, ◌≡◌, Bool, false, not, cond, ◌&&◌, ◌||◌, List, T, length, get_or, set}
use Rattle.base.specs.Sets.{Claims, set_of}
use Rattle.job.specs.Format.{claims, rules, head_at}
use Rattle.counters.specs.Positions.{keys, fail_base, Counts}
use Rattle.counters.specs.Queues.{seen, Queue, pending, Joins}
use Rattle.counters.specs.Counters.{lacking, Idle}

unfoldable pub stays : List ℕ → List ℕ → ℕ → Bool
stays k u c = not (set_of u c) || set_of k c

pub record Left (k : List ℕ) (c : ℕ) (u q : List ℕ) (t : ℕ) (u' q' : List ℕ) (t' : ℕ) : Type 0 where
  pub claims_are : u' ≡ cond (stays k u c) u (set u c 0)
  pub queue_is : q' ≡ cond (stays k u c) q (set q t (2 * c))
  pub top_is : t' ≡ cond (stays k u c) t (t + 1)

pub record Owed (s k cnt u q : List ℕ) (r t : ℕ) (cnt' u' q' : List ℕ) (t' : ℕ) : Type 0 where
  pub raised : cnt' ≡ set cnt r (get_or cnt r 0 + 1)
  pub stands : (get_or cnt r 0 ≡ 0 → ⊥) → (u' ≡ u) × (q' ≡ q) × (t' ≡ t)
  pub leaves : get_or cnt r 0 ≡ 0 → Left k (head_at s r) u q t u' q' t'

pub record Falling (s : List ℕ) (K : Claims) (own cnt u q : List ℕ) (i x t : ℕ) : Type 0 where
  pub counts : Counts s own cnt fail_base (λ p. lacking s K (set_of u) p && not (pending s q t i x p))
  pub queue : Queue (keys s) q t
  pub size : length u ≡ claims s
  pub plain : (c : ℕ) → T (seen q t (2 * c)) → T (set_of u c) → ⊥
  pub negated : (c : ℕ) → T (seen q t (2 * c + 1)) → T (K c)

pub record Fallen (u₀ q₀ : List ℕ) (t₀ : ℕ) (u q : List ℕ) (t : ℕ) : Type 0 where
  pub up : t₀ ≤ t
  pub left : (c : ℕ) → (set_of u₀ c || seen q₀ t₀ (2 * c)) ≡ (set_of u c || seen q t (2 * c))
  pub others : (c : ℕ) → seen q t (2 * c + 1) ≡ seen q₀ t₀ (2 * c + 1)
  pub front : (j : ℕ) → j < t₀ → get_or q j 0 ≡ get_or q₀ j 0
  pub evens : (j : ℕ) → t₀ ≤ j → j < t → (c : ℕ) × (get_or q j 0 ≡ 2 * c)

pub record Kept (s : List ℕ) (K : Claims) (cnt₀ cnt u : List ℕ) : Type 0 where
  pub kept :
      (r : ℕ) → r < rules s → get_or cnt₀ r 0 ≡ 0 → T (set_of u (head_at s r)) → (T (K (head_at s r)) → ⊥) → get_or cnt r 0 ≡ 0

pub record Sunk (s k own cnt₀ u₀ q₀ : List ℕ) (t₀ : ℕ) (cnt u q : List ℕ) (i x t : ℕ) : Type 0 where
  pub falling : Falling s (set_of k) own cnt u q i x t
  pub fallen : Fallen u₀ q₀ t₀ u q t
  pub kept : Kept s (set_of k) cnt₀ cnt u

-- what `negate` leaves: the negations of the plain claims of a queue
pub record Negations (q : List ℕ) (t : ℕ) (l : List ℕ) (n : ℕ) : Type 0 where
  pub queue : (A : ℕ) → 2 * A ≤ length l → Queue (2 * A) q t → Queue (2 * A) l n
  pub plain : (c : ℕ) → seen l n (2 * c) ≡ false
  pub negated : (c : ℕ) → seen l n (2 * c + 1) ≡ seen q t (2 * c)

-- a list of which the claims from one place on are doubted: plain keys, and none before
pub record Doubted (A : ℕ) (l : List ℕ) (from end : ℕ) : Type 0 where
  pub queue : Queue (2 * A) l end
  pub ordered : from ≤ end
  pub before : (c : ℕ) → seen l from (2 * c) ≡ false
  pub evens : (j : ℕ) → from ≤ j → j < end → (c : ℕ) × (get_or l j 0 ≡ 2 * c)

-- what `lose` leaves: the negations of the doubted claims outside u, after a queue q that has none
pub record Lost (u l : List ℕ) (end : ℕ) (q : List ℕ) (t : ℕ) (q' : List ℕ) (t' : ℕ) : Type 0 where
  pub queue : Queue (2 * length u) q' t'
  pub up : t ≤ t'
  pub plain : (c : ℕ) → seen q' t' (2 * c) ≡ seen q t (2 * c)
  pub negated : (c : ℕ) → seen q' t' (2 * c + 1) ≡ (seen l end (2 * c) && not (set_of u c))

-- what `recover` leaves: doubted claims that a rule holds up are in u and on the queue
pub record Recovered (s fail l : List ℕ) (end : ℕ) (u q u' q' : List ℕ) (t : ℕ) : Type 0 where
  pub joins : Joins (Idle s fail) u q 0 u' q' t
  pub found : (c : ℕ) → T (seen l end (2 * c)) → Idle s fail c → T (set_of u' c)
