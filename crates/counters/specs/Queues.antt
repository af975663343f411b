-- Queues of keys (specs/Positions), which the evaluation takes one after the other.
--   seen q i k           key k is among the first i of the queue q
--   Queue n q t          a queue of t keys below n, each once
--   SameRoom old new     a queue is in the array that it was in, which is as long as before
--   pending s q t i x p  position p's key is on the queue and not taken yet, where the keys before place i are taken, and of the key at i
--                        the positions from x on
--   Joined c w q t ..    w, the queue and its length after claim c joined them, unless it was in w
--   JoinedIf b c ..      the same if b is true; else nothing changed
--   Joins ok w q t ..    the same after some claims joined one by one, each of them ok
--   Fits A w q t         a set of A claims, and a queue of which the plain claims are in it
--   Grown                w and the queue were w₀ and q₀ before: each claim that joined w is on the queue, and nothing else was added
use Rattle.std.specs.Prelude.{ℕ, zero, suc, ◌+◌, ◌*◌, ◌<◌, ◌≤◌, ◌≡◌, Bool, true, false, not, cond, ◌&&◌, ◌||◌, List, T, ltb, eqb, length, get_or, set}
use Rattle.base.specs.Sets.{Claims, ◌⊆◌, set_of}
use Rattle.counters.specs.Positions.{key_at}
use Rattle.counters.specs.declared.key_queue.KeyQueue.{KeyQueue}

unfoldable pub seen : List ℕ → ℕ → Claims
seen q zero k = false
seen q (suc i) k = eqb (get_or q i 0) k || seen q i k

pub record Queue (n : ℕ) (q : List ℕ) (t : ℕ) : Type 0 where
  pub long : n ≤ length q
  pub fresh : (j : ℕ) → j < t → seen q j (get_or q j 0) ≡ false
  pub small : (j : ℕ) → j < t → get_or q j 0 < n

pub record SameRoom (old new : KeyQueue) : Type 0 where
  pub same : new.keys.ghost_name ≡ old.keys.ghost_name
  pub long : length new.keys.now ≡ length old.keys.now

unfoldable pub pending : List ℕ → List ℕ → ℕ → ℕ → ℕ → ℕ → Bool
pending s q t i x p =
    seen q t (key_at s p) && (not (seen q i (key_at s p)) && not (eqb (key_at s p) (get_or q i 0) && not (ltb p x)))

pub record Joined (c : ℕ) (w q : List ℕ) (t : ℕ) (w' q' : List ℕ) (t' : ℕ) : Type 0 where
  pub claims_are : w' ≡ cond (set_of w c) w (set w c 1)
  pub queue_is : q' ≡ cond (set_of w c) q (set q t (2 * c))
  pub top_is : t' ≡ cond (set_of w c) t (t + 1)

pub record JoinedIf (b : Bool) (c : ℕ) (w q : List ℕ) (t : ℕ) (w' q' : List ℕ) (t' : ℕ) : Type 0 where
  pub is : b ≡ true → Joined c w q t w' q' t'
  pub not : b ≡ false → (w' ≡ w) × (q' ≡ q) × (t' ≡ t)

pub data Joins (ok : ℕ → Type 0) (w q : List ℕ) (t : ℕ) : List ℕ → List ℕ → ℕ → Type 0 where
  none : Joins ok w q t w q t
  more :
      {w₁ q₁ w₂ q₂ : List ℕ} {t₁ t₂ : ℕ} (c : ℕ) → Joins ok w q t w₁ q₁ t₁ → ok c → Joined c w₁ q₁ t₁ w₂ q₂ t₂
      → Joins ok w q t w₂ q₂ t₂

pub record Fits (A : ℕ) (w q : List ℕ) (t : ℕ) : Type 0 where
  pub queue : Queue (2 * A) q t
  pub size : length w ≡ A
  pub plain : (c : ℕ) → T (seen q t (2 * c)) → T (set_of w c)

pub record Grown (w₀ q₀ : List ℕ) (t₀ : ℕ) (w q : List ℕ) (t : ℕ) : Type 0 where
  pub keeps : set_of w₀ ⊆ set_of w
  pub joined : (c : ℕ) → seen q t (2 * c) ≡ (seen q₀ t₀ (2 * c) || (set_of w c && not (set_of w₀ c)))
  pub others : (c : ℕ) → seen q t (2 * c + 1) ≡ seen q₀ t₀ (2 * c + 1)
