-- Looking through the numbers below a bound. Assumes nothing.
use mathlib.Core.Path.{◌≡◌, refl}
use mathlib.Core.Bool.{Bool, true, false}
use Prim.Native.Nat.{ℕ, zero, suc, ◌≤◌, ◌<◌}
use native.Mathlib.Omega.{arith}
use native.Mathlib.Nat.{le_refl}
use native.Mathlib.Decide.{ℕ_discrete, dec_le}

-- what holds below a and at a holds below a + 1
pub below_suc : (Q : ℕ → Type 0) (a : ℕ) → ((y : ℕ) → y < a → Q y) → Q a → (y : ℕ) → y < suc a → Q y
below_suc Q a f q y h = go (ℕ_discrete y a)
  where
    go : Dec (y ≡ a) → Q y
    go (yes e) = rw e q
    go (no n) = f y (omega arith)

-- a number below a of which P holds, or none
pub data Found (P : ℕ → Type 0) (a : ℕ) : Type 0 where
  found : (x : ℕ) → x < a → P x → Found P a
  none : ((x : ℕ) → x < a → P x → ⊥) → Found P a

-- one of which P holds and at which f is greatest, of those below a, or none
pub data Best (P : ℕ → Type 0) (f : ℕ → ℕ) (a : ℕ) : Type 0 where
  best : (x : ℕ) → P x → ((y : ℕ) → y < a → P y → f y ≤ f x) → Best P f a
  none : ((x : ℕ) → x < a → P x → ⊥) → Best P f a

module _ (P : ℕ → Type 0) (p? : (x : ℕ) → Dec (P x)) where
  find_step : (a : ℕ) → Dec (P a) → Found P a → Found P (suc a)
  find_step a (yes p) r = found a (omega arith) p
  find_step a (no n) (found x h p) = found x (omega arith) p
  find_step a (no n) (none f) = none (below_suc (λ x. P x → ⊥) a f n)

  pub find : (a : ℕ) → Found P a
  find zero = none (λ x h. absurd (omega arith))
  find (suc a) = find_step a (p? a) (find a)

  module _ (f : ℕ → ℕ) where
    better : (a : ℕ) → P a → (x : ℕ) → P x → ((y : ℕ) → y < a → P y → f y ≤ f x) → Dec (f a ≤ f x) → Best P f (suc a)
    better a p x q g (yes l) = best x q (below_suc (λ y. P y → f y ≤ f x) a g (λ q. l))
    better a p x q g (no l) =
        best a p (below_suc (λ y. P y → f y ≤ f a) a (λ y h r. let z = g y h r in omega arith) (λ q. le_refl (f a)))

    best_step : (a : ℕ) → Dec (P a) → Best P f a → Best P f (suc a)
    best_step a (yes p) (best x q g) = better a p x q g (dec_le (f a) (f x))
    best_step a (yes p) (none g) = best a p (below_suc (λ y. P y → f y ≤ f a) a (λ y h r. absurd (g y h r)) (λ q. le_refl (f a)))
    best_step a (no n) (best x q g) = best x q (below_suc (λ y. P y → f y ≤ f x) a g (λ p. absurd (n p)))
    best_step a (no n) (none g) = none (below_suc (λ x. P x → ⊥) a g n)

    pub greatest : (a : ℕ) → Best P f a
    greatest zero = none (λ x h. absurd (omega arith))
    greatest (suc a) = best_step a (p? a) (greatest a)

-- the first number below n at which a test holds, or none
pub data First (test : ℕ → Bool) (n : ℕ) : Type 0 where
  first : (i : ℕ) → i < n → ((k : ℕ) → k < i → test k ≡ false) → test i ≡ true → First test n
  none : ((k : ℕ) → k < n → test k ≡ false) → First test n

pub first_of : (test : ℕ → Bool) (n : ℕ) → First test n
first_of test zero = none (λ k l. absurd (omega arith))
first_of test (suc n) = go (test n) refl (first_of test n)
  where
    go : (b : Bool) → test n ≡ b → First test n → First test (suc n)
    go b e (first i l f h) = first i (omega arith) f h
    go true e (none f) = first n (omega arith) f e
    go false e (none f) = none (below_suc (λ k. test k ≡ false) n f e)
