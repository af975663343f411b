-- Laws of reaching, and of two changes of a relation: one edge more, and a closed set less. Assumes nothing.
use Prim.Native.Nat.{ℕ}
use mathlib.Core.Logic.{◌⊎◌, inl, inr}
use Rattle.base.specs.Graph.{Reach, here, step, Plus, old, new}

module _ {E : ℕ → ℕ → Type 0} where
  pub trans : {x y z : ℕ} → Reach E x y → Reach E y z → Reach E x z
  trans here q = q
  trans (step e p) q = step e (trans p q)

  pub one : {x y : ℕ} → E x y → Reach E x y
  one e = step e here

  -- on a ring there is a first step
  pub first : {u v : ℕ} → Reach E u v → E v u → (y : ℕ) × E u y × Reach E y v
  first {u} here n = (u, n, here)
  first (step {y = y} m q) n = (y, m, q)

module _ {E F : ℕ → ℕ → Type 0} (f : (x y : ℕ) → E x y → F x y) where
  pub map : {x y : ℕ} → Reach E x y → Reach F x y
  map here = here
  map (step e p) = step (f _ _ e) (map p)

-- One edge more: what is reached then was reached before, or over the new edge.
module _ {E : ℕ → ℕ → Type 0} {c b : ℕ} where
  plus_step : {x y z : ℕ} → Plus E c b x y → Reach E y z ⊎ (Reach E y c × Reach E b z) → Reach E x z ⊎ (Reach E x c × Reach E b z)
  plus_step (old e) (inl p) = inl (step e p)
  plus_step (old e) (inr p) = inr (step e p.0, p.1)
  plus_step new (inl p) = inr (here, p)
  plus_step new (inr p) = inr (here, p.1)

  pub plus_inv : {x y : ℕ} → Reach (Plus E c b) x y → Reach E x y ⊎ (Reach E x c × Reach E b y)
  plus_inv here = inl here
  plus_inv (step e p) = plus_step e (plus_inv p)

-- A closed set less: a path that enters the set stays there, so one that ends outside has not met it.
module _ {E : ℕ → ℕ → Type 0} (R : ℕ → Type 0) (closed : (x y : ℕ) → E x y → R x → R y) where
  pub stays : {x y : ℕ} → Reach E x y → R x → R y
  stays here r = r
  stays (step e p) r = stays p (closed _ _ e r)

  module _ {F : ℕ → ℕ → Type 0} (fun : (x y : ℕ) → E x y → (R y → ⊥) → F x y) where
    pub minus_fun : {x y : ℕ} → Reach E x y → (R y → ⊥) → Reach F x y
    minus_fun here n = here
    minus_fun (step e p) n = step (fun _ _ e (λ r. n (stays p r))) (minus_fun p n)
