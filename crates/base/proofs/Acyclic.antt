-- A path between numbers below n of more than n steps has a ring; so along a relation without rings it has at most n. Assumes nothing.
use Prim.Native.Nat.{ℕ, ◌≤◌, ◌<◌}
use mathlib.Core.Path.{refl}
use mathlib.Core.Bool.{◌||◌}
use mathlib.Core.Logic.{◌⊎◌, inl, inr, ⊎_elim, by_cases}
use native.Mathlib.Omega.{arith}
use lib.Dec.{T, eqb}
use borrow.Author.Tests.{eq-eqb, eqb-true}
use Rattle.base.specs.Sets.{Claims, nothing, count}
use Rattle.base.specs.Graph.{Reach, here, step, steps}
use Rattle.base.proofs.Choose.{t?}
use Rattle.base.proofs.Bools.{is, is_true, or_left, or_right, or_cases}
use Rattle.base.proofs.Sets.{count_le, count_less}

-- from v one comes to a step along E after which one can come back
abbrev pub Ring : (ℕ → ℕ → Type 0) → ℕ → Type 0
Ring E v = (x y : ℕ) × Reach E v x × E x y × Reach E y x

module _ {E : ℕ → ℕ → Type 0} where
  -- the numbers that a path steps on from
  left : {v w : ℕ} → Reach E v w → Claims
  left here = nothing
  left (step {x = x} e p) = λ z. eqb x z || left p z

  left-reached : {v w : ℕ} (p : Reach E v w) (z : ℕ) → T (left p z) → Reach E v z
  unfolding left
  left-reached here z t = absurd t
  left-reached (step {x = x} e p) z t =
      ⊎_elim (λ h. rw (eqb-true x z (is_true _ h)) here) (λ h. step e (left-reached p z h)) (or_cases (eqb x z) (left p z) t)

  module _ (n : ℕ) (below : (x y : ℕ) → E x y → y < n) where
    count_or : {v w : ℕ} → v < n → (p : Reach E v w) → (steps p ≤ count (left p) n) ⊎ Ring E v
    unfolding left
    count_or h here = inl (omega arith)
    count_or h (step {x = x} {y = y} e p) =
        by_cases (t? (left p x)) (λ t. inr (x, y, here, e, left-reached p x t))
        (λ f.
        let less = count_less (left p) (left (step e p)) (λ z t. or_right (eqb x z) (left p z) t) n x h
        (or_left (eqb x x) (left p x) (is _ (eq-eqb x x refl))) f in
        ⊎_elim (λ k. inl (omega arith)) (λ r. inr (r.0, r.1, step e r.2, r.3, r.4)) (count_or (below x y e) p))

    -- a path longer than that has a ring
    pub ring : {v w : ℕ} → v < n → (p : Reach E v w) → n < steps p → Ring E v
    ring h p long = ⊎_elim (λ k. absurd (omega (arith, count_le (left p) n))) (λ r. r) (count_or h p)

  module _ (n : ℕ) (acyclic : (x y : ℕ) → E x y → Reach E y x → ⊥) (below : (x y : ℕ) → E x y → y < n) where
    pub steps_most : {v w : ℕ} → v < n → (p : Reach E v w) → steps p ≤ n
    steps_most h p = ⊎_elim (λ k. omega (arith, count_le (left p) n)) (λ r. absurd (acyclic r.0 r.1 r.3 r.4)) (count_or n below h p)
