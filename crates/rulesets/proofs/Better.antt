-- One step of the fold that finds the first set that needs most turns. Assumes nothing.
--   Best     what is best of the places before k
--   step     with the set at place k it is the best of the places before k + 1
use Prim.Native.Nat.{ℕ, ◌+◌, ◌<◌, ◌≤◌}
use mathlib.Core.Path.{◌≡◌, sym, ap, subst}
use mathlib.Core.Logic.{◌⊎◌, inl, ⊎_elim, by_cases}
use native.Mathlib.Decide.{ℕ_discrete}
use native.Mathlib.Omega.{arith}
use Rattle.base.specs.Compare.{under}
use Rattle.base.proofs.Choose.{pick_both}
use Rattle.base.proofs.Compare.{under_le, under_lt}
use Rattle.rulesets.specs.Census.{Most, better}

-- the best of the places before k, where the set at place i needs t i turns
pub record Best (t : ℕ → ℕ) (k : ℕ) (m : Most) : Type 0 where
  pub most : (i : ℕ) → i < k → t i ≤ m.turns
  pub first : (i : ℕ) → i < m.place → t i < m.turns
  pub is : ((m.place < k) × (t m.place ≡ m.turns)) ⊎ ((k ≡ 0) × (m.place ≡ 0) × (m.turns ≡ 0))

below_next : (P : ℕ → Type 0) (k : ℕ) → ((i : ℕ) → i < k → P i) → P k → (i : ℕ) → i < k + 1 → P i
below_next P k f p i h = by_cases (ℕ_discrete i k) (λ e. subst P (sym e) p) (λ n. f i (omega (arith, n)))

module _ (t : ℕ → ℕ) where
  pub step : (k : ℕ) (m : Most) (n : ℕ) → n ≡ t k → Best t k m → Best t (k + 1) (better m k n)
  unfolding better
  step k m n e b =
      pick_both (Best t (k + 1)) (under m.turns n) _ _
      (λ y.
      let l : m.turns < n = under_lt m.turns n y in
      record { most = below_next (λ i. t i ≤ n) k (λ i h. omega (arith, b.most i h)) (omega arith); first = λ i h. omega (arith, b.most i h); is = inl (omega arith, sym e) })
      (λ y.
      let l : n ≤ m.turns = under_le m.turns n y in
      record {
        most = below_next (λ i. t i ≤ m.turns) k b.most (omega arith);
        first = b.first;
        is = inl (⊎_elim (λ q. (omega (arith, q.0), q.1)) (λ q. (omega (arith, q.0, q.1), zeroth k m n e l q)) b.is);
      })
    where
      zeroth : (k : ℕ) (m : Most) (n : ℕ) → n ≡ t k → n ≤ m.turns → (k ≡ 0) × (m.place ≡ 0) × (m.turns ≡ 0) → t m.place ≡ m.turns
      zeroth k m n e l q = let p : m.place ≡ k = omega (arith, q.0, q.1) in omega (arith, ap t p, q.2)
