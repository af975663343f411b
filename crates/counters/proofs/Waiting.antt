-- How many positions a rule waits for (specs/Positions: waiting). Assumes nothing.
--   waiting_same, -less, -other   of two sets of positions that agree, everywhere or but for one
--   waiting_done, _none           a rule that waits for nothing, and for none of its positions
use Prim.Native.Nat.{ℕ, suc, ◌<◌}
use mathlib.Core.Path.{◌≡◌, refl, sym, ◌∙◌, ap}
use mathlib.Core.Bool.{Bool, true, false, ◌&&◌, and-false}
use mathlib.Core.List.{List}
use mathlib.Core.Logic.{by_cases}
use native.Mathlib.Omega.{arith}
use native.Mathlib.Decide.{ℕ_discrete}
use borrow.Author.Tests.{ne_eqb, eq-eqb, eqb-true}
use lib.Dec.{T, eqb}
use lib.ListN.{get_or}
use Rattle.base.specs.Sets.{count}
use Rattle.base.proofs.Counts.{count_same, count_more}
use Rattle.base.proofs.Sets.{count-empty, count_less}
use Rattle.counters.specs.Positions.{waiting}

module _ (own : List ℕ) where
  pub waiting_same : (d e : ℕ → Bool) (n r : ℕ) → ((p : ℕ) → p < n → d p ≡ e p) → waiting own d n r ≡ waiting own e n r
  unfolding waiting
  waiting_same d e n r f = count_same _ _ n (λ p l. ap (λ (b : Bool). b && eqb (get_or own p 0) r) (f p l))

  pub waiting-less :
      (d e : ℕ → Bool) (n p r : ℕ) → p < n → get_or own p 0 ≡ r → d p ≡ true → e p ≡ false
      → ((j : ℕ) → j < n → (j ≡ p → ⊥) → d j ≡ e j) → waiting own d n r ≡ suc (waiting own e n r)
  unfolding waiting
  waiting-less d e n p r l o x y f =
      count_more (λ j. e j && eqb (get_or own j 0) r) (λ j. d j && eqb (get_or own j 0) r) p n l
      (λ j m k. ap (λ (b : Bool). b && eqb (get_or own j 0) r) (f j m k)) (rw y) (rw (x, eq-eqb (get_or own p 0) r o))

  pub waiting-other :
      (d e : ℕ → Bool) (n p r : ℕ) → (get_or own p 0 ≡ r → ⊥) → ((j : ℕ) → j < n → (j ≡ p → ⊥) → d j ≡ e j)
      → waiting own d n r ≡ waiting own e n r
  unfolding waiting
  waiting-other d e n p r o f =
      count_same _ _ n
      (λ j l. by_cases (ℕ_discrete j p)
      (λ i. let z : eqb (get_or own j 0) r ≡ false = rw i (ne_eqb (get_or own p 0) r o) in rw (z, and-false (d j), and-false (e j)))
      (λ k. ap (λ (b : Bool). b && eqb (get_or own j 0) r) (f j l k)))

  pub waiting_done : (d : ℕ → Bool) (n r p : ℕ) → waiting own d n r ≡ 0 → p < n → get_or own p 0 ≡ r → d p ≡ false
  unfolding waiting
  waiting_done d n r p z l o = go (d p) refl
    where
      go : (b : Bool) → d p ≡ b → b ≡ false
      go false e = refl
      go true e =
          let x : T (d p && eqb (get_or own p 0) r) = rw (e, eq-eqb (get_or own p 0) r o) tt in
          let y : count (λ j. false) n < count (λ j. d j && eqb (get_or own j 0) r) n =
          count_less (λ j. false) (λ j. d j && eqb (get_or own j 0) r) (λ c t. absurd t) n p l x (λ t. t) in
          absurd (omega arith)

  pub waiting_none : (d : ℕ → Bool) (n r : ℕ) → ((p : ℕ) → p < n → get_or own p 0 ≡ r → d p ≡ false) → waiting own d n r ≡ 0
  unfolding waiting
  waiting_none d n r f = count_same (λ p. false) _ n (λ p l. each p l (d p) refl (eqb (get_or own p 0) r) refl) ∙ count-empty (λ p. false) (λ c t. t) n
    where
      each : (p : ℕ) → p < n → (a : Bool) → d p ≡ a → (b : Bool) → eqb (get_or own p 0) r ≡ b → (a && b) ≡ false
      each p l false e b g = refl
      each p l true e false g = refl
      each p l true e true g = sym e ∙ f p l (eqb-true (get_or own p 0) r g)
