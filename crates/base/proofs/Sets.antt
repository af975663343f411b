-- Laws of sets of claims: counting, and the least set that a rising operator reaches. Assumes nothing.
use Prim.Native.Nat.{ℕ, zero, suc, ◌+◌, ◌≤◌, ◌<◌}
use mathlib.Core.Path.{◌≡◌, refl, subst, subst⁻¹}
use mathlib.Core.Bool.{Bool, true, false}
use mathlib.Core.Logic.{◌⊎◌, inl, inr, ⊎_elim, by_cases}
use native.Mathlib.Omega.{arith}
use native.Mathlib.Nat.{add-zero}
use native.Mathlib.Numerals.{add-one}
use native.Mathlib.Decide.{dec_lt}
use lib.Dec.{T}
use Rattle.base.specs.Sets.{Claims, ◌⊆◌, one, count, iterate}

one_le : (b : Bool) → one b ≤ 1
unfolding one
one_le true = omega arith
one_le false = omega arith

one_mono : (a b : Bool) → (T a → T b) → one a ≤ one b
unfolding one
one_mono true true f = omega arith
one_mono true false f = absurd (f tt)
one_mono false b f = omega arith

one_in : (b : Bool) → 1 ≤ one b → T b
unfolding one
one_in true h = tt
one_in false h = omega arith

one_out : (b : Bool) → T b → 1 ≤ one b
unfolding one
one_out true h = omega arith
one_out false h = absurd h

pub count_yes : (W : Claims) (n : ℕ) → W n ≡ true → count W (n + 1) ≡ count W n + 1
unfolding count one
count_yes W n e = rw (add-one n, e)

pub count_no : (W : Claims) (n : ℕ) → W n ≡ false → count W (n + 1) ≡ count W n
unfolding count one
count_no W n e = rw (add-one n, e, add-zero)

pub count_none : (W : Claims) → count W 0 ≡ 0
unfolding count
count_none W = refl

one_none : (b : Bool) → (T b → ⊥) → one b ≡ 0
unfolding one
one_none true f = absurd (f tt)
one_none false f = refl

pub count-empty : (W : Claims) → ((c : ℕ) → T (W c) → ⊥) → (n : ℕ) → count W n ≡ 0
unfolding count
count-empty W f zero = refl
count-empty W f (suc n) = omega (arith, count-empty W f n, one_none (W n) (f n))

pub count_le : (W : Claims) (n : ℕ) → count W n ≤ n
unfolding count
count_le W zero = omega arith
count_le W (suc n) = omega (arith, count_le W n, one_le (W n))

pub count_mono : (S W : Claims) → S ⊆ W → (n : ℕ) → count S n ≤ count W n
unfolding count
count_mono S W h zero = omega arith
count_mono S W h (suc n) = omega (arith, count_mono S W h n, one_mono (S n) (W n) (h n))

-- a set with no fewer members than a larger one is the same, as far as they are counted
pub count-full : (S W : Claims) → S ⊆ W → (n : ℕ) → count W n ≤ count S n → (c : ℕ) → c < n → T (W c) → T (S c)
unfolding count
count-full S W h zero k c lt t = absurd (omega arith)
count-full S W h (suc n) k c lt t =
    by_cases (dec_lt c n)
    (λ lt'. count-full S W h n (omega (arith, one_mono (S n) (W n) (h n))) c lt' t)
    (λ ge.
    let e : n ≡ c = omega arith in
    subst (λ (m : ℕ). T (S m)) e
    (one_in (S n) (omega (arith, count_mono S W h n, one_out (W n) (subst⁻¹ (λ (m : ℕ). T (W m)) e t)))))

pub count_less : (S W : Claims) → S ⊆ W → (n c : ℕ) → c < n → T (W c) → (T (S c) → ⊥) → count S n < count W n
count_less S W h n c lt t f =
    by_cases (dec_lt (count S n) (count W n)) (λ k. k) (λ k. absurd (f (count-full S W h n (omega arith) c lt t)))

module _ (A : ℕ) (f : Claims → Claims) (mono : (S W : Claims) → S ⊆ W → f S ⊆ f W) (inside : (W : Claims) (c : ℕ) → T (f W c) → c < A) where
  rises : (n : ℕ) → iterate f n ⊆ iterate f (suc n)
  unfolding iterate
  rises zero c t = absurd t
  rises (suc n) c t = mono (iterate f n) (iterate f (suc n)) (rises n) c t

  next : (n : ℕ) → n ≤ count (iterate f n) A → (iterate f (suc n) ⊆ iterate f n) ⊎ (n < count (iterate f (suc n)) A)
  unfolding iterate
  next n h =
      by_cases (dec_lt n (count (iterate f (suc n)) A)) inr
      λ k. inl (λ c t. count-full (iterate f n) (iterate f (suc n)) (rises n) A (omega arith) c (inside (iterate f n) c t) t)

  grows : (n : ℕ) → (iterate f (suc n) ⊆ iterate f n) ⊎ (n < count (iterate f (suc n)) A)
  unfolding iterate
  grows zero = next zero (omega arith)
  grows (suc n) = ⊎_elim (λ h. inl (mono (iterate f (suc n)) (iterate f n) h)) (next (suc n)) (grows n)

  -- after A steps f adds nothing
  pub iterate-closed : f (iterate f A) ⊆ iterate f A
  unfolding iterate
  iterate-closed = ⊎_elim (λ h. h) (λ h. absurd (omega (arith, count_le (iterate f (suc A)) A))) (grows A)

  pub iterate_post : iterate f A ⊆ f (iterate f A)
  unfolding iterate
  iterate_post = rises A

  -- every set to which f adds nothing holds what is reached
  pub iterate-least : (W : Claims) → f W ⊆ W → (n : ℕ) → iterate f n ⊆ W
  unfolding iterate
  iterate-least W h zero c t = absurd t
  iterate-least W h (suc n) c t = h c (mono (iterate f n) W (iterate-least W h n) c t)
