-- Laws of `span`. Assumes nothing.
use Prim.Native.Nat.{ℕ, zero, suc, ◌+◌, ◌-◌, ◌<◌, ◌≤◌}
use mathlib.Core.Path.{◌≡◌, refl, sym, ◌∙◌, ap, ap₂}
use mathlib.Core.List.{List, [], ◌∷◌, ◌++◌, map}
use lib.ListN.{length, get_or}
use native.Mathlib.Omega.{arith}
use native.Mathlib.Nat.{zero-add, add-zero, suc-add}
use native.Mathlib.Numerals.{add-one}
use Rattle.base.specs.Span.{span}

module _ {A : Type 0} (f : ℕ → A) where
  pub length-span : (a n : ℕ) → length (span f a n) ≡ n
  unfolding span
  length-span a zero = refl
  length-span a (suc n) = ap suc (length-span (suc a) n)

  -- none left, and one at the front, as a loop that counts down meets them
  pub span_none : (a n : ℕ) → n ≤ 0 → span f a n ≡ []
  unfolding span
  span_none a zero h = refl
  span_none a (suc n) h = absurd (omega arith)

  pub span_one : (a n : ℕ) → 0 < n → span f a n ≡ f a ∷ span f (a + 1) (n - 1)
  unfolding span
  span_one a zero h = absurd (omega arith)
  span_one a (suc n) h =
      let e : n ≡ suc n - 1 = omega arith in
      rw (add-one) (ap (λ (k : ℕ). f a ∷ span f (suc a) k) e)

  pub span_add : (a n k : ℕ) → span f a (n + k) ≡ span f a n ++ span f (a + n) k
  unfolding span
  span_add a zero k = rw (zero-add, add-zero)
  span_add a (suc n) k =
      let e : suc a + n ≡ a + suc n = omega arith in
      rw (suc-add n k, span_add (suc a) n k, e)

  pub span_snoc : (a n : ℕ) → span f a (suc n) ≡ span f a n ++ (f (a + n) ∷ [])
  unfolding span
  span_snoc a n =
      let e : suc n ≡ n + 1 = omega arith in
      ap (span f a) e ∙ span_add a n 1

  pub get_d-span : (a n i : ℕ) (d : A) → i < n → get_or (span f a n) i d ≡ f (a + i)
  unfolding span
  get_d-span a zero i d l = absurd (omega arith)
  get_d-span a (suc n) zero d l = rw add-zero
  get_d-span a (suc n) (suc i) d l =
      let e : suc a + i ≡ a + suc i = omega arith in
      get_d-span (suc a) n i d (omega arith) ∙ ap f e

-- two spans whose elements agree
pub span_ext : {A : Type 0} (f g : ℕ → A) (a b n : ℕ) → ((i : ℕ) → i < n → f (a + i) ≡ g (b + i)) → span f a n ≡ span g b n
unfolding span
span_ext f g a b zero h = refl
span_ext f g a b (suc n) h =
    ap₂ ◌∷◌ (sym (ap f (add-zero a)) ∙ (h 0 (omega arith) ∙ ap g (add-zero b)))
    (span_ext f g (suc a) (suc b) n (λ i l.
    let e : suc a + i ≡ a + suc i = omega arith in
    let q : suc b + i ≡ b + suc i = omega arith in
    ap f e ∙ (h (suc i) (omega arith) ∙ ap g (sym q))))

pub map-span : {A B : Type 0} (g : A → B) (f : ℕ → A) (a n : ℕ) → map g (span f a n) ≡ span (λ k. g (f k)) a n
unfolding span
map-span g f a zero = refl
map-span g f a (suc n) = ap (λ (x : List _). g (f a) ∷ x) (map-span g f (suc a) n)
