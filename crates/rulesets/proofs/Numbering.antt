-- Lists as numbers in a base: the lists of n elements of xs, in their order, have the numbers 0, 1, 2, ..; and the digits of a number. Assumes nothing.
--   lists-numbered         those numbers, behind the digits of a
--   lists_length, lists-each, in-lists   what is in the lists: those of n elements, each of xs
--   number_div, digit_at   what stands before the digits; a digit, by division
use Prim.Native.Nat.{ℕ, zero, suc, ◌+◌, ◌-◌, ◌*◌, ◌^◌, ◌/◌, ◌%◌, ◌<◌}
use mathlib.Core.Path.{◌≡◌, refl, sym, ◌∙◌, ap, ap₂, subst, subst⁻¹}
use mathlib.Core.List.Memᴰ
use mathlib.Core.List.{List, [], ◌∷◌, ◌++◌, map, flat_map, map-map}
use mathlib.Core.Logic.{⊎_elim}
use native.Mathlib.Nat.{pow-suc, pow-zero, pow-succ', mul_assoc, suc-mul, mul_comm, div-one, div-div-eq-div-mul, add-mul-div_left, add-mul-mod_self_left, div-eq_of_lt, mod-eq_of_lt}
use native.Mathlib.Omega.{arith}
use lib.ListN.{length, get_or}
use Rattle.base.specs.Span.{span}
use Rattle.base.specs.Lists.{upto}
use Rattle.base.proofs.Span.{span_add}
use Rattle.job.specs.Encoding.{◌∈◌}
use Rattle.parts.proofs.Rules.{flat_in, flat_out}
use Rattle.writing.proofs.Parted.{flat-map, flat_same, map_flat}
use Rattle.rulesets.specs.Sets.{lists_of, number_from}

abbrev ids : ℕ → ℕ → List ℕ
ids a n = span (λ k. k) a n

-- blocks of m numbers, one after the other
blocks : (a m d c : ℕ) → flat_map (λ k. ids ((a + k) * m) m) (ids d c) ≡ ids ((a + d) * m) (c * m)
unfolding flat_map span
blocks a m d zero = let e : zero * m ≡ 0 = omega arith in rw e
blocks a m d (suc c) =
    let e : (a + suc d) * m ≡ (a + d) * m + m = ap (λ (x : ℕ). x * m) (omega arith) ∙ suc-mul (a + d) m in
    let f : m + c * m ≡ suc c * m = omega (arith, suc-mul c m) in
    ap (λ (l : List ℕ). ids ((a + d) * m) m ++ l) (blocks a m (suc d) c ∙ ap (λ (x : ℕ). ids x (c * m)) e)
    ∙ sym (span_add (λ k. k) ((a + d) * m) m (c * m))
    ∙ ap (ids ((a + d) * m)) f

module _ {A : Type 0} (f : A → ℕ) (b : ℕ) (xs : List A) where
  pub lists-numbered : map f xs ≡ upto b → (n a : ℕ) → map (number_from f b a) (lists_of xs n) ≡ ids (a * b ^ n) (b ^ n)
  unfolding lists_of number_from span
  lists-numbered digits zero a =
      let e : a ≡ a * b ^ zero = omega (arith, ap (λ (x : ℕ). a * x) (pow-zero b)) in
      let z : 1 ≡ b ^ zero = sym (pow-zero b) in
      ap₂ ids e z
  lists-numbered digits (suc n) a =
      let e : a * b * b ^ n ≡ a * b ^ suc n = mul_assoc a b (b ^ n) ∙ ap (λ (x : ℕ). a * x) (sym (pow-succ' b n)) in
      let z : a * b + 0 ≡ a * b = omega arith in
      map_flat (number_from f b a) (λ x. map (λ r. x ∷ r) (lists_of xs n)) xs
      ∙ flat_same (λ x. map (number_from f b a) (map (λ r. x ∷ r) (lists_of xs n))) (λ x. ids ((a * b + f x) * b ^ n) (b ^ n))
      (λ x. map-map (number_from f b a) (λ r. x ∷ r) (lists_of xs n) ∙ lists-numbered digits n (a * b + f x)) xs
      ∙ sym (flat-map (λ k. ids ((a * b + k) * b ^ n) (b ^ n)) f xs)
      ∙ ap (flat_map (λ k. ids ((a * b + k) * b ^ n) (b ^ n))) digits
      ∙ blocks (a * b) (b ^ n) 0 b
      ∙ ap₂ ids (ap (λ (x : ℕ). x * b ^ n) z ∙ e) (sym (pow-succ' b n))

-- what is in the lists
module _ {A : Type 0} (xs : List A) where
  pub lists_length : (n : ℕ) (r : List A) → r ∈ lists_of xs n → length r ≡ n
  unfolding lists_of
  lists_length zero r m = ap length (Memᴰ.eq_of_singleton m)
  lists_length (suc n) r m =
      let o = flat_out (λ x. map (λ r. x ∷ r) (lists_of xs n)) xs r m in
      let p = Memᴰ.of_map (λ r. o.0 ∷ r) (lists_of xs n) o.2 in
      ap length (sym p.2) ∙ ap suc (lists_length n p.0 p.1)

  pub lists-each : (n : ℕ) (r : List A) → r ∈ lists_of xs n → (x : A) → x ∈ r → x ∈ xs
  unfolding lists_of
  lists-each zero r m x i = absurd (Memᴰ.not-nil (subst (λ (l : List A). x ∈ l) (Memᴰ.eq_of_singleton m) i))
  lists-each (suc n) r m x i =
      let o = flat_out (λ x. map (λ r. x ∷ r) (lists_of xs n)) xs r m in
      let p = Memᴰ.of_map (λ r. o.0 ∷ r) (lists_of xs n) o.2 in
      ⊎_elim (λ e. subst⁻¹ (λ (y : A). y ∈ xs) e o.1) (lists-each n p.0 p.1 x) (Memᴰ.cases_cons (subst⁻¹ (λ (l : List A). x ∈ l) p.2 i))

  pub in-lists : (r : List A) → ((x : A) → x ∈ r → x ∈ xs) → r ∈ lists_of xs (length r)
  unfolding lists_of
  in-lists [] h = Memᴰ.head refl
  in-lists (x ∷ r) h =
      flat_in (λ x. map (λ r. x ∷ r) (lists_of xs (length r))) xs x (x ∷ r) (h x (Memᴰ.head refl))
      (Memᴰ.map (λ r. x ∷ r) (in-lists r (λ y i. h y (Memᴰ.tail i))))

-- digits, by division
module _ {A : Type 0} (f : A → ℕ) (b : ℕ) (some : 0 < b) where
  pub number_div : (a : ℕ) (ys : List A) → ((y : A) → y ∈ ys → f y < b) → number_from f b a ys / b ^ length ys ≡ a
  unfolding number_from
  number_div a [] h = ap (λ (x : ℕ). a / x) (pow-zero b) ∙ div-one a
  number_div a (y ∷ ys) h =
      let n = number_from f b (a * b + f y) ys in
      ap (λ (x : ℕ). n / x) (pow-suc b (length ys))
      ∙ sym (div-div-eq-div-mul n (b ^ length ys) b)
      ∙ ap (λ (x : ℕ). x / b) (number_div (a * b + f y) ys (λ z i. h z (Memᴰ.tail i)))
      ∙ before a (f y) (h y (Memᴰ.head refl))
    where
      before : (a d : ℕ) → d < b → (a * b + d) / b ≡ a
      before a d l =
          let e : a * b + d ≡ d + b * a = omega (arith, mul_comm a b) in
          let z : d / b ≡ 0 = div-eq_of_lt l in
          ap (λ (x : ℕ). x / b) e ∙ add-mul-div_left d a some ∙ ap (λ (x : ℕ). x + a) z ∙ omega arith

  pub digit_at : (a : ℕ) (ys : List A) → ((y : A) → y ∈ ys → f y < b) → (i : ℕ) (d : A) → i < length ys → number_from f b a ys / b ^ (length ys - 1 - i) % b ≡ f (get_or ys i d)
  unfolding number_from
  digit_at a [] h i d l = absurd (omega arith)
  digit_at a (y ∷ ys) h zero d l =
      let e : suc (length ys) - 1 - zero ≡ length ys = omega arith in
      ap (λ (x : ℕ). number_from f b (a * b + f y) ys / b ^ x % b) e
      ∙ ap (λ (x : ℕ). x % b) (number_div (a * b + f y) ys (λ z i. h z (Memᴰ.tail i)))
      ∙ last a (f y) (h y (Memᴰ.head refl))
    where
      last : (a d : ℕ) → d < b → (a * b + d) % b ≡ d
      last a d l =
          let e : a * b + d ≡ d + b * a = omega (arith, mul_comm a b) in
          ap (λ (x : ℕ). x % b) e ∙ add-mul-mod_self_left d b a ∙ mod-eq_of_lt l
  digit_at a (y ∷ ys) h (suc i) d l =
      let e : suc (length ys) - 1 - suc i ≡ length ys - 1 - i = omega arith in
      ap (λ (x : ℕ). number_from f b (a * b + f y) ys / b ^ x % b) e
      ∙ digit_at (a * b + f y) ys (λ z i. h z (Memᴰ.tail i)) i d (omega arith)
