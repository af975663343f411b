-- Laws of `&&`, `||` and `not` as tests that pass. Assumes nothing.
use mathlib.Core.Path.{◌≡◌, refl, subst, subst⁻¹}
use mathlib.Core.Bool.{Bool, true, false, not, ◌&&◌, ◌||◌, true≢false, false≢true}
use mathlib.Core.Logic.{◌⊎◌, inl, inr}
use lib.Dec.{T}

pub is : (b : Bool) → b ≡ true → T b
is b e = subst⁻¹ T e tt

pub is-not : (b : Bool) → b ≡ false → T b → ⊥
is-not b e t = subst T e t

pub is_false : (b : Bool) → (T b → ⊥) → b ≡ false
is_false true n = absurd (n tt)
is_false false n = refl

pub is_true : (b : Bool) → T b → b ≡ true
is_true true t = refl
is_true false t = absurd t

pub and_in : (a b : Bool) → T a → T b → T (a && b)
and_in true b p q = q
and_in false b p q = p

pub and_left : (a b : Bool) → T (a && b) → T a
and_left true b p = tt
and_left false b p = p

pub and_right : (a b : Bool) → T (a && b) → T b
and_right true b p = p
and_right false b p = absurd p

pub and_both : (a b : Bool) → (a && b) ≡ true → (a ≡ true) × (b ≡ true)
and_both true b e = (refl, e)
and_both false b e = absurd (false≢true e)

pub and_rest : (a b : Bool) → (a && b) ≡ false → a ≡ true → b ≡ false
and_rest true b e h = e
and_rest false b e h = absurd (false≢true h)

pub and_no : (a b : Bool) → b ≡ false → (a && b) ≡ false
and_no true b e = e
and_no false b e = refl

pub and_off : (a b : Bool) → a ≡ false → false ≡ (a && b)
and_off a b e = rw e

pub and-on : (a b : Bool) {r : Bool} → a ≡ true → r ≡ b → r ≡ (a && b)
and-on a b e f = rw e f

pub or_left : (a b : Bool) → T a → T (a || b)
or_left true b t = tt
or_left false b t = absurd t

pub or_right : (a b : Bool) → T b → T (a || b)
or_right true b t = tt
or_right false b t = t

pub or_cases : (a b : Bool) → T (a || b) → T a ⊎ T b
or_cases true b t = inl tt
or_cases false b t = inr t

pub or_map : (a a' b b' : Bool) → (T a → T a') → (T b → T b') → T (a || b) → T (a' || b')
or_map a true b b' f g t = tt
or_map true false b b' f g t = absurd (f tt)
or_map false false b b' f g t = g t

-- a test of two parts that does not hold, and one that does
pub neither : (a b : Bool) → (a || b) ≡ false → (a ≡ false) × (b ≡ false)
neither true b e = absurd (true≢false e)
neither false b e = (refl, e)

pub or_no : (a b : Bool) → a ≡ false → b ≡ false → (a || b) ≡ false
or_no a b p q = rw p q

pub or_first : (a b : Bool) → a ≡ true → (a || b) ≡ true
or_first a b p = rw p

pub or_second : (a b : Bool) → a ≡ false → b ≡ true → (a || b) ≡ true
or_second a b p q = rw p q

-- a test that does not fail
pub twice-not : (b : Bool) → (T (not b) → ⊥) → T b
twice-not true n = tt
twice-not false n = absurd (n tt)

-- two tests that pass together are equal
pub same : (a b : Bool) → (T a → T b) → (T b → T a) → a ≡ b
same true true f g = refl
same true false f g = absurd (f tt)
same false true f g = absurd (g tt)
same false false f g = refl
