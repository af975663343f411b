-- Laws of `pick`. Assumes nothing.
--   pick_elim            a proof for each way that the test goes
--   pick_yes, pick_no    which way it goes
--   pick_true, pick-false, pick_both   the same, of a test that equals true or false
--   either-..            `pick a true b` as a test: a, or else b
--   unless-..            `pick a false b` as a test: not a, and b
use mathlib.Core.Path.{◌≡◌, refl}
use mathlib.Core.Logic.{◌⊎◌, inl, inr}
use mathlib.Core.Bool.{Bool, true, false, not}
use lib.Dec.{T}
use Rattle.base.specs.Choose.{pick}

pub t? : (b : Bool) → Dec (T b)
t? true = yes tt
t? false = no (λ t. t)

pub pick_elim {ℓ k} : {X : Type k} (P : X → Type ℓ) (b : Bool) {x y : X} → (T b → P x) → (T (not b) → P y) → P (pick b x y)
unfolding pick
pick_elim P true f g = f tt
pick_elim P false f g = g tt

pub pick_yes {ℓ} : {X : Type ℓ} (b : Bool) (x y : X) → T b → pick b x y ≡ x
unfolding pick
pick_yes true x y t = refl
pick_yes false x y t = absurd t

pub pick_no {ℓ} : {X : Type ℓ} (b : Bool) (x y : X) → (T b → ⊥) → pick b x y ≡ y
unfolding pick
pick_no true x y n = absurd (n tt)
pick_no false x y n = refl

pub either_left : (a b : Bool) → T a → T (pick a true b)
unfolding pick
either_left true b t = tt
either_left false b t = absurd t

pub either-right : (a b : Bool) → T b → T (pick a true b)
unfolding pick
either-right true b t = tt
either-right false b t = t

pub either-cases : (a b : Bool) → T (pick a true b) → T a ⊎ T b
unfolding pick
either-cases true b t = inl tt
either-cases false b t = inr t

pub unless_parts : (a b : Bool) → T (pick a false b) → T (not a) × T b
unfolding pick
unless_parts true b t = absurd t
unless_parts false b t = (tt, t)

pub unless_of : (a b : Bool) → T (not a) → T b → T (pick a false b)
unfolding pick
unless_of true b n t = absurd n
unless_of false b n t = t

pub pick_true {ℓ} : {X : Type ℓ} (b : Bool) (x y : X) → b ≡ true → pick b x y ≡ x
unfolding pick
pick_true b x y e = rw e

pub pick-false {ℓ} : {X : Type ℓ} (b : Bool) (x y : X) → b ≡ false → pick b x y ≡ y
unfolding pick
pick-false b x y e = rw e

pub pick_both {ℓ} : {X : Type ℓ} (P : X → Type 0) (b : Bool) (x y : X) → (b ≡ true → P x) → (b ≡ false → P y) → P (pick b x y)
unfolding pick
pick_both P true x y f g = f refl
pick_both P false x y f g = g refl
