-- A known verdict by its byte. Assumes nothing.
--   verdict_none, -true, -false, -undefined   the verdict that a byte stands for
--   known_past                                none past the bytes
use Prim.Native.Nat.{ℕ, ◌≤◌}
use mathlib.Core.Path.{◌≡◌, refl, subst⁻¹}
use mathlib.Core.List.{List}
use mathlib.Core.Option.{none, some}
use borrow.Author.Tests.{eq-eqb, ne_eqb}
use lib.ListN.{length, get_or, get_or-eq_default}
use Rattle.semantics.specs.Model.{True, False, Undefined, verdict_of, known_of}

pub verdict_none : (x : ℕ) → x ≡ 0 → verdict_of x ≡ none
unfolding verdict_of
verdict_none x e = rw (eq-eqb x 0 e)

pub verdict-true : (x : ℕ) → x ≡ 1 → verdict_of x ≡ some True
unfolding verdict_of
verdict-true x e = subst⁻¹ (λ (y : ℕ). verdict_of y ≡ some True) e refl

pub verdict-false : (x : ℕ) → x ≡ 2 → verdict_of x ≡ some False
unfolding verdict_of
verdict-false x e = subst⁻¹ (λ (y : ℕ). verdict_of y ≡ some False) e refl

pub verdict-undefined : (x : ℕ) → (x ≡ 0 → ⊥) → (x ≡ 1 → ⊥) → (x ≡ 2 → ⊥) → verdict_of x ≡ some Undefined
unfolding verdict_of
verdict-undefined x n₀ n₁ n₂ = rw (ne_eqb x 0 n₀, ne_eqb x 1 n₁, ne_eqb x 2 n₂)

pub known_past : (g : List ℕ) (c : ℕ) → length g ≤ c → known_of g c ≡ none
unfolding known_of
known_past g c h = verdict_none (get_or g c 0) (get_or-eq_default g 0 h)
