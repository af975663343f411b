-- Tests that pass or fail, as facts: of equality, and whether a claim is complete. Assumes nothing.
use mathlib.Core.Path.{◌≡◌, sym, ◌∙◌, subst}
use mathlib.Core.Bool.{Bool, true, false, not}
use Prim.Native.Nat.{ℕ, ◌≤◌, ◌<◌}
use borrow.Author.Tests.{leb-true, leb-false}
use lib.Dec.{T, leb, eqb, eqb→eq, eqb_refl, T_not, not_T}
use Rattle.table.specs.Layout.{true_mark}

pub is_eq : (m n : ℕ) → m ≡ n → T (eqb m n)
is_eq m n e = subst (λ k. T (eqb m k)) e (eqb_refl m)

pub not_eq : (m n : ℕ) → T (not (eqb m n)) → m ≡ n → ⊥
not_eq m n h e = T_not (eqb m n) h (is_eq m n e)

pub eq-not : (m n : ℕ) → (m ≡ n → ⊥) → T (not (eqb m n))
eq-not m n f = not_T (eqb m n) (λ e. f (eqb→eq m n e))

pub complete-yes : {b : Bool} {m : ℕ} → b ≡ leb true_mark m → b ≡ true → true_mark ≤ m
complete-yes e h = leb-true _ _ (sym e ∙ h)

pub complete-no : {b : Bool} {m : ℕ} → b ≡ leb true_mark m → b ≡ false → m < true_mark
complete-no e h = leb-false _ _ (sym e ∙ h)
