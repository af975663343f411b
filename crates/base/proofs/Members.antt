-- What is in a span is made by one of its indexes, and each index makes something in it. Assumes nothing.
use Prim.Native.Nat.{ℕ, zero, suc, ◌+◌, ◌<◌, ◌≤◌}
use mathlib.Core.Path.{sym, ap, subst}
use mathlib.Core.List.Memᴰ
use mathlib.Core.List.{Memᴰ}
use mathlib.Core.Logic.{⊎_elim}
use native.Mathlib.Omega.{arith}
use native.Mathlib.Nat.{eq-or-lt_of_le}
use Rattle.base.specs.Span.{span}

pub span_all : {A : Type 0} (P : A → Type 0) (f : ℕ → A) (a n : ℕ) → ((i : ℕ) → a ≤ i → i < a + n → P (f i)) → (x : A) → Memᴰ x (span f a n) → P x
unfolding span
span_all P f a zero h x m = absurd (Memᴰ.not-nil m)
span_all P f a (suc n) h x m =
    ⊎_elim (λ e. subst P (sym e) (h a (omega arith) (omega arith)))
    (span_all P f (suc a) n (λ i g l. h i (omega arith) (omega arith)) x) (Memᴰ.cases_cons m)

pub span_at : {A : Type 0} (f : ℕ → A) (a n i : ℕ) → a ≤ i → i < a + n → Memᴰ (f i) (span f a n)
unfolding span
span_at f a zero i g l = absurd (omega arith)
span_at f a (suc n) i g l =
    ⊎_elim (λ e. Memᴰ.head (ap f (sym e))) (λ h. Memᴰ.tail (span_at f (suc a) n i h (omega arith))) (eq-or-lt_of_le g)
