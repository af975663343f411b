-- Numbers written into a list from the front, one by one. Assumes nothing.
--   written_start, -more, -whole   none written; one more; all
use Prim.Native.Nat.{ℕ, suc, ◌+◌, ◌<◌}
use mathlib.Core.Path.{◌≡◌, refl, sym, ◌∙◌, ap, ap₂}
use mathlib.Core.List.{List, [], ◌∷◌, ◌++◌}
use native.Mathlib.Nat.{zero-add}
use native.Mathlib.Numerals.{add-one}
use lib.ListN.{length, set, drop}
use lib.Seq.{drop-cons, set_at, append_snoc}
use Rattle.base.specs.Span.{span}
use Rattle.base.proofs.Span.{length-span, span_snoc}

pub written_start : (f : ℕ → ℕ) (l : List ℕ) → l ≡ span f 0 0 ++ drop 0 l
unfolding span
written_start f l = refl

pub written-more :
    (f : ℕ → ℕ) (l₀ l : List ℕ) (i v : ℕ) → l ≡ span f 0 i ++ drop i l₀ → v ≡ f i → i < length l₀
    → set l i v ≡ span f 0 (i + 1) ++ drop (i + 1) l₀
written-more f l₀ l i v e q h =
    ap₂ (λ (x : List ℕ) (y : ℕ). set x i y) e q
    ∙ ap (λ (x : List ℕ). set (span f 0 i ++ x) i (f i)) (drop-cons l₀ i 0 h)
    ∙ set_at (span f 0 i) _ (drop (suc i) l₀) (f i) i (length-span f 0 i)
    ∙ sym (append_snoc (span f 0 i) (f i) (drop (suc i) l₀))
    ∙ ap (λ (x : ℕ). (span f 0 i ++ (f x ∷ [])) ++ drop (suc i) l₀) (sym (zero-add i))
    ∙ ap (λ (x : List ℕ). x ++ drop (suc i) l₀) (sym (span_snoc f 0 i))
    ∙ ap (λ (n : ℕ). span f 0 n ++ drop n l₀) (sym (add-one i))

pub written-whole : (f : ℕ → ℕ) (l₀ l : List ℕ) (i n : ℕ) → i ≡ n → l ≡ span f 0 i ++ drop i l₀ → l ≡ span f 0 n ++ drop n l₀
written-whole f l₀ l i n e q = q ∙ ap (λ (m : ℕ). span f 0 m ++ drop m l₀) e
