-- Digits written from the last to the first. Assumes nothing.
--   Partly buf₀ at n buf e rest   the digits of n from place e on are written, those of `rest` are to come before e
--   partly-start, _more, -whole   none written; one more; all
use Prim.Native.Nat.{ℕ, suc, ◌+◌, ◌-◌, ◌/◌, ◌%◌, ◌≤◌, ◌<◌}
use mathlib.Core.Path.{◌≡◌, refl, sym, ◌∙◌, ap}
use mathlib.Core.List.{List, ◌∷◌, ◌++◌}
use native.Mathlib.Omega.{arith}
use lib.ListN.{length, set, take, drop, length-set}
use lib.Seq.{set_split, append_snoc, take-set-le, take-take, drop_at, length-take-le}
use Rattle.writing.specs.Decimal.{decimal, digit}
use Rattle.writing.specs.Written.{wrote}
use Rattle.writing.proofs.Decimal.{decimal-small, decimal-large, length-small, length-large, length_some}
use Rattle.writing.proofs.Wrote.{from_back}

pub record Partly (buf₀ : List ℕ) (at n : ℕ) (buf : List ℕ) (e rest : ℕ) : Type 0 where
  pub size : length buf ≡ length buf₀
  pub place : e ≡ at + length (decimal rest)
  pub low : e ≤ length buf₀
  pub before : take e buf ≡ take e buf₀
  pub behind : decimal rest ++ drop e buf ≡ decimal n ++ drop (at + length (decimal n)) buf₀

set-drop : (buf : List ℕ) (j d : ℕ) → j < length buf → drop j (set buf j d) ≡ d ∷ drop (suc j) buf
set-drop buf j d h =
    ap (drop j) (set_split buf j d h)
    ∙ drop_at (take j buf) (d ∷ drop (suc j) buf) j (length-take-le j buf (omega arith))

set-take : (buf₀ buf : List ℕ) (j d e : ℕ) → j ≤ e → take e buf ≡ take e buf₀ → take j (set buf j d) ≡ take j buf₀
set-take buf₀ buf j d e h same =
    take-set-le j buf j d (omega arith)
    ∙ sym (take-take j e buf h)
    ∙ ap (take j) same
    ∙ take-take j e buf₀ h

pub partly-start :
    (buf : List ℕ) (at n e : ℕ) → at + length (decimal n) ≤ length buf → e ≡ at + length (decimal n)
    → Partly buf at n buf e n
partly-start buf at n e h q =
    record { size = refl; place = q; low = omega arith; before = refl; behind = ap (λ (k : ℕ). decimal n ++ drop k buf) q }

module _ (buf₀ : List ℕ) (at n : ℕ) (buf : List ℕ) (e rest : ℕ) (so : Partly buf₀ at n buf e rest) where
  pub partly-some : 1 ≤ e
  partly-some = omega (arith, length_some rest)

  pub partly_more : 10 ≤ rest → Partly buf₀ at n (set buf (e - 1) (digit (rest % 10))) (e - 1) (rest / 10)
  partly_more h =
      let d : ℕ = digit (rest % 10) in
      let j : ℕ = e - 1 in
      let q : suc j ≡ e = omega (arith, partly-some) in
      record {
        size = length-set buf j d ∙ so.size;
        place = omega (arith, length-large rest h);
        low = omega arith;
        before = set-take buf₀ buf j d e (omega arith) so.before;
        behind =
            ap (λ (l : List ℕ). decimal (rest / 10) ++ l) (set-drop buf j d (omega (arith, partly-some)))
            ∙ sym (append_snoc (decimal (rest / 10)) d (drop (suc j) buf))
            ∙ ap (λ (l : List ℕ). l ++ drop (suc j) buf) (sym (decimal-large rest h))
            ∙ ap (λ (k : ℕ). decimal rest ++ drop k buf) q
            ∙ so.behind;
      }

  pub partly-whole : rest < 10 → set buf at (digit rest) ≡ wrote buf₀ at (decimal n)
  partly-whole h =
      let q : suc at ≡ e = omega (arith, length-small rest h) in
      from_back buf₀ (set buf at (digit rest)) at (decimal n) (set-take buf₀ buf at (digit rest) e (omega arith) so.before)
      (set-drop buf at (digit rest) (omega arith)
      ∙ ap (λ (l : List ℕ). l ++ drop (suc at) buf) (sym (decimal-small rest h))
      ∙ ap (λ (k : ℕ). decimal rest ++ drop k buf) q
      ∙ so.behind)
