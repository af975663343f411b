-- How many literals of a body are of claims in the part. Assumes nothing.
--   first_in, first_out      the part's literals, by the first one of the body
--   Counting ..            n of them are before literal k
--   counting-start, _in, _out, -few, _end   none met yet; one more of the part; one more that isn't; how many at most; all
use Prim.Native.Nat.{ℕ, suc, ◌+◌, ◌-◌, ◌<◌, ◌≤◌}
use mathlib.Core.Path.{◌≡◌, refl, sym, ◌∙◌, ap}
use mathlib.Core.Bool.{Bool, true, false}
use mathlib.Core.List.{List, [], ◌∷◌}
use native.Mathlib.Omega.{arith}
use lib.ListN.{length}
use Rattle.base.proofs.Span.{length-span}
use Rattle.job.specs.Format.{rules, literals, literal_at}
use Rattle.job.specs.declared.Literal.{Literal}
use Rattle.semantics.specs.Model.{Body}
use Rattle.parts.specs.Part.{within, renumbered, part_literals}
use Rattle.parts.specs.Written.{literals_in}
use Rattle.parts.proofs.LiteralsRead.{literals_none, literals_more}

module _ (place : List ℕ) (l : Literal) (b : Body) where
  pub first_in : within place l ≡ true → part_literals place (l ∷ b) ≡ renumbered place l ∷ part_literals place b
  unfolding part_literals
  first_in e = rw e

  pub first_out : within place l ≡ false → part_literals place (l ∷ b) ≡ part_literals place b
  unfolding part_literals
  first_out e = rw e

few : (place : List ℕ) (b : Body) → length (part_literals place b) ≤ length b
unfolding part_literals
few place [] = omega arith
few place (l ∷ b) = go (within place l) refl (few place b)
  where
    go : (w : Bool) → within place l ≡ w → length (part_literals place b) ≤ length b → length (part_literals place (l ∷ b)) ≤ suc (length b)
    go true e h = omega (arith, ap length (first_in place l b e))
    go false e h = omega (arith, ap length (first_out place l b e))

abbrev left : List ℕ → List ℕ → ℕ → ℕ → ℕ
left s place k end = length (part_literals place (literals_in s k end))

pub record Counting (s place : List ℕ) (from end n k : ℕ) : Type 0 where
  pub so : left s place from end ≡ n + left s place k end

pub counting-start : (s place : List ℕ) (from end : ℕ) → Counting s place from end 0 from
counting-start s place from end = record { so = omega arith }

module _ {s place : List ℕ} {from end n k : ℕ} (a : Counting s place from end n k) where
  pub counting-few : end ≤ literals s → n ≤ literals s
  counting-few h = omega (arith, a.so, few place (literals_in s from end), length-span (literal_at s (rules s)) from (end - from))

  module _ (l : k < end) {x : Literal} (is : x ≡ literal_at s (rules s) k) where
    first : literals_in s k end ≡ x ∷ literals_in s (k + 1) end
    first = literals_more s k end l ∙ ap (λ (y : Literal). y ∷ literals_in s (k + 1) end) (sym is)

    pub counting_in : within place x ≡ true → Counting s place from end (n + 1) (k + 1)
    counting_in e =
        record { so = omega (arith, a.so, ap (λ (b : Body). length (part_literals place b)) first, ap length (first_in place x (literals_in s (k + 1) end) e)) }

    pub counting_out : within place x ≡ false → Counting s place from end n (k + 1)
    counting_out e =
        record { so = omega (arith, a.so, ap (λ (b : Body). length (part_literals place b)) first, ap length (first_out place x (literals_in s (k + 1) end) e)) }

  pub counting_end : end ≤ k → n ≡ left s place from end
  unfolding part_literals
  counting_end h = omega (arith, a.so, ap (λ (b : Body). length (part_literals place b)) (literals_none s k end h))
