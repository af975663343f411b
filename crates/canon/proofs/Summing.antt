-- How many literals the rules of `order` have, rule by rule. Assumes nothing.
--   Summing sizes order n k   those of its first k rules are n
--   summing-room, _more, _end   the sum fits; one rule more; all
use Prim.Native.Nat.{ℕ, ◌+◌, ◌<◌, ◌≤◌}
use mathlib.Core.Path.{◌≡◌, sym, ◌∙◌, ap}
use mathlib.Core.List.{List}
use native.Mathlib.Numerals.{add-one}
use native.Mathlib.Omega.{arith}
use lib.ListN.{length, get_or, drop, drop_of_length-le}
use lib.Seq.{drop-cons}
use Rattle.base.specs.Lists.{Within}
use Rattle.canon.specs.Sizes.{sizes_of}

pub record Summing (sizes order : List ℕ) (n k : ℕ) : Type 0 where
  pub most : k ≤ length order
  pub within : Within order (length sizes)
  pub small : sizes_of sizes order < 18446744073709551616
  pub left : n + sizes_of sizes (drop k order) ≡ sizes_of sizes order

module _ {sizes order : List ℕ} {n k : ℕ} (a : Summing sizes order n k) where
  -- x is how many the next rule has, as it was read; i is that rule
  module _ (i x : ℕ) (e : i ≡ get_or order k 0) (f : x ≡ get_or sizes i 0) (h : k < length order) where
    next : sizes_of sizes (drop k order) ≡ x + sizes_of sizes (drop (k + 1) order)
    unfolding sizes_of
    next =
        ap (sizes_of sizes) (drop-cons order k 0 h)
        ∙ ap (λ (m : ℕ). get_or sizes (get_or order k 0) 0 + sizes_of sizes (drop m order)) (sym (add-one k))
        ∙ ap (λ (m : ℕ). m + sizes_of sizes (drop (k + 1) order)) (sym (f ∙ ap (λ (m : ℕ). get_or sizes m 0) e))

    pub summing-room : n + x < 18446744073709551616
    summing-room = omega (arith, next, a.left, a.small)

    pub summing_more : Summing sizes order (n + x) (k + 1)
    summing_more = record { most = omega arith; within = a.within; small = a.small; left = omega (arith, next, a.left) }

  pub summing_end : length order ≤ k → n ≡ sizes_of sizes order
  unfolding sizes_of
  summing_end h = omega (arith, a.left, ap (sizes_of sizes) (drop_of_length-le order h))
