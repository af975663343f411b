-- Numbers kept at 65,536: no limit and no count tells what is past it apart. Assumes nothing.
--   cap-kept, cap-past                  a number that is not past it; one that is
--   cap_add                             a digit more
--   cap_over, cap-not_below, cap_under  the tests of row 15
--   digit-kept                          what is read digit by digit is never past it
use Prim.Native.Nat.{ℕ, ◌+◌, ◌*◌, ◌<◌, ◌≤◌}
use mathlib.Core.Path.{◌≡◌, refl, sym, ◌∙◌, ap}
use mathlib.Core.Bool.{Bool, true, false}
use native.Mathlib.Omega.{arith}
use Rattle.std.specs.Prelude.{min}
use Rattle.std.specs.Char.{is_ascii_digit}
use Rattle.base.specs.Choose.{pick}
use borrow.Author.Tests.{ltb-true}
use Rattle.base.specs.Compare.{under, over, not_below}
use Rattle.base.proofs.Choose.{pick_true, pick-false, pick_both}
use Rattle.base.proofs.Compare.{under-no, over_yes, over_no, over_le, not_below-yes}
use Rattle.lines.specs.Grammar.{is_digit}
use Rattle.lines.specs.Numbering.{cap, digit_by}

pub ascii-digit : (b : ℕ) → is_ascii_digit b ≡ is_digit b
unfolding is_digit under pick
ascii-digit b = grind arith

pub cap_min : (n : ℕ) → min n 65536 ≡ cap n
unfolding cap over pick
cap_min n = grind arith

pub cap-past : (n : ℕ) → 65536 < n → 65536 ≡ cap n
unfolding cap
cap-past n h = sym (pick_true _ _ _ (over_yes _ _ h))

pub cap-kept : (n : ℕ) → n ≤ 65536 → n ≡ cap n
unfolding cap
cap-kept n h = sym (pick-false _ _ _ (over_no _ _ h))

data Side (n : ℕ) : Type 0 where
  kept : n ≡ cap n → Side n
  past : 65536 < n → 65536 ≡ cap n → Side n

side : (n : ℕ) → Side n
unfolding over
side n = go (over n 65536) refl
  where
    go : (b : Bool) → over n 65536 ≡ b → Side n
    go true e = let h = ltb-true _ _ e in past h (cap-past n h)
    go false e = kept (cap-kept n (over_le n 65536 e))

pub cap_add : (q r : ℕ) → cap (10 * cap q + r) ≡ cap (10 * q + r)
cap_add q r = go (side q)
  where
    go : Side q → cap (10 * cap q + r) ≡ cap (10 * q + r)
    go (kept e) = ap (λ (x : ℕ). cap (10 * x + r)) (sym e)
    go (past l e) = sym (cap-past (10 * cap q + r) (omega arith)) ∙ cap-past (10 * q + r) (omega arith)

pub cap_over : (n k : ℕ) → k < 65536 → over (cap n) k ≡ over n k
cap_over n k h = go (side n)
  where
    go : Side n → over (cap n) k ≡ over n k
    go (kept e) = ap (λ (x : ℕ). over x k) (sym e)
    go (past l e) = over_yes (cap n) k (omega arith) ∙ sym (over_yes n k (omega arith))

pub cap-not_below : (n k : ℕ) → k ≤ 65536 → not_below (cap n) k ≡ not_below n k
cap-not_below n k h = go (side n)
  where
    go : Side n → not_below (cap n) k ≡ not_below n k
    go (kept e) = ap (λ (x : ℕ). not_below x k) (sym e)
    go (past l e) = not_below-yes (cap n) k (omega arith) ∙ sym (not_below-yes n k (omega arith))

pub cap_under : (n : ℕ) → under (cap n) 1 ≡ under n 1
cap_under n = go (side n)
  where
    go : Side n → under (cap n) 1 ≡ under n 1
    go (kept e) = ap (λ (x : ℕ). under x 1) (sym e)
    go (past l e) = under-no (cap n) 1 (omega arith) ∙ sym (under-no n 1 (omega arith))

-- what is read digit by digit is never past it
cap_most : (n : ℕ) → cap n ≤ 65536
unfolding cap
cap_most n = pick_both (λ (x : ℕ). x ≤ 65536) (over n 65536) 65536 n (λ e. omega arith) (λ e. over_le n 65536 e)

pub digit-kept : (n b : ℕ) → digit_by cap n b ≤ 65536
unfolding digit_by
digit-kept n b = pick_both (λ (x : ℕ). x ≤ 65536) (is_digit b) _ 0 (λ e. cap_most _) (λ e. omega arith)
