-- The equations of `decimal`. Assumes nothing.
--   Size n, size                   n is below 10 (small), or not (large)
--   decimal-small, decimal-large   a number below 10; any other
--   length-small, length-large     their lengths
--   length_some, length-room       at least one digit; at most 20 below 2 to the 64
--   decimals                       specs/Decimal: Decimals
use Prim.Native.Nat.{ℕ, zero, suc, ◌+◌, ◌/◌, ◌%◌, ◌^◌, ◌≤◌, ◌<◌}
use mathlib.Core.Path.{◌≡◌, refl, sym, ◌∙◌, ap}
use mathlib.Core.Bool.{Bool, true, false}
use mathlib.Core.List.{List, [], ◌∷◌, ◌++◌}
use native.Mathlib.Nat.{pow-suc}
use native.Mathlib.Omega.{arith}
use lib.ListN.{length, length-append}
use Rattle.base.specs.Choose.{pick}
use Rattle.base.specs.Compare.{under}
use Rattle.base.proofs.Choose.{pick_true, pick-false}
use Rattle.base.proofs.Compare.{under-yes, under-no, under_le, under_lt}
use Rattle.writing.specs.Decimal.{decimal, decimal_in, digit, Decimals}

-- which way the test of a further digit goes
pub data Size (n : ℕ) : Type 0 where
  small : n < 10 → Size n
  large : 10 ≤ n → Size n

pub size : (n : ℕ) → Size n
size n = go (under n 10) refl
  where
    go : (b : Bool) → under n 10 ≡ b → Size n
    go true e = small (under_lt n 10 e)
    go false e = large (under_le n 10 e)

in_small : (k n : ℕ) → n < 10 → decimal_in k n ≡ digit n ∷ []
unfolding decimal_in
in_small zero n h = refl
in_small (suc k) n h = pick_true _ _ _ (under-yes n 10 h)

in-large : (k n : ℕ) → 10 ≤ n → decimal_in (suc k) n ≡ decimal_in k (n / 10) ++ (digit (n % 10) ∷ [])
unfolding decimal_in
in-large k n h = pick-false _ _ _ (under-no n 10 h)

enough-one :
    (k m n : ℕ) → Size n → n ≤ suc k → n ≤ m
    → ((j : ℕ) → n / 10 ≤ k → n / 10 ≤ j → decimal_in k (n / 10) ≡ decimal_in j (n / 10)) → decimal_in (suc k) n ≡ decimal_in m n
enough-one k m n (small h) p q again = in_small (suc k) n h ∙ sym (in_small m n h)
enough-one k zero n (large h) p q again = absurd (omega arith)
enough-one k (suc m) n (large h) p q again =
    in-large k n h
    ∙ ap (λ (l : List ℕ). l ++ (digit (n % 10) ∷ [])) (again m (omega arith) (omega arith))
    ∙ sym (in-large m n h)

enough : (k m n : ℕ) → n ≤ k → n ≤ m → decimal_in k n ≡ decimal_in m n
enough zero m n p q = in_small zero n (omega arith) ∙ sym (in_small m n (omega arith))
enough (suc k) m n p q = enough-one k m n (size n) p q (λ j. enough k j (n / 10))

pub decimal-small : (n : ℕ) → n < 10 → decimal n ≡ digit n ∷ []
unfolding decimal
decimal-small n h = in_small n n h

pub decimal-large : (n : ℕ) → 10 ≤ n → decimal n ≡ decimal (n / 10) ++ (digit (n % 10) ∷ [])
unfolding decimal
decimal-large zero h = absurd (omega arith)
decimal-large (suc n) h =
    in-large n (suc n) h
    ∙ ap (λ (l : List ℕ). l ++ (digit (suc n % 10) ∷ [])) (enough n (suc n / 10) (suc n / 10) (omega arith) (omega arith))

pub length-small : (n : ℕ) → n < 10 → length (decimal n) ≡ 1
length-small n h = ap length (decimal-small n h)

pub length-large : (n : ℕ) → 10 ≤ n → length (decimal n) ≡ length (decimal (n / 10)) + 1
length-large n h = ap length (decimal-large n h) ∙ length-append (decimal (n / 10)) (digit (n % 10) ∷ [])

length-one :
    (k n : ℕ) → Size n → n < 10 ^ suc (suc k)
    → (n / 10 < 10 ^ suc k → length (decimal (n / 10)) ≤ suc k) → length (decimal n) ≤ suc (suc k)
length-one k n (small h) p again = omega (arith, length-small n h)
length-one k n (large h) p again = omega (arith, length-large n h, again (omega (arith, pow-suc 10 (suc k))))

-- a number below 10 to the k has at most k digits
length-below : (k n : ℕ) → n < 10 ^ suc k → length (decimal n) ≤ suc k
length-below zero n p = omega (arith, length-small n p)
length-below (suc k) n p = length-one k n (size n) p (length-below k (n / 10))

pub length-room : (n : ℕ) → n < 18446744073709551616 → length (decimal n) ≤ 20
length-room n h = length-below 19 n (omega arith)

pub length_some : (n : ℕ) → 1 ≤ length (decimal n)
length_some n = go (size n)
  where
    go : Size n → 1 ≤ length (decimal n)
    go (small h) = omega (arith, length-small n h)
    go (large h) = omega (arith, length-large n h)

pub decimals : (n : ℕ) → Decimals n
decimals n = record { small = decimal-small n; large = decimal-large n; some = length_some n; room = length-room n }

-- 0 and 120, by computing
zero-text : decimal 0 ≡ 48 ∷ []
unfolding decimal decimal_in under pick
zero-text = refl

some-text : decimal 120 ≡ 49 ∷ 50 ∷ 48 ∷ []
unfolding decimal decimal_in under pick
some-text = refl
