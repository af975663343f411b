-- The numbers of a line. Assumes nothing.
--   value_more, value_end    one digit more, and no more
--   digits-are, behind-are   a number, from how many bytes stand before it and how many digits it has
--   past_here, past_more, past_none   a number that is not below the bound; one that is; no more bytes
--   less_behind              what stands behind a number is shorter
use Prim.Native.Nat.{ℕ, zero, suc, ◌+◌, ◌-◌, ◌<◌, ◌≤◌}
use mathlib.Core.List.{List, [], ◌∷◌}
use mathlib.Core.Path.{◌≡◌, refl, sym, ◌∙◌, ap}
use mathlib.Core.Bool.{Bool, true, false, not, ◌&&◌}
use native.Mathlib.Omega.{arith}
use native.Mathlib.Numerals.{add-one}
use lib.ListN.{length, get_or, take, drop, drop_of_length-le, length-drop}
use lib.Seq.{drop-cons}
use Rattle.std.specs.Prelude.{Some, None}
use Rattle.base.specs.Choose.{pick}
use Rattle.base.specs.Compare.{under, not_below}
use Rattle.base.proofs.Choose.{pick_true, pick-false}
use Rattle.writing.proofs.Wrote.{rest_all}
use Rattle.lines.specs.Grammar.{is_digit}
use Rattle.lines.specs.Numbering.{cap, digit_by}
use Rattle.makejob.specs.Pieces.{up_to, not_digit, from_digit, number_in, behind_number, value_from, past_from}
use Rattle.makejob.proofs.Scans.{none_before, one-before, up-length, front}

module _ (s : List ℕ) (i n : ℕ) where
  pub value_more : i < length s → value_from (digit_by cap n (get_or s i 0)) (drop (i + 1) s) ≡ value_from n (drop i s)
  unfolding value_from
  value_more h = rw (add-one i, drop-cons s i 0 h)

  pub value_end : length s ≤ i → n ≡ value_from n (drop i s)
  unfolding value_from
  value_end h = rw (drop_of_length-le s h)

pub digits_up : (s : List ℕ) (n : ℕ) → n ≤ length s → ((k : ℕ) → k < n → is_digit (get_or s k 0) ≡ true) → (n < length s → is_digit (get_or s n 0) ≡ false) → n ≡ length (up_to not_digit s)
unfolding not_digit
digits_up s n f b h = up-length not_digit s n f (λ k l. ap not (b k l)) (λ l. ap not (h l))

module _ (s from : List ℕ) {n m : ℕ} (e : n ≡ length (up_to is_digit s)) (f : from ≡ take (length s - n) (drop n s)) (g : m ≡ length (up_to not_digit from)) where
  from_is : from ≡ from_digit s
  unfolding from_digit
  from_is = f ∙ rest_all s n ∙ ap (λ (k : ℕ). drop k s) e

  pub digits-are : take m from ≡ number_in s
  unfolding number_in
  digits-are = ap (λ (k : ℕ). take k from) g ∙ front not_digit from ∙ ap (up_to not_digit) from_is

  pub behind-are : drop m from ≡ behind_number s
  unfolding behind_number number_in
  behind-are =
      ap (λ (k : ℕ). drop k from) (g ∙ ap (λ (x : List ℕ). length (up_to not_digit x)) from_is)
      ∙ ap (drop (length (number_in s))) from_is

-- what stands behind a number is shorter than the line
behind-length : (x : List ℕ) → length (behind_number x) ≡ length x - length (up_to is_digit x) - length (number_in x)
unfolding behind_number from_digit
behind-length x = length-drop (length (number_in x)) _ ∙ ap (λ (n : ℕ). n - length (number_in x)) (length-drop (length (up_to is_digit x)) x)

number_some : (b : ℕ) (s : List ℕ) → is_digit b ≡ true → 1 ≤ length (number_in (b ∷ s))
unfolding number_in from_digit not_digit
number_some b s h = rw (none_before is_digit b s h) (omega (arith, one-before not_digit b s (ap not h)))

behind_less : (b : ℕ) (s : List ℕ) → length (behind_number (b ∷ s)) ≤ length s
behind_less b s = go (is_digit b) refl
  where
    go : (t : Bool) → is_digit b ≡ t → length (behind_number (b ∷ s)) ≤ length s
    go true h = omega (arith, behind-length (b ∷ s), number_some b s h)
    go false h = omega (arith, behind-length (b ∷ s), one-before is_digit b s h)

-- the first number that is not below a bound: more numbers than there are bytes make no difference
none-past : (n k : ℕ) → None ≡ past_from n [] k
unfolding past_from number_in behind_number from_digit up_to under pick
none-past zero k = refl
none-past (suc n) k = none-past n k

enough : (n m : ℕ) (s : List ℕ) (k : ℕ) → length s ≤ n → length s ≤ m → past_from n s k ≡ past_from m s k
unfolding past_from
enough n m [] k f g = sym (none-past n k) ∙ none-past m k
enough zero m (b ∷ s) k f g = absurd (omega arith)
enough (suc n) zero (b ∷ s) k f g = absurd (omega arith)
enough (suc n) (suc m) (b ∷ s) k f g =
    let l = behind_less b s in
    ap (pick _ (Some (number_in (b ∷ s)))) (enough n m (behind_number (b ∷ s)) k (omega arith) (omega arith))

module _ (s : List ℕ) (k : ℕ) {d : List ℕ} {t : Bool} (e : d ≡ number_in s) (q : t ≡ (under 0 (length d) && not_below (value_from 0 d) k)) where
  test : t ≡ (under 0 (length (number_in s)) && not_below (value_from 0 (number_in s)) k)
  test = q ∙ ap (λ (x : List ℕ). under 0 (length x) && not_below (value_from 0 x) k) e

pub past_here : (s : List ℕ) (k : ℕ) {d : List ℕ} {t : Bool} → d ≡ number_in s → t ≡ (under 0 (length d) && not_below (value_from 0 d) k) → t ≡ true → 1 ≤ length s → Some d ≡ past_from (length s) s k
unfolding past_from
past_here [] k e q h l = absurd (omega arith)
past_here (b ∷ s) k e q h l = ap Some e ∙ sym (pick_true _ _ _ (sym (test (b ∷ s) k e q) ∙ h))

pub past_more : (s : List ℕ) (k : ℕ) {d r : List ℕ} {t : Bool} → d ≡ number_in s → t ≡ (under 0 (length d) && not_below (value_from 0 d) k) → t ≡ false → 1 ≤ length s → r ≡ behind_number s → past_from (length r) r k ≡ past_from (length s) s k
unfolding past_from
past_more [] k e q h l f = absurd (omega arith)
past_more (b ∷ s) k e q h l f =
    let m = behind_less b s in
    ap (λ (x : List ℕ). past_from (length x) x k) f
    ∙ enough (length (behind_number (b ∷ s))) (length s) (behind_number (b ∷ s)) k (omega arith) m
    ∙ sym (pick-false _ _ _ (sym (test (b ∷ s) k e q) ∙ h))

pub past_none : (s : List ℕ) (k : ℕ) → length s ≤ 0 → None ≡ past_from (length s) s k
past_none [] k l = none-past 0 k
past_none (b ∷ s) k l = absurd (omega arith)

pub less_behind : (s r : List ℕ) → 1 ≤ length s → r ≡ behind_number s → length r < length s
less_behind [] r l f = absurd (omega arith)
less_behind (b ∷ s) r l f = omega (arith, ap length f, behind_less b s)
