-- Each test of specs/Compare from the fact (`-yes`, `-no`), and the fact from the test. Assumes nothing.
use Prim.Native.Nat.{ℕ, ◌<◌, ◌≤◌}
use mathlib.Core.Path.{◌≡◌}
use mathlib.Core.Bool.{true, false}
use borrow.Author.Tests.{lt-ltb, le-ltb, le-leb, lt-leb, eq-eqb, ne_eqb, ltb-true, ltb-false, leb-false, eqb-true, not-false}
use Rattle.base.specs.Compare.{under, over, not_below, differs}

module _ (x y : ℕ) where
  pub under-yes : x < y → under x y ≡ true
  unfolding under
  under-yes h = lt-ltb _ _ h

  pub under-no : y ≤ x → under x y ≡ false
  unfolding under
  under-no h = le-ltb _ _ h

  pub under_le : under x y ≡ false → y ≤ x
  unfolding under
  under_le e = ltb-false _ _ e

  pub under_lt : under x y ≡ true → x < y
  unfolding under
  under_lt e = ltb-true _ _ e

  pub over_yes : y < x → over x y ≡ true
  unfolding over
  over_yes h = lt-ltb _ _ h

  pub over_no : x ≤ y → over x y ≡ false
  unfolding over
  over_no h = le-ltb _ _ h

  pub over_le : over x y ≡ false → x ≤ y
  unfolding over
  over_le e = ltb-false _ _ e

  pub not_below-yes : y ≤ x → not_below x y ≡ true
  unfolding not_below
  not_below-yes h = le-leb _ _ h

  pub not_below-no : x < y → not_below x y ≡ false
  unfolding not_below
  not_below-no h = lt-leb _ _ h

  pub not_below_lt : not_below x y ≡ false → x < y
  unfolding not_below
  not_below_lt e = leb-false _ _ e

  pub differs-yes : (x ≡ y → ⊥) → differs x y ≡ true
  unfolding differs
  differs-yes h = rw (ne_eqb x y h)

  pub differs-no : x ≡ y → differs x y ≡ false
  unfolding differs
  differs-no h = rw (eq-eqb x y h)

  pub differs_eq : differs x y ≡ false → x ≡ y
  unfolding differs
  differs_eq e = eqb-true _ _ (not-false _ e)
