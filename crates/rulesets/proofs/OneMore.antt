-- One set more, counted for its own verdict. Assumes nothing.
--   byte_one              verdicts are told apart by their bytes
--   one_more, none_more   a set counts for its own verdict, and for no other
--   one_each              a verdict is one of the three
use Prim.Native.Nat.{ℕ, suc, ◌+◌}
use mathlib.Core.Path.{◌≡◌, refl, ap}
use mathlib.Core.List.{List, ◌∷◌}
use native.Mathlib.Omega.{arith}
use borrow.Author.Tests.{eq-eqb, ne_eqb}
use lib.Dec.{eqb}
use Rattle.base.specs.Choose.{pick}
use Rattle.semantics.specs.Model.{Verdict, True, False, Undefined, byte_of}
use Rattle.rulesets.specs.Sets.{Choice}
use Rattle.rulesets.specs.Census.{first_verdict, making}

pub byte_one : (v w : Verdict) → byte_of v ≡ byte_of w → v ≡ w
byte_one True True e = refl
byte_one True False e = absurd (omega (arith, e))
byte_one True Undefined e = absurd (omega (arith, e))
byte_one False True e = absurd (omega (arith, e))
byte_one False False e = refl
byte_one False Undefined e = absurd (omega (arith, e))
byte_one Undefined True e = absurd (omega (arith, e))
byte_one Undefined False e = absurd (omega (arith, e))
byte_one Undefined Undefined e = refl

module _ (v : Verdict) where
  pub one_more : (r : List Choice) (rs : List (List Choice)) → first_verdict r ≡ v → making v (r ∷ rs) ≡ suc (making v rs)
  unfolding making pick
  one_more r rs e = rw (eq-eqb (byte_of (first_verdict r)) (byte_of v) (ap byte_of e)) (omega arith)

  pub none_more : (r : List Choice) (rs : List (List Choice)) → (first_verdict r ≡ v → ⊥) → making v (r ∷ rs) ≡ making v rs
  unfolding making pick
  none_more r rs n = rw (ne_eqb (byte_of (first_verdict r)) (byte_of v) (λ e. n (byte_one (first_verdict r) v e))) (omega arith)

abbrev pub one_of : Verdict → Verdict → ℕ
one_of v w = pick (eqb (byte_of v) (byte_of w)) 1 0

pub one_each : (v : Verdict) → one_of v True + one_of v False + one_of v Undefined ≡ 1
unfolding pick
one_each True = refl
one_each False = refl
one_each Undefined = refl
