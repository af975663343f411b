use Prim.Native.Nat.{ℕ}
use mathlib.Core.Path.{◌≡◌, ◌∙◌, ap₂}
use mathlib.Core.Bool.{◌||◌, ◌&&◌}
use native.Mathlib.Omega.{arith}
use Rattle.std.specs.Ordering.{nat_cmp, partial_ordering_then, is_some_and, is_lt}
use lib.Dec.{ltb, eqb}
use Rattle.std.specs.Prelude.{Some}
use Rattle.std.proofs.lemmas.Bool.Decides.{nat_tests}
use Rattle.table.specs.Newest.{is_newer}
use Rattle.table.proofs.newest.is_newer.Goals as goal

-- a pair of numbers is below another where its first number is, or that is the same and its second is
below : (m n d c : ℕ) → is_some_and is_lt (partial_ordering_then (Some (nat_cmp m n)) (Some (nat_cmp d c))) ≡ (ltb m n || (eqb m n && ltb d c))
below m n d c = grind (arith, nat_tests)

pub returns : goal.returns
unfolding is_newer
returns c = let a = c.args in
    c.lt.ensures ∙ (below c.number_at.result c.number_at-2.result a.d a.c ∙ ap₂ (λ (x y : ℕ). ltb x y || (eqb x y && ltb a.d a.c)) c.number_at.ensures.value c.number_at-2.ensures.value)
