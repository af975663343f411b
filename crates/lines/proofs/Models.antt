-- The sorted rules are the program that the typed ones are. Assumes nothing.
--   sorted-program   the same claims, and for each the same bodies, in the same order
use Prim.Native.Nat.{ℕ, ◌<◌, ◌≤◌}
use mathlib.Core.Path.{◌≡◌, refl, sym, ◌∙◌, ap, fun_ext}
use mathlib.Core.Bool.{Bool, true, false, cond}
use mathlib.Core.List.Memᴰ
use mathlib.Core.List.{List, [], ◌∷◌, map}
use native.Mathlib.Omega.{arith}
use lib.Dec.{eqb}
use borrow.Author.Tests.{ne_eqb}
use Rattle.base.specs.Choose.{pick}
use Rattle.base.specs.Compare.{under}
use Rattle.base.proofs.Choose.{pick-false}
use Rattle.base.proofs.Compare.{under_lt, under_le}
use Rattle.job.specs.Job.{Rule}
use Rattle.job.specs.Encoding.{◌∈◌}
use Rattle.semantics.specs.Model.{Body, body_of, bodies_of, program}
use Rattle.lines.specs.Lines.{headed, sorted}
use Rattle.lines.proofs.Sorted.{sorted_same, sorted_in}

-- the bodies of a head are those of its rules
bodies_step : (b : Bool) (r : Rule) (bs : List Body) (rs : List Rule) → bs ≡ map body_of rs → cond b (body_of r ∷ bs) bs ≡ map body_of (pick b (r ∷ rs) rs)
unfolding pick
bodies_step true r bs rs e = ap (λ (x : List Body). body_of r ∷ x) e
bodies_step false r bs rs e = e

bodies-headed : (rs : List Rule) (c : ℕ) → bodies_of rs c ≡ map body_of (headed c rs)
unfolding headed
bodies-headed [] c = refl
bodies-headed (r ∷ rs) c = bodies_step (eqb r.head c) r (bodies_of rs c) (headed c rs) (bodies-headed rs c)

-- no rule has a head past the claims
headed-past : (rs : List Rule) (a c : ℕ) → a ≤ c → ((r : Rule) → r ∈ rs → r.head < a) → headed c rs ≡ []
unfolding headed
headed-past [] a c l h = refl
headed-past (r ∷ rs) a c l h =
    let b = h r (Memᴰ.head refl) in
    pick-false _ _ _ (ne_eqb r.head c (λ e. omega arith)) ∙ headed-past rs a c l (λ x m. h x (Memᴰ.tail m))

module _ (a : ℕ) (rs : List Rule) (heads : (r : Rule) → r ∈ rs → r.head < a) where
  headed-sorted : (c : ℕ) → headed c (sorted a rs) ≡ headed c rs
  headed-sorted c = go (under c a) refl
    where
      go : (b : Bool) → under c a ≡ b → headed c (sorted a rs) ≡ headed c rs
      go true e = sorted_same a rs c (under_lt c a e)
      go false e =
          headed-past (sorted a rs) a c (under_le c a e) (λ r m. heads r (sorted_in a rs r m)) ∙ sym (headed-past rs a c (under_le c a e) heads)

  pub sorted-program : program a (sorted a rs) ≡ program a rs
  unfolding program
  sorted-program =
      let e : bodies_of (sorted a rs) ≡ bodies_of rs = fun_ext (λ c. bodies-headed (sorted a rs) c ∙ ap (map body_of) (headed-sorted c) ∙ sym (bodies-headed rs c)) in
      ap (λ f. record { claims = a; bodies = f }) e
