-- How many sets make claim 0 true, false, undefined: each set is counted for one verdict, its own. Assumes nothing.
--   making_is, making-only   specs/Laws: Making, of what is counted, and of no other number
--   adds-up                  the three counts add up to all sets
use Prim.Native.Nat.{ℕ, ◌+◌}
use mathlib.Core.Path.{◌≡◌, refl, ◌∙◌, ap}
use mathlib.Core.List.{List, [], ◌∷◌}
use mathlib.Core.Logic.{by_cases}
use native.Mathlib.Decide.{ℕ_discrete}
use native.Mathlib.Omega.{arith}
use lib.ListN.{length}
use Rattle.semantics.specs.Model.{Verdict, True, False, Undefined, byte_of}
use Rattle.rulesets.specs.Sets.{Choice, all_sets, set_count}
use Rattle.rulesets.specs.Census.{first_verdict, making}
use Rattle.rulesets.specs.Laws.{Making, none, this, other}
use Rattle.rulesets.proofs.Listed.{sets_count}
use Rattle.rulesets.proofs.OneMore.{byte_one, one_more, none_more, one_each}

module _ (v : Verdict) where
  pub making_is : (rs : List (List Choice)) → Making v rs (making v rs)
  unfolding making
  making_is [] = none
  making_is (r ∷ rs) =
      by_cases (ℕ_discrete (byte_of (first_verdict r)) (byte_of v))
      (λ e. let q = byte_one (first_verdict r) v e in rw (one_more v r rs q) (this r rs (making v rs) q (making_is rs)))
      (λ n. let q : first_verdict r ≡ v → ⊥ = λ e. n (ap byte_of e) in rw (none_more v r rs q) (other r rs (making v rs) q (making_is rs)))

  pub making-only : {rs : List (List Choice)} {k : ℕ} → Making v rs k → k ≡ making v rs
  unfolding making
  making-only none = refl
  making-only (this r rs k e m) = omega (arith, making-only m, one_more v r rs e)
  making-only (other r rs k n m) = omega (arith, making-only m, none_more v r rs n)

all_made : (rs : List (List Choice)) → making True rs + making False rs + making Undefined rs ≡ length rs
unfolding making
all_made [] = refl
all_made (r ∷ rs) = omega (arith, one_each (first_verdict r), all_made rs)

pub adds-up : (n : ℕ) → making True (all_sets n) + making False (all_sets n) + making Undefined (all_sets n) ≡ set_count n
adds-up n = all_made (all_sets n) ∙ sets_count n
