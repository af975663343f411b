-- A foreign claim (specs/Groups: foreign). Assumes nothing.
--   foreign_open, open-foreign   the test of a claim, and what it says
--   foreign-public, foreign_else  the same by the byte that the code reads
use Prim.Native.Nat.{ℕ}
use mathlib.Core.Path.{◌≡◌, sym, ◌∙◌, ap}
use mathlib.Core.Bool.{Bool, false, not, ◌&&◌}
use mathlib.Core.List.{List}
use mathlib.Core.Logic.{by_cases}
use native.Mathlib.Decide.{ℕ_discrete}
use lib.Dec.{T, eqb}
use lib.ListN.{get_or}
use Rattle.base.specs.Compare.{differs}
use Rattle.base.proofs.Bools.{is, is-not, and_in, and_left, and_right}
use Rattle.base.proofs.Compare.{differs-yes, differs-no}
use Rattle.groups.specs.Groups.{Open, public, own, foreign}

module _ (gs : List ℕ) (g c : ℕ) where
  abbrev unpublished : Bool
  unpublished = differs (get_or gs c 0) 0

  abbrev other : Bool
  other = differs (get_or gs c 0) g

  pub foreign_open : (T (foreign gs g c) → ⊥) → Open gs g c
  unfolding foreign
  foreign_open n =
      by_cases (ℕ_discrete (get_or gs c 0) 0) public
      (λ a. by_cases (ℕ_discrete (get_or gs c 0) g) own
      (λ b. absurd (n (and_in unpublished other (is _ (differs-yes _ _ a)) (is _ (differs-yes _ _ b))))))

  pub open-foreign : Open gs g c → T (foreign gs g c) → ⊥
  unfolding foreign
  open-foreign (public e) t = is-not _ (differs-no (get_or gs c 0) 0 e) (and_left unpublished other t)
  open-foreign (own e) t = is-not _ (differs-no (get_or gs c 0) g e) (and_right unpublished other t)

  -- by the byte that the code reads and tests
  module _ (x : ℕ) (read : x ≡ get_or gs c 0) where
    pub foreign-public : x ≡ 0 → false ≡ foreign gs g c
    unfolding foreign
    foreign-public e = sym (ap (λ (b : Bool). b && other) (differs-no (get_or gs c 0) 0 (sym read ∙ e)))

    pub foreign_else : (x ≡ 0 → ⊥) → not (eqb x g) ≡ foreign gs g c
    unfolding foreign differs
    foreign_else n = ap (λ (y : ℕ). not (eqb y g)) read ∙ sym (ap (λ (b : Bool). b && other) (differs-yes (get_or gs c 0) 0 (λ e. n (read ∙ e))))
