-- Rounds of the alternation, from W to the next (specs/Rounds). Assumes nothing.
--   Round P W U' K'           what a round from W makes: U' = D(W), then K' = D(U'), which is the next W
--   rising-start, -next       the empty set, and the set after a round
--   rising-below              W is inside the next U'
--   rising_stays              a round whose U' stays has come to K and U
use Prim.Native.Nat.{ℕ}
use mathlib.Core.Path.{◌≡◌, sym, ◌∙◌, ap, subst⁻¹}
use lib.Dec.{T}
use Rattle.base.specs.Sets.{Claims, ◌⊆◌}
use Rattle.semantics.specs.Model.{Program, D, K, U}
use Rattle.model.specs.Rounds.{Rising}
use Rattle.semantics.proofs.LeastSet.{D-antitone}
use Rattle.semantics.proofs.Alternation.{K_fix, U_fix, K⊆U, closed-K}

pub record Round (P : Program) (W U' K' : Claims) : Type 0 where
  pub next_u : U' ≡ D P W
  pub next_k : K' ≡ D P U'

pub rising-start : (P : Program) (W : Claims) → ((c : ℕ) → T (W c) → ⊥) → Rising P W
rising-start P W empty = record { below = λ c t. absurd (empty c t); rises = λ c t. absurd (empty c t) }

module _ (P : Program) (W : Claims) (now : Rising P W) where
  U-below : U P ⊆ D P W
  U-below = subst⁻¹ (λ (X : Claims). X ⊆ D P W) (U_fix P) (D-antitone P (K P) W now.below)

  pub rising-below : W ⊆ D P W
  rising-below c t = U-below c (K⊆U P c (now.below c t))

  module _ (U' K' : Claims) (round : Round P W U' K') where
    made : K' ≡ D P (D P W)
    made = round.next_k ∙ ap (D P) round.next_u

    pub rising-next : Rising P K'
    rising-next =
        subst⁻¹ (Rising P) made
        record {
          below = subst⁻¹ (λ (X : Claims). D P (D P W) ⊆ X) (K_fix P) (D-antitone P (D P W) (U P) U-below);
          rises = D-antitone P (D P W) (D P (D P (D P W))) (D-antitone P (D P (D P W)) W now.rises);
        }

    -- a round whose U' is D of the new K as well has come to K and U
    pub rising_stays : U' ≡ D P K' → (K' ≡ K P) × (U' ≡ U P)
    rising_stays e =
        let is : K' ≡ K P = closed-K P K' rising-next.below (λ c t. subst⁻¹ (λ (X : Claims). T (X c)) (round.next_k ∙ ap (D P) e) t) in
        (is, e ∙ ap (D P) is ∙ sym (U_fix P))
