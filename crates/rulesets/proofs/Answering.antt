-- What the call answers, by the size. Assumes nothing.
--   answer_less, answer_more, answer_out, answer-counted   the call's ways out: below, above, either, and counted
--   answered        specs/Laws: Answered, of the answer; answered-only   and of no other number and values
use Prim.Native.Nat.{ℕ, ◌≤◌, ◌<◌}
use mathlib.Core.Path.{◌≡◌, refl, sym, ◌∙◌, ap, subst}
use mathlib.Core.List.{List, [], ◌∷◌}
use mathlib.Core.Logic.{by_cases}
use native.Mathlib.Decide.{dec_lt}
use native.Mathlib.Omega.{arith}
use Rattle.base.proofs.Choose.{pick_true, pick-false}
use Rattle.base.proofs.Compare.{under-yes, under-no, over_yes, over_no}
use Rattle.semantics.specs.Model.{True, False, Undefined}
use Rattle.rulesets.specs.Sets.{all_sets}
use Rattle.rulesets.specs.Census.{census_of, census_answer, answer_number, answer_values}
use Rattle.rulesets.specs.Laws.{Numbers, Answered, small, large, counted}
use Rattle.rulesets.specs.declared.Counts.{Counts}
use Rattle.rulesets.specs.CensusAnswer.{CensusAnswer, Counted, Refused}
use Rattle.rulesets.proofs.Adding.{making_is, making-only, adds-up}
use Rattle.rulesets.proofs.FirstSet.{first-most, most_one}

module _ (n : ℕ) where
  pub answer_less : n < 1 → Refused 26 n ≡ census_answer n
  unfolding census_answer
  answer_less h = sym (pick_true _ _ _ (under-yes n 1 h))

  pub answer_more : 1 ≤ n → 3 < n → Refused 26 n ≡ census_answer n
  unfolding census_answer
  answer_more l h = sym (pick-false _ _ _ (under-no n 1 l) ∙ pick_true _ _ _ (over_yes n 3 h))

  pub answer_out : (1 ≤ n → n ≤ 3 → ⊥) → Refused 26 n ≡ census_answer n
  answer_out h = by_cases (dec_lt n 1) answer_less (λ l. answer_more (omega (arith, l)) (omega (arith, l, h)))

  pub answer-counted : 1 ≤ n → n ≤ 3 → {m : Counts} → m ≡ census_of n → Counted m ≡ census_answer n
  unfolding census_answer
  answer-counted l h e = ap Counted e ∙ sym (pick-false _ _ _ (under-no n 1 l) ∙ pick-false _ _ _ (over_no n 3 h))

  pub numbers : Numbers n (census_of n).trues (census_of n).falses (census_of n).undefineds (census_of n).place (census_of n).turns
  unfolding census_of
  numbers =
      record {
        trues = making_is True (all_sets n);
        falses = making_is False (all_sets n);
        undefineds = making_is Undefined (all_sets n);
        add_up = adds-up n;
        first_most = first-most n;
      }

  abbrev Right : CensusAnswer → Type 0
  Right a = Answered n (answer_number a) (answer_values a)

  pub answered : {a : CensusAnswer} → a ≡ census_answer n → Right a
  answered {a} e =
      by_cases (dec_lt n 1) (λ h. subst Right (answer_less h ∙ sym e) (small h))
      (λ l.
      by_cases (dec_lt 3 n) (λ h. subst Right (answer_more (omega (arith, l)) h ∙ sym e) (large h))
      (λ h. subst Right (answer-counted (omega (arith, l)) (omega (arith, h)) refl ∙ sym e) (counted (omega (arith, l)) (omega (arith, h)) _ _ _ _ _ numbers)))

  same_numbers :
      (t f u p m : ℕ) → Numbers n t f u p m
      → t ∷ f ∷ u ∷ p ∷ m ∷ [] ≡ (census_of n).trues ∷ (census_of n).falses ∷ (census_of n).undefineds ∷ (census_of n).place ∷ (census_of n).turns ∷ []
  unfolding census_of
  same_numbers t f u p m N =
      let a = making-only True N.trues in
      let b = making-only False N.falses in
      let c = making-only Undefined N.undefineds in
      let d = most_one N.first_most (first-most n) in
      let d₁ = d.0 in
      let d₂ = d.1 in
      cc

  pub answered-only :
      {a : CensusAnswer} → a ≡ census_answer n → (number : ℕ) (values : List ℕ) → Answered n number values → (number ≡ answer_number a) × (values ≡ answer_values a)
  answered-only e number values (small h) = let q = answer_less h ∙ sym e in (ap answer_number q, ap answer_values q)
  answered-only e number values (large h) = let q = answer_more (omega arith) h ∙ sym e in (ap answer_number q, ap answer_values q)
  answered-only e number values (counted l h t f u p m N) =
      let q = answer-counted l h refl ∙ sym e in (ap answer_number q, same_numbers t f u p m N ∙ ap answer_values q)
