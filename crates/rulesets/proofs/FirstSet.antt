-- The fold finds the first set that needs most turns, and there is one such set only. Assumes nothing.
--   first-most    specs/Laws: FirstMost, of what is found
--   most_one      no other place and turns are so
use Prim.Native.Nat.{ℕ, suc, ◌+◌, ◌<◌, ◌≤◌}
use mathlib.Core.Path.{◌≡◌, refl, sym, ◌∙◌, ap, subst}
use mathlib.Core.List.{List, [], ◌∷◌}
use mathlib.Core.Logic.{inr, ⊎_elim, by_cases}
use native.Mathlib.Nat.{one-le-pow}
use native.Mathlib.Decide.{dec_lt}
use native.Mathlib.Omega.{arith}
use lib.ListN.{length, get_or}
use Rattle.rulesets.specs.Sets.{Choice, all_sets, set_no, choice_count, set_count}
use Rattle.rulesets.specs.Census.{Most, better, most_from, most_of, turns_for}
use Rattle.rulesets.specs.Laws.{FirstMost}
use Rattle.rulesets.proofs.Listed.{sets_count}
use Rattle.rulesets.proofs.Better.{Best, step}

module _ (t : ℕ → ℕ) where
  along : (rs : List (List Choice)) (k : ℕ) (m : Most) → ((i : ℕ) → i < length rs → t (k + i) ≡ turns_for (get_or rs i [])) → Best t k m → Best t (k + length rs) (most_from m k rs)
  unfolding most_from
  along [] k m f b = let e : k ≡ k + 0 = omega arith in subst (λ (x : ℕ). Best t x m) e b
  along (r ∷ rs) k m f b =
      let z : k + 0 ≡ k = omega arith in
      let e : k + 1 + length rs ≡ k + suc (length rs) = omega arith in
      subst (λ (x : ℕ). Best t x (most_from (better m k (turns_for r)) (k + 1) rs)) e
      (along rs (k + 1) (better m k (turns_for r)) (λ i h. let q : k + 1 + i ≡ k + suc i = omega arith in ap t q ∙ f (suc i) (omega arith))
      (step t k m (turns_for r) (sym (f 0 (omega arith)) ∙ ap t z) b))

pub first-most : (n : ℕ) → FirstMost n (most_of n).place (most_of n).turns
first-most n =
    done
    (along (λ i. turns_for (set_no n i)) (all_sets n) 0 (record { place = 0; turns = 0 }) (λ i h. let z : 0 + i ≡ i = omega arith in ap (λ (x : ℕ). turns_for (set_no n x)) z)
    (record { most = λ i h. absurd (omega arith); first = λ i h. absurd (omega arith); is = inr (refl, refl, refl) }))
  where
    some : 1 ≤ set_count n
    some = one-le-pow n (choice_count n) (omega arith)

    done : Best (λ i. turns_for (set_no n i)) (0 + length (all_sets n)) (most_of n) → FirstMost n (most_of n).place (most_of n).turns
    done b =
        record {
          met = ⊎_elim (λ q. omega (arith, q.0, sets_count n)) (λ q. absurd (omega (arith, q.0, sets_count n, some))) b.is;
          needs = ⊎_elim (λ q. q.1) (λ q. absurd (omega (arith, q.0, sets_count n, some))) b.is;
          most = λ k h. b.most k (omega (arith, sets_count n));
          first = b.first;
        }

pub most_one : {n p m q l : ℕ} → FirstMost n p m → FirstMost n q l → (p ≡ q) × (m ≡ l)
most_one {n} {p} {m} {q} {l} a b =
    let e : m ≡ l = omega (arith, a.needs, b.needs, b.most p a.met, a.most q b.met) in
    let one : p ≡ q =
    by_cases (dec_lt p q) (λ h. absurd (omega (arith, b.first p h, a.needs, e)))
    (λ i. by_cases (dec_lt q p) (λ h. absurd (omega (arith, a.first q h, b.needs, e))) (λ k. omega (arith, i, k))) in
    (one, e)
