-- What a mark shows: the reading of a claim and its value. Assumes nothing.
--   mark_most        no mark of a table in range is past the last value's
--   reading-value    the reading of such a mark has the value that the mark shows
--   reading-fresh, -true, -false, -undefined, _open   the reading of each mark
use Prim.Native.Nat.{ℕ, ◌≤◌}
use mathlib.Core.Path.{◌≡◌, ◌∙◌, ap}
use mathlib.Core.List.{List}
use mathlib.Core.Logic.{⊎_elim, by_cases}
use native.Mathlib.Omega.{arith}
use native.Mathlib.Decide.{ℕ_discrete}
use borrow.Author.Tests.{eq-eqb, ne_eqb}
use Rattle.base.proofs.Choose.{pick_true, pick-false}
use Rattle.job.specs.Job.{Job}
use Rattle.table.specs.Layout.{mark, true_mark, false_mark, undefined_mark, value_of}
use Rattle.table.specs.Ranges.{ClaimInRange}
use Rattle.table.specs.Reading.{reading_of, reading_value}
use Rattle.table.specs.declared.Reading.TheVariants.{Fresh, Open, True, False, Undefined}

pub mark_most : (j : Job) (t : List ℕ) (c : ℕ) → j.workers ≤ undefined_mark → ClaimInRange j t c → mark t c ≤ undefined_mark
mark_most j t c h r = ⊎_elim (λ m. omega arith) (λ m. m.1) r.mark_in

module _ (m : ℕ) where
  pub reading-fresh : m ≡ 0 → reading_of m ≡ Fresh
  unfolding reading_of
  reading-fresh e = pick_true _ _ _ (eq-eqb m 0 e)

  pub reading-true : m ≡ true_mark → reading_of m ≡ True
  unfolding reading_of
  reading-true e = pick-false _ _ _ (ne_eqb m 0 (λ z. omega arith)) ∙ pick_true _ _ _ (eq-eqb m true_mark e)

  pub reading-false : m ≡ false_mark → reading_of m ≡ False
  unfolding reading_of
  reading-false e =
      pick-false _ _ _ (ne_eqb m 0 (λ z. omega arith)) ∙ (pick-false _ _ _ (ne_eqb m true_mark (λ z. omega arith)) ∙ pick_true _ _ _ (eq-eqb m false_mark e))

  pub reading-undefined : m ≡ undefined_mark → reading_of m ≡ Undefined
  unfolding reading_of
  reading-undefined e =
      pick-false _ _ _ (ne_eqb m 0 (λ z. omega arith))
      ∙ (pick-false _ _ _ (ne_eqb m true_mark (λ z. omega arith)) ∙ (pick-false _ _ _ (ne_eqb m false_mark (λ z. omega arith)) ∙ pick_true _ _ _ (eq-eqb m undefined_mark e)))

  pub reading_open : (m ≡ 0 → ⊥) → (m ≡ true_mark → ⊥) → (m ≡ false_mark → ⊥) → (m ≡ undefined_mark → ⊥) → reading_of m ≡ Open
  unfolding reading_of
  reading_open a b d e =
      pick-false _ _ _ (ne_eqb m 0 a) ∙ (pick-false _ _ _ (ne_eqb m true_mark b) ∙ (pick-false _ _ _ (ne_eqb m false_mark d) ∙ pick-false _ _ _ (ne_eqb m undefined_mark e)))

  pub reading-value : m ≤ undefined_mark → reading_value (reading_of m) ≡ value_of m
  reading-value h =
      by_cases (ℕ_discrete m 0) (λ e. ap reading_value (reading-fresh e) ∙ omega arith)
      (λ a. by_cases (ℕ_discrete m true_mark) (λ e. ap reading_value (reading-true e) ∙ omega arith)
      (λ b. by_cases (ℕ_discrete m false_mark) (λ e. ap reading_value (reading-false e) ∙ omega arith)
      (λ d. by_cases (ℕ_discrete m undefined_mark) (λ e. ap reading_value (reading-undefined e) ∙ omega arith)
      (λ f. ap reading_value (reading_open a b d f) ∙ omega arith))))
