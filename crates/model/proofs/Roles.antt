-- What the two D's of the counters are (counters/specs/Counters): the rules that count nothing for ever, and a step of the program.
-- Assumes nothing.
--   closed_need, closed_fail   D(S) has the head of each such rule whose literals hold
--   covers-need, covers-fail   a set that has those heads has all that a step gives
use Prim.Native.Nat.{ℕ, ◌<◌}
use mathlib.Core.Path.{◌≡◌, subst}
use mathlib.Core.Bool.{true}
use mathlib.Core.List.{List}
use mathlib.Core.Logic.{by_cases}
use native.Mathlib.Omega.{arith}
use lib.Dec.{T}
use Rattle.base.specs.Sets.{Claims, ◌⊆◌}
use Rattle.base.proofs.Choose.{t?}
use Rattle.job.specs.Format.{rules, head_at, missing_at, literal_at, job_of}
use Rattle.job.specs.Accepted.{WellFormed}
use Rattle.job.proofs.Lengths.{missing_none}
use Rattle.semantics.specs.Model.{program_of, holds, step, D}
use Rattle.semantics.proofs.LeastSet.{D-closed}
use Rattle.semantics.proofs.Extended.{either}
use Rattle.counters.specs.Positions.{Within, fail_base, need_base}
use Rattle.counters.specs.Counters.{Closed}
use Rattle.model.proofs.Steps.{need-own, need-none, step-rule, step-missing, ByStep, by-rule, by-missing, rule_of_step}

module _ (s : List ℕ) (good : WellFormed s) (S : Claims) where
  pub closed_need : Closed s S (need_base s) (D (program_of (job_of s)) S)
  closed_need =
      record {
        closed =
            λ r l e f. D-closed (program_of (job_of s)) S (head_at s r) (step-rule s S (D (program_of (job_of s)) S) good r l (need-own s r e) f);
      }

  pub closed_fail : S ⊆ D (program_of (job_of s)) S → Closed s S fail_base (D (program_of (job_of s)) S)
  closed_fail sub =
      record {
        closed =
            λ r l e f.
            either (missing_at s r)
            (λ m.
            by_cases (t? (S (head_at s r))) (sub (head_at s r))
            (λ n. D-closed (program_of (job_of s)) S (head_at s r) (step-missing s S (D (program_of (job_of s)) S) good r l m n)))
            (λ m. D-closed (program_of (job_of s)) S (head_at s r) (step-rule s S (D (program_of (job_of s)) S) good r l m f));
      }

-- a missing record has no position
missing_nowhere : (s : List ℕ) (r p : ℕ) → missing_at s r ≡ true → Within s p r → ⊥
missing_nowhere s r p e w = omega (arith, missing_none s r e, w.from, w.to)

module _ (s : List ℕ) (S W : Claims) where
  pub covers-need :
      ((r : ℕ) → r < rules s → missing_at s r ≡ true → T (S (head_at s r)))
      → ((r : ℕ) → r < rules s → need_base s r ≡ 0 → ((p : ℕ) → Within s p r → T (holds S W (literal_at s (rules s) p))) → T (W (head_at s r)))
      → step (program_of (job_of s)) S W ⊆ W
  covers-need missings heads c t = at (rule_of_step s S W c t)
    where
      at : ByStep s S W c → T (W c)
      at (by-rule r l h m f) = subst (λ (d : ℕ). T (W d)) h (heads r l (need-none s r m) f)
      at (by-missing r l h m n) = absurd (n (subst (λ (d : ℕ). T (S d)) h (missings r l m)))

  pub covers-fail :
      ((r : ℕ) → r < rules s → ((p : ℕ) → Within s p r → T (holds S W (literal_at s (rules s) p))) → T (W (head_at s r)))
      → step (program_of (job_of s)) S W ⊆ W
  covers-fail heads c t = at (rule_of_step s S W c t)
    where
      at : ByStep s S W c → T (W c)
      at (by-rule r l h m f) = subst (λ (d : ℕ). T (W d)) h (heads r l f)
      at (by-missing r l h m n) = subst (λ (d : ℕ). T (W d)) h (heads r l (λ p w. absurd (missing_nowhere s r p m w)))
