-- Heads and bodies, one rule after the other. Assumes nothing.
use Prim.Native.Nat.{ℕ, zero, suc, ◌+◌, ◌<◌, ◌≤◌}
use mathlib.Core.Path.{◌≡◌, refl, ◌∙◌, ap, ap₂}
use mathlib.Core.List.{List}
use mathlib.Core.Logic.{⊎_elim}
use native.Mathlib.Omega.{arith}
use native.Mathlib.Nat.{eq-or-lt_of_le, le_of_suc-le-suc}
use native.Mathlib.Numerals.{add-one}
use Rattle.job.specs.Format.{rules, literals, head_at, head_before, body_start, body_length_at, literal_at, question_at}
use Rattle.job.specs.Accepted.{WellFormed}
use Rattle.job.specs.Job.{claim_of}
use Rattle.job.specs.declared.Literal.{Literal}
use Rattle.job.specs.declared.Question.{Question}

pub body_first : (s : List ℕ) → body_start s 0 ≡ 0
unfolding body_start
body_first s = refl

-- one rule more, at the code's i + 1
pub head_before-next : (s : List ℕ) (i : ℕ) → head_before s (i + 1) ≡ head_at s i
unfolding head_before
head_before-next s i = rw add-one

pub body_start-next : (s : List ℕ) (i : ℕ) → body_start s (i + 1) ≡ body_start s i + body_length_at s i
unfolding body_start
body_start-next s i = rw add-one

-- the bodies up to rule i's are within those of m rules, for i below m
pub body-within : (s : List ℕ) (i m : ℕ) → i < m → body_start s i + body_length_at s i ≤ body_start s m
unfolding body_start
body-within s i zero l = absurd (omega arith)
body-within s i (suc m) l =
    ⊎_elim (λ e. rw e (omega arith)) (λ h. omega (arith, body-within s i m h)) (eq-or-lt_of_le (le_of_suc-le-suc l))

-- so of an accepted job within its literals
pub within-literals : (s : List ℕ) → WellFormed s → (i : ℕ) → i < rules s → body_start s i + body_length_at s i ≤ literals s
within-literals s w i l = omega (arith, body-within s i (rules s) l, w.bodies)

-- heads that never fall rise from any rule to any later one
pub rises : (s : List ℕ) (m : ℕ) → ((k : ℕ) → k < m → head_before s k ≤ head_at s k) → (j i : ℕ) → j ≤ i → i < m → head_at s j ≤ head_at s i
unfolding head_before
rises s m up j zero l h = let e : j ≡ 0 = omega arith in rw e (omega arith)
rises s m up j (suc i) l h =
    ⊎_elim (λ e. rw e (omega arith)) (λ b. omega (arith, rises s m up j i (le_of_suc-le-suc b) (omega arith), up (suc i) h)) (eq-or-lt_of_le l)

-- a question that was read with the counts of the header
pub record Asked (s : List ℕ) (q : ℕ) (r : Question) : Type 0 where
  pub worker_is : r.worker ≡ (question_at s (rules s) (literals s) q).worker
  pub claim_is : r.claim ≡ (question_at s (rules s) (literals s) q).claim

pub asked_at : (s : List ℕ) {m l : ℕ} (q : ℕ) {r : Question} → m ≡ rules s → l ≡ literals s → r ≡ question_at s m l q → Asked s q r
asked_at s {m} {l} q {r} e f g =
    let h : r ≡ question_at s (rules s) (literals s) q = g ∙ ap₂ (λ (x y : ℕ). question_at s x y q) e f in
    record { worker_is = ap (λ (x : Question). x.worker) h; claim_is = ap (λ (x : Question). x.claim) h }

-- a literal's claim that was read with the header's count of rules
pub claim_at : (s : List ℕ) {m : ℕ} (k : ℕ) {l : Literal} {r : ℕ} → m ≡ rules s → l ≡ literal_at s m k → r ≡ claim_of l → r ≡ claim_of (literal_at s (rules s) k)
claim_at s {m} k {l} {r} e f g = g ∙ ap claim_of (f ∙ ap (λ (x : ℕ). literal_at s x k) e)
