-- The counts of the job that bytes mean, the header of its table, and tests of words from what was read. Assumes nothing.
use Prim.Native.Nat.{ℕ, zero, suc, ◌<◌, ◌≤◌}
use mathlib.Core.Path.{◌≡◌, refl, sym, ◌∙◌, ap}
use mathlib.Core.Bool.{true, false}
use mathlib.Core.List.{List, [], ◌∷◌}
use native.Mathlib.Omega.{arith}
use lib.ListN.{length, get_or, set, replicate}
use Rattle.base.specs.Number.{Number}
use Rattle.base.specs.Compare.{over, differs}
use Rattle.base.proofs.Compare.{over_yes, over_no, differs-yes, differs-no}
use Rattle.base.proofs.Span.{length-span}
use Rattle.job.specs.Format.{claims, workers, questions, job_of}
use Rattle.job.specs.Job.{Job}
use Rattle.table.specs.Layout.{claims_from, workers_from, answers_from, answer_at, used, header}
use Rattle.table.specs.Ranges.{bad_header}

pub record Sizes (s : List ℕ) : Type 0 where
  pub claims_are : (job_of s).claims ≡ claims s
  pub workers_are : (job_of s).workers ≡ workers s
  pub questions_are : length (job_of s).questions ≡ questions s

pub sizes : (s : List ℕ) → Sizes s
unfolding job_of
sizes s = record { claims_are = refl; workers_are = refl; questions_are = length-span _ 0 (questions s) }

-- a table that is long enough has the words of its claims, workers and questions
pub words-room : (s t : List ℕ) → used (job_of s) ≤ length t → answer_at (claims s) (workers s) (questions s) ≤ length t
words-room s t h = let z = sizes s in omega (arith, h)

-- the header's words from counts that were read, and the places that were made of them
pub header_is : (s : List ℕ) {a t q x y z : ℕ} → a ≡ claims s → t ≡ workers s → q ≡ questions s → y ≡ workers_from a → z ≡ answers_from a t → x ≡ answer_at a t q → x ∷ a ∷ t ∷ q ∷ claims_from ∷ y ∷ z ∷ [] ≡ header (job_of s)
unfolding header
header_is s e f g y z x = let k = sizes s in rw (x, y, z, e, f, g, ← k.claims_are, ← k.workers_are, ← k.questions_are)

-- the test of a word of the header, from the header that was made
module _ (j : Job) (t : List ℕ) (i : ℕ) {h : List ℕ} (e : h ≡ header j) where
  pub header_bad : (get_or t i 0 ≡ get_or h i 0 → ⊥) → bad_header j t i ≡ true
  header_bad d = differs-yes _ _ (λ q. d (q ∙ sym (ap (λ (x : List ℕ). get_or x i 0) e)))

  pub header-good : get_or t i 0 ≡ get_or h i 0 → bad_header j t i ≡ false
  header-good q = differs-no _ _ (q ∙ ap (λ (x : List ℕ). get_or x i 0) e)

-- what was read at a place, by the place's name
pub word-there : (t : List ℕ) {a b v n : ℕ} → a ≡ b → Number v (get_or t a 0) n → Number v (get_or t b 0) n
word-there t e r = record { value = r.value ∙ ap (λ (x : ℕ). get_or t x 0) e; small = r.small }

-- what was stored at a place, by the place's name
pub set_there : (t : List ℕ) (v : ℕ) {a b : ℕ} {u : List ℕ} → a ≡ b → u ≡ set t a v → u ≡ set t b v
set_there t v e r = r ∙ ap (λ (x : ℕ). set t x v) e

-- the test of a word that is bounded, from its place a and its bound n
module _ (t : List ℕ) {a b v n m : ℕ} (place : a ≡ b) (read : v ≡ get_or t a 0) (bound : n ≡ m) where
  pub word_bad : n < v → over (get_or t b 0) m ≡ true
  word_bad h = over_yes _ _ (omega (arith, ap (λ (x : ℕ). get_or t x 0) place))

  pub word_good : v ≤ n → over (get_or t b 0) m ≡ false
  word_good h = over_no _ _ (omega (arith, ap (λ (x : ℕ). get_or t x 0) place))

-- the test of a word that is to be n, from its place a
module _ (t : List ℕ) {a b v n m : ℕ} (place : a ≡ b) (read : v ≡ get_or t a 0) (due : n ≡ m) where
  pub word-other : (v ≡ n → ⊥) → differs (get_or t b 0) m ≡ true
  word-other h = differs-yes _ _ (λ e. h (omega (arith, ap (λ (x : ℕ). get_or t x 0) place)))

  pub word_same : v ≡ n → differs (get_or t b 0) m ≡ false
  word_same h = differs-no _ _ (omega (arith, ap (λ (x : ℕ). get_or t x 0) place))

pub zeros_at : (n i : ℕ) → get_or {A = ℕ} (replicate n 0) i 0 ≡ 0
zeros_at zero i = refl
zeros_at (suc n) zero = refl
zeros_at (suc n) (suc i) = zeros_at n i
