-- The answers of the calls on forms as numbers.
--   FormAnswered s out out' x   x is the number of an answer that canon promises of the form of job s
--   of_comparison c             0 earlier, 1 equal, 2 later
--   OrderAnswered s t x         x is the number of an answer that canon promises of two byte strings
use Rattle.std.specs.Prelude.{ℕ, List, ◌≡◌, Result}
use Rattle.std.specs.declared.cmp.Ordering.{Ordering}
use Rattle.std.specs.declared.cmp.Ordering.TheVariants.{Less, Equal, Greater}
use Rattle.job.specs.declared.Refusal.{Refusal}
use Rattle.codes.specs.Numbers.{of_answer}
use Rattle.canon.specs.Answers.{Canonical, Compared}

pub record FormAnswered (s out out' : List ℕ) (x : ℕ) : Type 0 where
  pub answer : Result ℕ Refusal
  pub canonical : Canonical s out answer out'
  pub number : x ≡ of_answer answer

abbrev pub of_comparison : Ordering → ℕ
of_comparison Less = 0
of_comparison Equal = 1
of_comparison Greater = 2

pub record OrderAnswered (s t : List ℕ) (x : ℕ) : Type 0 where
  pub comparison : Ordering
  pub compared : Compared s t comparison
  pub number : x ≡ of_comparison comparison
