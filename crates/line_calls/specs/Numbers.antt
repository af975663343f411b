-- The answer of the call on typed lines as a number.
--   Answered s out out' x   x is the number of an answer that lines promises of the text s
use Rattle.std.specs.Prelude.{ℕ, List, ◌≡◌, Result}
use Rattle.job.specs.declared.Refusal.{Refusal}
use Rattle.codes.specs.Numbers.{of_answer}
use Rattle.lines.specs.Answer.{check_of, written_of}
use Rattle.lines.specs.Laws.{Typing}

pub record Answered (s out out' : List ℕ) (x : ℕ) : Type 0 where
  pub answer : Result ℕ Refusal
  pub typing : Typing s out out' (check_of answer) (written_of answer)
  pub number : x ≡ of_answer answer
