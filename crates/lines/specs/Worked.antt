-- A text worked out by hand (02, order 1), byte by byte: every form of a line, and rules that are not in the order of their heads.
--   example_lines, example_text   lines, and what is typed for them
--   example_job                   their job
--   Worked                        that the definitions give these
use Rattle.std.specs.Prelude.{ℕ, List, [], ◌∷◌, ◌≡◌}
use Rattle.job.specs.Job.{Job, ◌if◌}
use Rattle.job.specs.declared.Literal.TheVariants.{Plain, Negated}
use Rattle.lines.specs.Lines.{Lines, text_of, job_from}

abbrev pub example_lines : Lines
example_lines =
    record {
      claims = 3;
      workers = 1;
      rules = record { head = 2; body = Negated 0 ∷ Plain 1 ∷ [] } ∷ record { head = 0; body = [] } ∷ [];
      questions = record { worker = 0; claim = 2 } ∷ [];
    }

-- `claims 3 workers 1`, `2 if not 0, 1.`, `0.`, `ask 0 2`, each with its line feed
abbrev pub example_text : List ℕ
example_text =
    99 ∷ 108 ∷ 97 ∷ 105 ∷ 109 ∷ 115 ∷ 32 ∷ 51 ∷ 32 ∷ 119 ∷ 111 ∷ 114 ∷ 107 ∷ 101 ∷ 114 ∷ 115 ∷ 32 ∷ 49 ∷ 10 ∷
    50 ∷ 32 ∷ 105 ∷ 102 ∷ 32 ∷ 110 ∷ 111 ∷ 116 ∷ 32 ∷ 48 ∷ 44 ∷ 32 ∷ 49 ∷ 46 ∷ 10 ∷
    48 ∷ 46 ∷ 10 ∷
    97 ∷ 115 ∷ 107 ∷ 32 ∷ 48 ∷ 32 ∷ 50 ∷ 10 ∷
    []

-- 0 always; 2 if not 0, 1
abbrev pub example_job : Job
example_job =
    record {
      claims = 3;
      workers = 1;
      rules = (0 if []) ∷ (2 if (Negated 0 ∷ Plain 1 ∷ [])) ∷ [];
      questions = record { worker = 0; claim = 2 } ∷ [];
    }

pub record Worked : Type 0 where
  pub text : text_of example_lines ≡ example_text
  pub job : job_from example_lines ≡ example_job
