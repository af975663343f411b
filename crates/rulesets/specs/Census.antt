-- The five numbers of a size (02, order 12), as folds over its rule sets, and what the call answers.
--   first_verdict r      claim 0's verdict in the job of set r
--   making v rs          how many of the sets rs make claim 0's verdict v
--   changing ks          how many of the kinds are not idle
--   needed_by j          how many changing turns the questions of job j need until all is answered; turns_for r   those of the job of set r
--   Most                 a place and a number of turns; better m k n   the better one of m and the set at place k, which needs n turns
--   most_from m k rs     the best one of m and of the sets rs, the first of which is at place k; most_of n   that of all sets of size n
--   census_of n          the five numbers of size n; numbers_of c   them, in the order of the line
--   census_answer n      what the call answers
--   answer_number a, answer_values a   each case of an answer by its number and its values
use Rattle.std.specs.Prelude.{ℕ, ◌+◌, List, [], ◌∷◌, eqb, Ok, Err}
use Rattle.base.specs.Choose.{pick}
use Rattle.base.specs.Compare.{under, over}
use Rattle.job.specs.Job.{Job}
use Rattle.semantics.specs.Model.{Verdict, True, False, Undefined, program_of, verdict, byte_of}
use Rattle.turn.specs.Turn.{kind_number, run_kinds}
use Rattle.turn.specs.declared.Kind.{Kind}
use Rattle.listing.specs.Finish.{finish_turns, most}
use Rattle.listing.specs.Listing.{first_table}
use Rattle.rulesets.specs.Sets.{Choice, all_sets}
use Rattle.rulesets.specs.Jobs.{job_of_set}
use Rattle.rulesets.specs.declared.Counts.{Counts}
use Rattle.rulesets.specs.CensusAnswer.{CensusAnswer, Counted, Refused}

-- "the first three how many make claim 0 true, false, undefined"
abbrev pub first_verdict : List Choice → Verdict
first_verdict r = verdict (program_of (job_of_set r)) 0

unfoldable pub making : Verdict → List (List Choice) → ℕ
making v [] = 0
making v (r ∷ rs) = pick (eqb (byte_of (first_verdict r)) (byte_of v)) 1 0 + making v rs

-- "changing turns": (01) "A turn changes something exactly when its kind isn't idle."
unfoldable pub changing : List Kind → ℕ
changing [] = 0
changing (k ∷ ks) = pick (eqb (kind_number k) 0) 0 1 + changing ks

-- (01) "from a freshly started table, worker 0 taking turns until all is answered"
abbrev pub needed_by : Job → ℕ
needed_by j = changing (run_kinds j (first_table j) (finish_turns (most j) j (first_table j) 0))

abbrev pub turns_for : List Choice → ℕ
turns_for r = needed_by (job_of_set r)

-- "the place, from 0, in the order met, of the first set that needs most changing turns .., and those turns"
pub record Most : Type 0 where
  pub place : ℕ
  pub turns : ℕ

unfoldable pub better : Most → ℕ → ℕ → Most
better m k n = pick (under m.turns n) (record { place = k; turns = n }) m

unfoldable pub most_from : Most → ℕ → List (List Choice) → Most
most_from m k [] = m
most_from m k (r ∷ rs) = most_from (better m k (turns_for r)) (k + 1) rs

abbrev pub most_of : ℕ → Most
most_of n = most_from (record { place = 0; turns = 0 }) 0 (all_sets n)

unfoldable pub census_of : ℕ → Counts
census_of n =
    record {
      trues = making True (all_sets n);
      falses = making False (all_sets n);
      undefineds = making Undefined (all_sets n);
      place = (most_of n).place;
      turns = (most_of n).turns;
    }

-- "five numbers": in the order of the line
abbrev pub numbers_of : Counts → List ℕ
numbers_of c = c.trues ∷ c.falses ∷ c.undefineds ∷ c.place ∷ c.turns ∷ []

-- "Checks: 26 a size other than 1 to 3, with it."
unfoldable pub census_answer : ℕ → CensusAnswer
census_answer n = pick (under n 1) (Refused 26 n) (pick (over n 3) (Refused 26 n) (Counted (census_of n)))

-- the number and the values of each case: 0 and the five numbers; the check and its place
abbrev pub answer_number : CensusAnswer → ℕ
answer_number (Ok c) = 0
answer_number (Err refusal) = refusal.number

abbrev pub answer_values : CensusAnswer → List ℕ
answer_values (Ok c) = numbers_of c
answer_values (Err refusal) = refusal.place ∷ []
