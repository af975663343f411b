-- What 02 states by example, and sets worked out by hand, as numbers: computed (proofs/Worked).
--   three     a set of three claims: `0 if not 0, 1, not 2.` `1.` `2 if 0, not 1.`
--   Worked    the numbers of one claim and of two, the order of the first sets of two, a set's number and job, answers
use Rattle.std.specs.Prelude.{◌≡◌, List, [], ◌∷◌, map, take}
use Rattle.job.specs.Encoding.{encode}
use Rattle.semantics.specs.Model.{True, False, Undefined}
use Rattle.rulesets.specs.Sets.{absent, plain, negated, Choice, no_rule, rule, all_sets, set_number}
use Rattle.rulesets.specs.Jobs.{job_of_set}
use Rattle.rulesets.specs.Census.{first_verdict, turns_for, census_of, numbers_of, census_answer, answer_number, answer_values}

abbrev pub three : List Choice
three = rule (negated ∷ plain ∷ negated ∷ []) ∷ rule (absent ∷ absent ∷ absent ∷ []) ∷ rule (plain ∷ negated ∷ absent ∷ []) ∷ []

pub record Worked : Type 0 where
  -- "For one claim that is 1, 2, 1."; "2 and 4 for one claim"
  pub one : numbers_of (census_of 1) ≡ 1 ∷ 2 ∷ 1 ∷ 2 ∷ 4 ∷ []
  -- no rule, `0.`, `0 if 0.`, `0 if not 0.`
  pub verdicts : map first_verdict (all_sets 1) ≡ False ∷ True ∷ False ∷ Undefined ∷ []
  pub turns : map turns_for (all_sets 1) ≡ 3 ∷ 3 ∷ 4 ∷ 4 ∷ []
  -- of two claims, as a program of other authorship counts them (tests/oracle/census.rs)
  pub two : numbers_of (census_of 2) ≡ 15 ∷ 54 ∷ 31 ∷ 45 ∷ 9 ∷ []
  -- the first six of these: no rules; then claim 1 has a rule, its body empty, `1`, `not 1`, `0`, `0, 1`
  pub six :
      take 6 (all_sets 2)
      ≡ (no_rule ∷ no_rule ∷ [])
      ∷ (no_rule ∷ rule (absent ∷ absent ∷ []) ∷ [])
      ∷ (no_rule ∷ rule (absent ∷ plain ∷ []) ∷ [])
      ∷ (no_rule ∷ rule (absent ∷ negated ∷ []) ∷ [])
      ∷ (no_rule ∷ rule (plain ∷ absent ∷ []) ∷ [])
      ∷ (no_rule ∷ rule (plain ∷ plain ∷ []) ∷ [])
      ∷ []
  -- choices 24, 1 and 16 of 28: 24 * 784 + 1 * 28 + 16
  pub number : set_number 3 three ≡ 18860
  -- header; heads and lengths; literals, 32,768 (bytes 0 and 128) more where negated; worker 0 asks 0, 1 and 2
  pub job :
      encode (job_of_set three)
      ≡ 70 ∷ 0 ∷ 0 ∷ 0 ∷ 3 ∷ 0 ∷ 0 ∷ 0 ∷ 3 ∷ 0 ∷ 0 ∷ 0 ∷ 5 ∷ 0 ∷ 0 ∷ 0 ∷ 1 ∷ 0 ∷ 0 ∷ 0 ∷ 3 ∷ 0 ∷ 0 ∷ 0
      ∷ 36 ∷ 0 ∷ 0 ∷ 0 ∷ 48 ∷ 0 ∷ 0 ∷ 0 ∷ 58 ∷ 0 ∷ 0 ∷ 0
      ∷ 0 ∷ 0 ∷ 3 ∷ 0 ∷ 1 ∷ 0 ∷ 0 ∷ 0 ∷ 2 ∷ 0 ∷ 2 ∷ 0
      ∷ 0 ∷ 128 ∷ 1 ∷ 0 ∷ 2 ∷ 128 ∷ 0 ∷ 0 ∷ 1 ∷ 128
      ∷ 0 ∷ 0 ∷ 0 ∷ 0 ∷ 0 ∷ 0 ∷ 1 ∷ 0 ∷ 0 ∷ 0 ∷ 2 ∷ 0 ∷ []
  -- 26 and the size; 0 and the five numbers
  pub none : (answer_number (census_answer 0) ≡ 26) × (answer_values (census_answer 0) ≡ 0 ∷ [])
  pub four : (answer_number (census_answer 4) ≡ 26) × (answer_values (census_answer 4) ≡ 4 ∷ [])
  pub counted : (answer_number (census_answer 1) ≡ 0) × (answer_values (census_answer 1) ≡ 1 ∷ 2 ∷ 1 ∷ 2 ∷ 4 ∷ [])
