-- What holds of the enumeration, of the jobs of the sets and of the five numbers (02, order 12).
--   Enumerated n          the sets of size n: all of them, each a single time, at the place that its number says
--   Sizes                 how many there are
--   Making v rs k         k of the sets rs make claim 0's verdict v
--   FirstMost n p m       p is the place of the first set that needs most turns, and m these turns
--   Numbers n t f u p m   what five numbers of size n are
--   Answered n x vs       x is the answer's number for size n, and vs are its values
--   Needed s t n          n turns of worker 0, from a start in table t, answer all; fewer don't, and each of them changes something
--   SetJob r              what holds of the job of set r
--   Laws n a              all of it, of the answer a for size n
use Rattle.std.specs.Prelude.{ℕ, suc, ◌+◌, ◌^◌, ◌<◌, ◌≤◌, ◌≡◌, List, [], ◌∷◌, ◌↔◌, length}
use Rattle.job.specs.Encoding.{encode, ◌∈◌}
use Rattle.job.specs.Format.{job_of}
use Rattle.job.specs.Checks.{check_job}
use Rattle.job.specs.Check.{Accepted}
use Rattle.semantics.specs.Model.{Verdict, True, False, Undefined}
use Rattle.turn.specs.Turn.{turn}
use Rattle.turn.specs.declared.Kind.TheVariants.{Idle}
use Rattle.calls.specs.Lists.{AllAnswered}
use Rattle.calls.specs.Promise.{Promise, Fresh, from, history, alone, turns}
use Rattle.rulesets.specs.Sets.{Choice, all_sets, set_no, body_no, body_number, set_number, set_count, IsSet}
use Rattle.rulesets.specs.Jobs.{job_of_set}
use Rattle.rulesets.specs.Says.{Says}
use Rattle.rulesets.specs.Census.{first_verdict, turns_for, answer_number, answer_values}
use Rattle.rulesets.specs.Worked.{Worked}
use Rattle.rulesets.specs.CensusAnswer.{CensusAnswer}

pub record Enumerated (n : ℕ) : Type 0 where
  pub count : length (all_sets n) ≡ set_count n
  -- "go through all rule sets with at most one rule a claim"
  pub members : (r : List Choice) → (r ∈ all_sets n) ↔ IsSet n r
  -- "Each set is met a single time": the set at place k has the number k, and a set of number k is met at place k
  pub numbers : (k : ℕ) → k < set_count n → set_number n (set_no n k) ≡ k
  pub places : (r : List Choice) → IsSet n r → (set_number n r < set_count n) × (set_no n (set_number n r) ≡ r)
  pub once : (i k : ℕ) → i < set_count n → k < set_count n → set_no n i ≡ set_no n k → i ≡ k
  -- "bodies as base-3 numbers": body x, of those in order, has the number x
  pub bodies : (x : ℕ) → x < 3 ^ n → body_number (body_no n x) ≡ x

-- "4, 100 and 21,952 of them"
pub record Sizes : Type 0 where
  pub one : set_count 1 ≡ 4
  pub two : set_count 2 ≡ 100
  pub three : set_count 3 ≡ 21952

-- "how many make claim 0 true, false, undefined": each set is one of them, or it isn't
pub data Making (v : Verdict) : List (List Choice) → ℕ → Type 0 where
  none : Making v [] 0
  this : (r : List Choice) (rs : List (List Choice)) (k : ℕ) → first_verdict r ≡ v → Making v rs k → Making v (r ∷ rs) (suc k)
  other : (r : List Choice) (rs : List (List Choice)) (k : ℕ) → (first_verdict r ≡ v → ⊥) → Making v rs k → Making v (r ∷ rs) k

-- "the place, from 0, in the order met, of the first set that needs most changing turns .., and those turns"
pub record FirstMost (n place turns : ℕ) : Type 0 where
  pub met : place < set_count n
  pub needs : turns_for (set_no n place) ≡ turns
  pub most : (k : ℕ) → k < set_count n → turns_for (set_no n k) ≤ turns
  pub first : (k : ℕ) → k < place → turns_for (set_no n k) < turns

pub record Numbers (n t f u place turns : ℕ) : Type 0 where
  -- "the first three how many make claim 0 true, false, undefined"
  pub trues : Making True (all_sets n) t
  pub falses : Making False (all_sets n) f
  pub undefineds : Making Undefined (all_sets n) u
  -- "the three counts add up to all of them"
  pub add_up : t + f + u ≡ set_count n
  pub first_most : FirstMost n place turns

pub data Answered (n : ℕ) : ℕ → List ℕ → Type 0 where
  -- "26 a size other than 1 to 3, with it"
  small : n < 1 → Answered n 26 (n ∷ [])
  large : 3 < n → Answered n 26 (n ∷ [])
  -- "five numbers .., the first three how many make claim 0 true, false, undefined"; "The last two are the place .. and those turns"
  counted : 1 ≤ n → n ≤ 3 → (t f u p m : ℕ) → Numbers n t f u p m → Answered n 0 (t ∷ f ∷ u ∷ p ∷ m ∷ [])

-- "needs .. changing turns when one worker asks every claim": as lists of calls, single turns of worker 0 from a start in table t
pub record Needed (s t : List ℕ) (n : ℕ) : Type 0 where
  pub answered : AllAnswered (job_of s) (history s t (turns n))
  pub least : (k : ℕ) → k < n → AllAnswered (job_of s) (history s t (turns k)) → ⊥
  pub changes : (k : ℕ) → k < n → (turn (job_of s) (from s t (turns k)) 0).kind ≡ Idle → ⊥

pub record SetJob (r : List Choice) : Type 0 where
  pub says : Says r (job_of_set r)
  pub accepted : Accepted ≡ check_job (encode (job_of_set r))
  pub holds : job_of (encode (job_of_set r)) ≡ job_of_set r
  -- (01) "the same job with T 1 and worker 0 in every question": it is that already
  pub alone : alone (job_of_set r) ≡ job_of_set r
  -- whatever the table held before it was started
  pub needed : (t : List ℕ) → Fresh (encode (job_of_set r)) t → Needed (encode (job_of_set r)) t (turns_for r)
  -- demands 2 and 3 of it
  pub promise : Promise (encode (job_of_set r))

pub record Laws (n : ℕ) (a : CensusAnswer) : Type 0 where
  -- the answer has these properties, and no other number and values have them
  pub answered : Answered n (answer_number a) (answer_values a)
  pub only : (number : ℕ) (values : List ℕ) → Answered n number values → (number ≡ answer_number a) × (values ≡ answer_values a)
  pub enumerated : Enumerated n
  pub sizes : Sizes
  pub jobs : n ≤ 3 → (r : List Choice) → r ∈ all_sets n → SetJob r
  pub worked : Worked
