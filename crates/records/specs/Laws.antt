-- What recorded runs and replays promise (02, order 11).
--   started s t        the table t, freshly started
--   Given s t r        r is the record that the turns of some schedule give from a start
--   FalseAt s t r k    pair k of r is the first false one: the pairs before it are the record of the turns that they name, and its worker is not
--                      below T or its kind isn't the turn's
--   RunAnswered s t ws buf x, ReplayAnswered s t r x   x is the call's answer, in the order's words
--   Answered s         which answer is given when, and what a refusal leaves, of any bytes s
--   Elsewhere s t u ws a record made with the table t, taken to the table u
--   OnRecord s         the promise, of an accepted job of bytes s
use Rattle.std.specs.Prelude.{ℕ, ◌+◌, ◌*◌, ◌≤◌, ◌<◌, ◌≡◌, List, ◌↔◌, ◌⊎◌, length, get_or, take, drop, replicate, Ok}
use Rattle.job.specs.Format.{workers, job_of}
use Rattle.job.specs.Checks.{check_job}
use Rattle.job.specs.Check.{Check, Accepted, Refused}
use Rattle.table.specs.Layout.{used}
use Rattle.table.specs.Start.{start_words}
use Rattle.turn.specs.Turn.{kind_number, turn, run_table, run_kinds}
use Rattle.turn.specs.declared.Kind.TheVariants.{Idle}
use Rattle.steps.specs.Agreeing.{Agree}
use Rattle.calls.specs.Calls.{Named, start_check, start_table, tally, run_tally, run_check, run_answer, run_left}
use Rattle.calls.specs.Lists.{Call}
use Rattle.calls.specs.Promise.{Fresh, Promise}
use Rattle.records.specs.Record.{record_of, workers_in}
use Rattle.records.specs.Answers.{record_check, record_table, record_tally, record_bytes, replay_rows, replay_check, replay_table, replay_tally}
use Rattle.records.specs.Lists.{listed, OneOfLists}
use Rattle.records.specs.Worked.{RecordsRight}

abbrev pub started : List ℕ → List ℕ → List ℕ
started s t = start_words (job_of s) t

-- "the records that the turns give"
pub record Given (s t r : List ℕ) : Type 0 where
  pub schedule : List ℕ
  pub named : Named s schedule
  pub is : r ≡ record_of (job_of s) (started s t) schedule

pub record FalseAt (s t r : List ℕ) (k : ℕ) : Type 0 where
  pub there : 2 * k + 1 < length r
  pub named : Named s (take k (workers_in r))
  pub before : take (2 * k) r ≡ record_of (job_of s) (started s t) (take k (workers_in r))
  pub false :
      (workers s ≤ get_or r (2 * k) 0)
      ⊎ (get_or r (2 * k + 1) 0 ≡ kind_number (turn (job_of s) (run_table (job_of s) (started s t) (take k (workers_in r))) (get_or r (2 * k) 0)).kind → ⊥)

-- each answer of a recorded run, and when it is given
pub data RunAnswered (s t ws buf : List ℕ) : Check → Type 0 where
  -- rows 1 to 8 refuse as they do
  first : (number place : ℕ) → check_job s ≡ Refused number place → RunAnswered s t ws buf (Refused number place)
  -- "table length | 9 | under the words used | words needed"
  short : check_job s ≡ Accepted → length t < used (job_of s) → RunAnswered s t ws buf (Refused 9 (used (job_of s)))
  -- "worker, schedule | 11 | not below T | .. position in the schedule from 0": the first one
  no_worker :
      check_job s ≡ Accepted → Fresh s t → (i : ℕ) → i < length ws → workers s ≤ get_or ws i 0 → ((k : ℕ) → k < i → get_or ws k 0 < workers s)
      → RunAnswered s t ws buf (Refused 11 i)
  -- "25 buffer too short for two bytes a turn, after 11, before any turn"
  no_room : check_job s ≡ Accepted → Fresh s t → Named s ws → length buf < 2 * length ws → RunAnswered s t ws buf (Refused 25 (2 * length ws))
  taken : check_job s ≡ Accepted → Fresh s t → Named s ws → 2 * length ws ≤ length buf → RunAnswered s t ws buf Accepted

-- each answer of a replay
pub data ReplayAnswered (s t r : List ℕ) : Check → Type 0 where
  first : (number place : ℕ) → check_job s ≡ Refused number place → ReplayAnswered s t r (Refused number place)
  short : check_job s ≡ Accepted → length t < used (job_of s) → ReplayAnswered s t r (Refused 9 (used (job_of s)))
  -- "23 a record of odd length, with it, after 9, before any turn"
  odd : check_job s ≡ Accepted → Fresh s t → (n : ℕ) → length r ≡ 2 * n + 1 → ReplayAnswered s t r (Refused 23 (length r))
  -- "24 a pair whose worker is not below T or whose kind isn't the turn's, with the pair's number from 0": the first one
  false_pair : check_job s ≡ Accepted → Fresh s t → (n : ℕ) → length r ≡ 2 * n → (k : ℕ) → FalseAt s t r k → ReplayAnswered s t r (Refused 24 k)
  -- "it accepts exactly the records that the turns give"
  taken : check_job s ≡ Accepted → Fresh s t → Given s t r → ReplayAnswered s t r Accepted

pub record Answered (s : List ℕ) : Type 0 where
  -- the rows by what they mean, both ways
  pub runs : (t ws buf : List ℕ) (x : Check) → (record_check s t ws buf ≡ x) ↔ RunAnswered s t ws buf x
  pub replays : (t r : List ℕ) (x : Check) → (replay_check s t r ≡ x) ↔ ReplayAnswered s t r x
  -- a refused run leaves table and buffer as they were, and makes no turn
  pub untouched :
      (number place : ℕ) (t ws buf : List ℕ)
      → (record_table (Refused number place) s t ws ≡ t) × (record_bytes (Refused number place) s t ws buf ≡ buf) × (record_tally (Refused number place) s t ws ≡ replicate 8 0)
  -- and so does a replay that is refused by another number than 24: the table isn't started
  pub unstarted :
      (number place : ℕ) (t r : List ℕ) → replay_check s t r ≡ Refused number place → (number ≡ 24 → ⊥)
      → (replay_table (replay_rows s t r) s t r ≡ t) × (replay_tally (replay_rows s t r) s t r ≡ replicate 8 0)
  -- 01's run on record, as numbers
  pub worked : RecordsRight

-- "Operators want to run yesterday's field again as it went.": in whatever memory
pub record Elsewhere (s t u ws : List ℕ) : Type 0 where
  pub log : record_of (job_of s) (started s t) ws ≡ record_of (job_of s) (started s u) ws
  pub accepted : replay_check s u (record_of (job_of s) (started s t) ws) ≡ Accepted
  pub tally : replay_tally (replay_rows s u (record_of (job_of s) (started s t) ws)) s u (record_of (job_of s) (started s t) ws) ≡ record_tally Accepted s t ws
  pub table : Agree (job_of s) (replay_table (replay_rows s u (record_of (job_of s) (started s t) ws)) s u (record_of (job_of s) (started s t) ws)) (record_table Accepted s t ws)

pub record OnRecord (s : List ℕ) : Type 0 where
  -- "A run without accounts that first starts its table": start and then run leave the same table and answer the same
  pub runs :
      (t ws : List ℕ) → Fresh s t → Named s ws
      → (start_table (start_check s t) s t ≡ started s t)
      × (run_answer s (started s t) ws ≡ Ok (record_tally Accepted s t ws))
      × (run_left (run_check s (started s t) ws) s (started s t) ws ≡ record_table Accepted s t ws)
      × (run_tally (run_check s (started s t) ws) s (started s t) ws ≡ record_tally Accepted s t ws)
  -- the table is started once: on one that is started already the run gives what it gives on the table as it was lent
  pub once :
      (t ws buf : List ℕ) → Fresh s t
      → (record_check s (started s t) ws buf ≡ record_check s t ws buf)
      × (record_table Accepted s (started s t) ws ≡ record_table Accepted s t ws)
      × (record_tally Accepted s (started s t) ws ≡ record_tally Accepted s t ws)
      × (record_bytes Accepted s (started s t) ws buf ≡ record_bytes Accepted s t ws buf)
  -- "two bytes a turn, worker and kind"
  pub long : (t ws : List ℕ) → length (record_of (job_of s) t ws) ≡ 2 * length ws
  pub pairs :
      (t ws : List ℕ) (k : ℕ) → k < length ws
      → (get_or (record_of (job_of s) t ws) (2 * k) 0 ≡ get_or ws k 0)
      × (get_or (record_of (job_of s) t ws) (2 * k + 1) 0 ≡ kind_number (get_or (run_kinds (job_of s) t ws) k Idle))
  -- what stands in the buffer: the record, and behind it what stood there
  pub bytes :
      (t ws buf : List ℕ) → 2 * length ws ≤ length buf
      → (take (2 * length ws) (record_bytes Accepted s t ws buf) ≡ record_of (job_of s) (started s t) ws)
      × (drop (2 * length ws) (record_bytes Accepted s t ws buf) ≡ drop (2 * length ws) buf)
      × (length (record_bytes Accepted s t ws buf) ≡ length buf)
  -- a record fixes its schedule: different schedules have different records
  pub schedule : (t ws : List ℕ) → workers_in (record_of (job_of s) t ws) ≡ ws
  pub one : (t ws vs : List ℕ) → record_of (job_of s) t ws ≡ record_of (job_of s) t vs → ws ≡ vs
  -- "In demand 3's lists a run that starts its table comes only first.": with it a list is the one that has the run in its place, or, where it
  -- is refused, the one without it; and of all of those Promise holds
  pub lists : (t ws buf : List ℕ) → Fresh s t → (xs : List Call) → OneOfLists s t ws buf xs (listed (record_check s (started s t) ws buf) ws xs)
  pub promise : Promise s
  -- "and ends in the recorded run's table."
  pub ends :
      (t r : List ℕ) → Fresh s t → (g : Given s t r)
      → (replay_table (replay_rows s t r) s t r ≡ record_table Accepted s t g.schedule)
      × (replay_tally (replay_rows s t r) s t r ≡ record_tally Accepted s t g.schedule)
  -- "At a false pair the table holds the turns before it"
  pub before :
      (t r : List ℕ) (k : ℕ) → Fresh s t → replay_check s t r ≡ Refused 24 k
      → (replay_table (replay_rows s t r) s t r ≡ run_table (job_of s) (started s t) (take k (workers_in r)))
      × (replay_tally (replay_rows s t r) s t r ≡ tally (run_kinds (job_of s) (started s t) (take k (workers_in r))))
  -- words past those used decide nothing
  pub elsewhere : (t u ws : List ℕ) → Fresh s t → Fresh s u → Named s ws → Elsewhere s t u ws
