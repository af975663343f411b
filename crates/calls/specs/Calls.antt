-- What each call answers, and the table it leaves (01, 'A turn of worker w', 'Checks by place').
--   check_turn_worker, check_schedule, check_claim_read   rows 11 and 12
--   start_check, turn_check, run_check, read_check   the rows that a call checks, in the table's order
--   start_table, turn_table, run_left                the table at exit
--   answered check x, refused number place           an answer: the refusal of a check, or else x; a refusal
--   turn_answer, run_answer, read_answer             the answer
--   run_tally                                        how many turns of each kind a run makes, none where it is refused
--   Named s ws                                       the schedule ws names workers of the job
--   Ran check s t ws r u                             a run gave what its check says: the answer r, the table u
--   tally ks                                         how many turns were of each kind
use Rattle.std.specs.Prelude.{ℕ, ◌+◌, ◌<◌, List, [], ◌∷◌, ◌≡◌, length, get_or, set, replicate, Result, Ok, Err}
use Rattle.base.specs.Compare.{not_below}
use Rattle.job.specs.Rows.{◌⨾◌, row, scan}
use Rattle.job.specs.Format.{claims, workers, job_of}
use Rattle.job.specs.Checks.{check_job}
use Rattle.job.specs.Check.{Check, Accepted}
use Rattle.job.specs.declared.Refusal.{Refusal}
use Rattle.table.specs.Layout.{mark}
use Rattle.table.specs.Ranges.{check_room, check_table}
use Rattle.table.specs.Start.{start_words}
use Rattle.table.specs.Reading.{reading_of}
use Rattle.table.specs.declared.Reading.{Reading}
use Rattle.turn.specs.Turn.{kind_number, turn, run_table, run_kinds}
use Rattle.turn.specs.declared.Kind.{Kind}

-- "A refusal gives number and place": and no more, where what is accepted has an answer
unfoldable pub answered : {A : Type 0} → Check → A → Result A Refusal
answered Accepted x = Ok x
answered (Err refusal) x = Err refusal

abbrev pub refused : {A : Type 0} → ℕ → ℕ → Result A Refusal
refused number place = Err (record { number = number; place = place })

-- "Starting skips 10."
unfoldable pub start_check : List ℕ → List ℕ → Check
start_check s t = check_job s ⨾ check_room (job_of s) t

unfoldable pub start_table : Check → List ℕ → List ℕ → List ℕ
start_table Accepted s t = start_words (job_of s) t
start_table (Err refusal) s t = t

-- worker, schedule | 11 | not below T | 0, or position in the schedule from 0
unfoldable pub check_turn_worker : List ℕ → ℕ → Check
check_turn_worker s w = row (not_below w (workers s)) 11 0 ⨾ Accepted

unfoldable pub check_schedule : List ℕ → List ℕ → Check
check_schedule s ws = scan (λ i. not_below (get_or ws i 0) (workers s)) (length ws) 11 (λ i. i)

abbrev pub Named : List ℕ → List ℕ → Type 0
Named s ws = (i : ℕ) → i < length ws → get_or ws i 0 < workers s

unfoldable pub turn_check : List ℕ → List ℕ → ℕ → Check
turn_check s t w = check_job s ⨾ check_table (job_of s) t ⨾ check_turn_worker s w

unfoldable pub run_check : List ℕ → List ℕ → List ℕ → Check
run_check s t ws = check_job s ⨾ check_table (job_of s) t ⨾ check_schedule s ws

-- claim read | 12 | not below A | 0
unfoldable pub check_claim_read : List ℕ → ℕ → Check
check_claim_read s c = row (not_below c (claims s)) 12 0 ⨾ Accepted

unfoldable pub read_check : List ℕ → List ℕ → ℕ → Check
read_check s t c = check_job s ⨾ check_table (job_of s) t ⨾ check_claim_read s c

-- "A turn answers its kind."
abbrev pub turn_answer : Check → List ℕ → List ℕ → ℕ → Result Kind Refusal
turn_answer check s t w = answered check (turn (job_of s) t w).kind

unfoldable pub turn_table : Check → List ℕ → List ℕ → ℕ → List ℕ
turn_table Accepted s t w = (turn (job_of s) t w).table
turn_table (Err refusal) s t w = t

-- "A run takes a schedule, one byte a turn, and answers its tally as an array of eight counts by value."
unfoldable pub counted : List ℕ → List Kind → List ℕ
counted counts [] = counts
counted counts (k ∷ ks) = counted (set counts (kind_number k) (get_or counts (kind_number k) 0 + 1)) ks

unfoldable pub tally : List Kind → List ℕ
tally ks = counted (replicate 8 0) ks

unfoldable pub run_tally : Check → List ℕ → List ℕ → List ℕ → List ℕ
run_tally Accepted s t ws = tally (run_kinds (job_of s) t ws)
run_tally (Err refusal) s t ws = replicate 8 0

unfoldable pub run_left : Check → List ℕ → List ℕ → List ℕ → List ℕ
run_left Accepted s t ws = run_table (job_of s) t ws
run_left (Err refusal) s t ws = t

pub record Ran (check : Check) (s t ws : List ℕ) (r : Result (List ℕ) Refusal) (u : List ℕ) : Type 0 where
  pub answer_is : r ≡ answered check (tally (run_kinds (job_of s) t ws))
  pub table_is : u ≡ run_left check s t ws

abbrev pub run_answer : List ℕ → List ℕ → List ℕ → Result (List ℕ) Refusal
run_answer s t ws = answered (run_check s t ws) (tally (run_kinds (job_of s) t ws))

-- "Reading a claim answers fresh, open or its value."
abbrev pub read_answer : Check → List ℕ → ℕ → Result Reading Refusal
read_answer check t c = answered check (reading_of (mark t c))
