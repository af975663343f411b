-- What the two calls of order 11 answer, and what they leave (02, order 11).
--   check_buffer, check_odd, check_pairs   rows 25, 23 and 24
--   record_check, replay_rows, replay_check   the rows of a recorded run; those of a replay before any turn, and all of them
--   record_table, record_bytes, record_tally  a recorded run: the table at exit, the buffer at exit, the tally
--   held_turns j t r                          the workers of the pairs that hold: the turns that a replay leaves
--   replay_table, replay_tally                a replay: the table at exit, the tally
--   replay_answer check counts                a replay's answer: the tally, with the refusal where its check has one
--   Recorded, Replayed                        what each call gave: its answer r, the table u, and the buffer b
use Rattle.std.specs.Prelude.{ℕ, ◌*◌, ◌%◌, ◌≡◌, List, ◌++◌, length, take, drop, replicate, Result, Ok, Err}
use Rattle.base.specs.Compare.{under, differs}
use Rattle.job.specs.Job.{Job}
use Rattle.job.specs.Rows.{◌⨾◌, row}
use Rattle.job.specs.Format.{job_of}
use Rattle.job.specs.Check.{Check, Accepted}
use Rattle.job.specs.declared.Refusal.{Refusal}
use Rattle.table.specs.Start.{start_words}
use Rattle.turn.specs.Turn.{run_table, run_kinds}
use Rattle.calls.specs.Calls.{answered, start_check, check_schedule, tally}
use Rattle.records.specs.declared.Stopped.{Stopped}
use Rattle.records.specs.Record.{record_of, pairs, workers_in, held}

-- "25 buffer too short for two bytes a turn, after 11, before any turn"; "for short outputs, here and later, the bytes needed"
unfoldable pub check_buffer : List ℕ → List ℕ → Check
check_buffer ws buf = row (under (length buf) (2 * length ws)) 25 (2 * length ws) ⨾ Accepted

-- rows 1 to 9, 11, 25: "A run without accounts that first starts its table"
unfoldable pub record_check : List ℕ → List ℕ → List ℕ → List ℕ → Check
record_check s t ws buf = start_check s t ⨾ check_schedule s ws ⨾ check_buffer ws buf

unfoldable pub record_table : Check → List ℕ → List ℕ → List ℕ → List ℕ
record_table Accepted s t ws = run_table (job_of s) (start_words (job_of s) t) ws
record_table (Err refusal) s t ws = t

unfoldable pub record_tally : Check → List ℕ → List ℕ → List ℕ → List ℕ
record_tally Accepted s t ws = tally (run_kinds (job_of s) (start_words (job_of s) t) ws)
record_tally (Err refusal) s t ws = replicate 8 0

-- "may write two bytes a turn, worker and kind, to a lent buffer"; "Bytes past what is written stay."
unfoldable pub record_bytes : Check → List ℕ → List ℕ → List ℕ → List ℕ → List ℕ
record_bytes Accepted s t ws buf = record_of (job_of s) (start_words (job_of s) t) ws ++ drop (2 * length ws) buf
record_bytes (Err refusal) s t ws buf = buf

-- "23 a record of odd length, with it, after 9, before any turn"
unfoldable pub check_odd : List ℕ → Check
check_odd r = row (differs (length r % 2) 0) 23 (length r) ⨾ Accepted

-- "24 a pair whose worker is not below T or whose kind isn't the turn's, with the pair's number from 0"
unfoldable pub check_pairs : Job → List ℕ → List ℕ → Check
check_pairs j t r = row (under (held j t r) (pairs r)) 24 (held j t r) ⨾ Accepted

unfoldable pub replay_rows : List ℕ → List ℕ → List ℕ → Check
replay_rows s t r = start_check s t ⨾ check_odd r

unfoldable pub replay_check : List ℕ → List ℕ → List ℕ → Check
replay_check s t r = replay_rows s t r ⨾ check_pairs (job_of s) (start_words (job_of s) t) r

-- "Replay starts a table and goes through the pairs"; "At a false pair the table holds the turns before it"
abbrev pub held_turns : Job → List ℕ → List ℕ → List ℕ
held_turns j t r = take (held j t r) (workers_in r)

unfoldable pub replay_table : Check → List ℕ → List ℕ → List ℕ → List ℕ
replay_table Accepted s t r = run_table (job_of s) (start_words (job_of s) t) (held_turns (job_of s) (start_words (job_of s) t) r)
replay_table (Err refusal) s t r = t

-- the tally of the turns that the table holds
unfoldable pub replay_tally : Check → List ℕ → List ℕ → List ℕ → List ℕ
replay_tally Accepted s t r = tally (run_kinds (job_of s) (start_words (job_of s) t) (held_turns (job_of s) (start_words (job_of s) t) r))
replay_tally (Err refusal) s t r = replicate 8 0

pub record Recorded (check : Check) (s t ws buf : List ℕ) (r : Result (List ℕ) Refusal) (u b : List ℕ) : Type 0 where
  pub answer_is : r ≡ answered check (record_tally Accepted s t ws)
  pub table_is : u ≡ record_table check s t ws
  pub bytes_are : b ≡ record_bytes check s t ws buf

unfoldable pub replay_answer : Check → List ℕ → Result (List ℕ) Stopped
replay_answer Accepted counts = Ok counts
replay_answer (Err refusal) counts = Err (record { refusal = refusal; tally = counts })

-- a replay, by its rows before any turn
pub record Replayed (rows : Check) (s t rec : List ℕ) (r : Result (List ℕ) Stopped) (u : List ℕ) : Type 0 where
  pub answer_is : r ≡ replay_answer (rows ⨾ check_pairs (job_of s) (start_words (job_of s) t) rec) (replay_tally rows s t rec)
  pub table_is : u ≡ replay_table rows s t rec
