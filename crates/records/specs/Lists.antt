-- Lists of calls that begin with a recorded run (02, order 11: "In demand 3's lists a run that starts its table comes only first.").
--   first s t ws buf     the table after the recorded run alone, on a table t that is started; first_turns   the workers of its turns
--   begun s t ws buf xs  the table after it and then the calls xs, from t freshly started; begun_turns, begun_history   their turns
--   listed x ws xs       a list of 01's calls in place of such a one: a run where its check x accepts, and else nothing, and then xs
--   OneOfLists           it has the table, the turns and the history of a list of single turns, runs and readings: what Promise says of all of
--                        those it says of all of these
use Rattle.std.specs.Prelude.{ℕ, ◌≡◌, List, ◌∷◌, ◌++◌, Err}
use Rattle.job.specs.Format.{job_of}
use Rattle.job.specs.Check.{Check, Accepted}
use Rattle.table.specs.Start.{start_words}
use Rattle.calls.specs.Lists.{Call, running, after, unless, turns_of, Event, run_events, events}
use Rattle.calls.specs.Promise.{from, history}
use Rattle.records.specs.Answers.{record_check, record_table}

-- refused, it leaves the table as it was, freshly started
abbrev pub first : List ℕ → List ℕ → List ℕ → List ℕ → List ℕ
first s t ws buf = record_table (record_check s t ws buf) s t ws

-- "A refused call and a reading make none."
abbrev pub first_turns : List ℕ → List ℕ → List ℕ → List ℕ → List ℕ
first_turns s t ws buf = unless (record_check s t ws buf) ws

abbrev pub begun : List ℕ → List ℕ → List ℕ → List ℕ → List Call → List ℕ
begun s t ws buf xs = after s (first s (start_words (job_of s) t) ws buf) xs

abbrev pub begun_turns : List ℕ → List ℕ → List ℕ → List ℕ → List Call → List ℕ
begun_turns s t ws buf xs = first_turns s (start_words (job_of s) t) ws buf ++ turns_of s (first s (start_words (job_of s) t) ws buf) xs

abbrev pub begun_history : List ℕ → List ℕ → List ℕ → List ℕ → List Call → List Event
begun_history s t ws buf xs =
    run_events (job_of s) (start_words (job_of s) t) (first_turns s (start_words (job_of s) t) ws buf) ++ events s (first s (start_words (job_of s) t) ws buf) xs

unfoldable pub listed : Check → List ℕ → List Call → List Call
listed Accepted ws xs = running ws ∷ xs
listed (Err refusal) ws xs = xs

pub record OneOfLists (s t ws buf : List ℕ) (xs calls : List Call) : Type 0 where
  pub table : begun s t ws buf xs ≡ from s t calls
  pub turns : begun_turns s t ws buf xs ≡ turns_of s (start_words (job_of s) t) calls
  pub history : begun_history s t ws buf xs ≡ history s t calls
