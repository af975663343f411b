-- The pairs of a record, gone through from a table t.
--   FollowedTo s t r x u   x says how many pairs of r hold before the first false one; where all do, u is the table after their turns, and x has
--                          their tally; where one is false, u is such that a new start makes of it what it makes of t
use Rattle.std.specs.Prelude.{◌≡◌, List, ℕ}
use Rattle.job.specs.Format.{job_of}
use Rattle.table.specs.Start.{start_words}
use Rattle.turn.specs.Turn.{run_table, run_kinds}
use Rattle.calls.specs.Calls.{tally}
use Rattle.records.specs.Record.{pairs, workers_in, held}
use Rattle.recording.specs.declared.Followed.{Followed}

pub record FollowedTo (s t r : List ℕ) (x : Followed) (u : List ℕ) : Type 0 where
  pub count : x.held ≡ held (job_of s) t r
  pub all :
      x.held ≡ pairs r → (u ≡ run_table (job_of s) t (workers_in r)) × (x.tally ≡ tally (run_kinds (job_of s) t (workers_in r)))
  pub again : start_words (job_of s) u ≡ start_words (job_of s) t
