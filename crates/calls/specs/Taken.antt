-- What each call gives on a table that calls made: every turn, run and reading of the job's own workers and claims is taken, and no other.
-- A promise on tables says little where calls are refused, or answer something else than what happened: this rules that out.
--   how_many n ks    how many of the kinds ks have the number n
--   Tallied ks       the tally of these kinds: eight counts, each of one kind
--   Started s t      starting: a table that is long enough gets its header and zeros, a shorter one is refused
--   Taken s t        the calls on a table t of job s
use Rattle.std.specs.Prelude.{ℕ, ◌+◌, ◌≤◌, ◌<◌, ◌≡◌, List, [], ◌∷◌, eqb, length, get_or, replicate, Ok}
use Rattle.base.specs.Choose.{pick}
use Rattle.job.specs.Format.{job_of}
use Rattle.job.specs.Check.{Accepted, Refused}
use Rattle.table.specs.Layout.{used, mark}
use Rattle.table.specs.Start.{start_words}
use Rattle.table.specs.Reading.{reading_of}
use Rattle.turn.specs.Turn.{kind_number, turn, run_table, run_kinds}
use Rattle.turn.specs.declared.Kind.{Kind}
use Rattle.calls.specs.Calls.{refused, start_check, start_table, turn_check, turn_answer, turn_table, tally, run_tally, run_check, run_answer, run_left, read_check, read_answer}

unfoldable pub how_many : ℕ → List Kind → ℕ
how_many n [] = 0
how_many n (k ∷ ks) = pick (eqb (kind_number k) n) 1 0 + how_many n ks

-- "its tally counts their kinds"
pub record Tallied (ks : List Kind) : Type 0 where
  pub eight : length (tally ks) ≡ 8
  pub counts : (n : ℕ) → n < 8 → get_or (tally ks) n 0 ≡ how_many n ks

pub record Started (s t : List ℕ) : Type 0 where
  pub long : used (job_of s) ≤ length t → (start_check s t ≡ Accepted) × (start_table (start_check s t) s t ≡ start_words (job_of s) t)
  pub short : length t < used (job_of s) → (start_check s t ≡ Refused 9 (used (job_of s))) × (start_table (start_check s t) s t ≡ t)

pub record Taken (s t : List ℕ) : Type 0 where
  -- "An accepted turn makes one turn."
  pub turns :
      (w : ℕ) → w < (job_of s).workers
      → (turn_answer (turn_check s t w) s t w ≡ Ok (turn (job_of s) t w).kind)
      × (turn_table (turn_check s t w) s t w ≡ (turn (job_of s) t w).table)
  pub no_turn :
      (w : ℕ) → (job_of s).workers ≤ w
      → (turn_answer (turn_check s t w) s t w ≡ refused 11 0) × (turn_table (turn_check s t w) s t w ≡ t)
  -- "An accepted run makes those its schedule names, in order, and its tally counts their kinds."
  pub runs :
      (ws : List ℕ) → ((i : ℕ) → i < length ws → get_or ws i 0 < (job_of s).workers)
      → (run_answer s t ws ≡ Ok (tally (run_kinds (job_of s) t ws)))
      × (run_left (run_check s t ws) s t ws ≡ run_table (job_of s) t ws)
      × Tallied (run_kinds (job_of s) t ws)
      × (run_tally (run_check s t ws) s t ws ≡ tally (run_kinds (job_of s) t ws))
  -- the first byte that names no worker is its place, and no turn is counted
  pub no_run :
      (ws : List ℕ) (i : ℕ) → i < length ws → (job_of s).workers ≤ get_or ws i 0 → ((k : ℕ) → k < i → get_or ws k 0 < (job_of s).workers)
      → (run_answer s t ws ≡ refused 11 i) × (run_left (run_check s t ws) s t ws ≡ t) × (run_tally (run_check s t ws) s t ws ≡ replicate 8 0)
  -- "Reading a claim answers fresh, open or its value."
  pub reads : (c : ℕ) → c < (job_of s).claims → read_answer (read_check s t c) t c ≡ Ok (reading_of (mark t c))
  pub no_read : (c : ℕ) → (job_of s).claims ≤ c → read_answer (read_check s t c) t c ≡ refused 12 0
