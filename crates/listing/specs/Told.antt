-- What the lines of a listing show: the well-founded model of the whole job.
--   word_of v           the name of a verdict
--   verdict_line j q    the line of question q that has its claim's verdict; value_line j c   the line of claim c that has its verdict
--   unopened_line c     the line of a claim that has none
--   Shows j t           what the lines of job j show, whose table is t at the end
--   Scheduled j ws, Listing j ws   a job with a schedule behind it, and what its listing is
--   Told i              what holds of the listing of input i, whatever its schedule
use Rattle.std.specs.Prelude.{ℕ, ◌+◌, ◌<◌, ◌≤◌, ◌≡◌, length, get_or}
use mathlib.Core.List.{List, [], ◌∷◌, ◌++◌, flat_map}
use Rattle.writing.specs.Decimal.{decimal, Decimals}
use Rattle.writing.specs.Written.{Wrote}
use Rattle.job.specs.Job.{Job}
use Rattle.job.specs.Format.{job_of}
use Rattle.job.specs.Encoding.{encode, Valid}
use Rattle.job.specs.Checks.{check_job}
use Rattle.job.specs.Check.{Accepted}
use Rattle.job.specs.declared.Question.{Question}
use Rattle.semantics.specs.Model.{Verdict, True, False, Undefined, program_of, verdict}
use Rattle.semantics.specs.Missing.{MissingRecords}
use Rattle.semantics.specs.Textbook.{Textbook}
use Rattle.table.specs.Questions.{claim_asked}
use Rattle.table.specs.Layout.{mark}
use Rattle.table.specs.Reading.{reading_of}
use Rattle.table.specs.declared.Reading.TheVariants.{Open}
use Rattle.calls.specs.Lists.{Complete}
use Rattle.calls.specs.Promise.{Asked, OthersBehind}
use Rattle.listing.specs.Text.{blank, line_end, true_name, false_name, undefined_name, unopened_name}
use Rattle.listing.specs.Finish.{Finished}
use Rattle.listing.specs.Worked.{ListingsRight}
use Rattle.listing.specs.Listing.{job_part, schedule_part, listing_check, claim_line, question_lines, last_table, listing, most_input, listed}

abbrev pub word_of : Verdict → List ℕ
word_of True = true_name
word_of False = false_name
word_of Undefined = undefined_name

abbrev pub verdict_line : Job → Question → List ℕ
verdict_line j q =
    decimal q.worker ++ (blank ∷ []) ++ decimal q.claim ++ (blank ∷ []) ++ word_of (verdict (program_of j) q.claim) ++ (line_end ∷ [])

abbrev pub value_line : Job → ℕ → List ℕ
value_line j c = decimal c ++ (blank ∷ []) ++ word_of (verdict (program_of j) c) ++ (line_end ∷ [])

abbrev pub unopened_line : ℕ → List ℕ
unopened_line c = decimal c ++ (blank ∷ []) ++ unopened_name ++ (line_end ∷ [])

-- of an accepted job j whose table is t at the end
pub record Shows (j : Job) (t : List ℕ) : Type 0 where
  -- every question line has a value: its claim's verdict
  pub questions : question_lines j t 0 j.questions ≡ flat_map (verdict_line j) j.questions
  -- the line of a complete claim has its verdict
  pub claims : (c : ℕ) → c < j.claims → Complete t c → claim_line t c ≡ value_line j c
  -- that of any other claim says `unopened`
  pub unopened : (c : ℕ) → c < j.claims → (Complete t c → ⊥) → claim_line t c ≡ unopened_line c
  -- the claim of every question is complete
  pub asked : (k : ℕ) → k < length j.questions → Complete t (claim_asked j.questions k)
  -- (02, order 5) a literal of a rule of a complete claim is of a complete claim too, or stands behind a complete false one
  pub literals : OthersBehind j t
  -- the line of a claim that no question names or leads to says `unopened`
  pub others : (c : ℕ) → c < j.claims → (Asked j c → ⊥) → claim_line t c ≡ unopened_line c
  -- no claim is open at the end: each is complete or fresh
  pub settled : (c : ℕ) → c < j.claims → reading_of (mark t c) ≡ Open → ⊥
  -- (02, order 2) these verdicts are those of the job extended for its missing records
  pub missing : MissingRecords j
  -- (02, order 9) and those by greatest unfounded sets
  pub textbook : Textbook j

-- turns of the job's workers that may stand behind it
pub record Scheduled (j : Job) (ws : List ℕ) : Type 0 where
  pub fits : length (encode j) + length ws ≤ most_input
  pub named : (k : ℕ) → k < length ws → get_or ws k 0 < j.workers

-- the listing of a job with its schedule behind it: accepted, of that job and those turns, and it shows the model
pub record Listing (j : Job) (ws : List ℕ) : Type 0 where
  pub accepted : Accepted ≡ listing_check (encode j ++ ws)
  pub text : listing (encode j ++ ws) ≡ listed j ws
  pub shows : Shows j (last_table j ws)

pub record Told (i : List ℕ) : Type 0 where
  -- the text is never empty: a length of 0 means that there was no room
  pub some : 1 ≤ length (listing i)
  pub shows : Accepted ≡ listing_check i → Shows (job_of (job_part i)) (last_table (job_of (job_part i)) (schedule_part i))
  -- and of every job within the limits, whatever turns of its workers stand behind it
  pub whole : (j : Job) → Valid j → (ws : List ℕ) → Scheduled j ws → Listing j ws
  -- of an accepted job: after any turns from a fresh start, turns 0 to T - 1 over and over answer all, in 2L + A + 3Q rounds at most
  pub finished : Accepted ≡ check_job (job_part i) → Finished (job_part i)
  -- numbers are decimal, and writing a text changes the bytes that it takes and no others
  pub numbers : (n : ℕ) → Decimals n
  pub bytes : (buf : List ℕ) (at : ℕ) (text : List ℕ) → at + length text ≤ length buf → Wrote buf at text
  -- the listing that 01 shows
  pub worked : ListingsRight
