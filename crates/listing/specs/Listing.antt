-- The listing (01, 'The listing program'): from the input bytes to the exact bytes of the text.
--   job_end i, job_part i, schedule_part i   where the job ends in the input i, and its two parts
--   most_input, most_text   the longest input, and room for every text
--   listing_check i     the checks of an input, in the table's order
--   list_check i n      the checks of a call that is lent n bytes: those of the input, then row 16
--   refusal_line        `refused`, number, place
--   claim_line, question_line, tally_line   the lines of the text
--   answer_line w c r   the line of a question of worker w on claim c, whose answer reads r
--   question_lines      the lines of questions, from question k on
--   line_of s t k       the line of question k, from the job's bytes s
--   count_text n        a count of the tally
--   heading word n      a heading: its word and a count
--   text_of j t ns      the text of job j whose table is t at the end, with the tally ns
--   played j t ws       the turns of a listing from table t: those of the schedule ws, then those that finish
--   first_table j, last_table j ws   the table at the start, all its words used, and at the end
--   listed j ws         the text of an accepted job and schedule
--   listing i           the whole text
--   room_length i out, room_bytes i out   what a call that is lent `out` answers as the length, and leaves as its bytes
use Rattle.std.specs.Prelude.{ℕ, ◌+◌, Err, length, take, drop, replicate}
use mathlib.Core.List.{List, [], ◌∷◌, ◌++◌, flat_map}
use Rattle.base.specs.Choose.{pick}
use Rattle.base.specs.Compare.{under, over}
use Rattle.base.specs.Lists.{upto}
use Rattle.writing.specs.Decimal.{decimal}
use Rattle.writing.specs.Written.{wrote}
use Rattle.job.specs.Bytes.{word}
use Rattle.job.specs.Job.{Job}
use Rattle.job.specs.Format.{rules, literals, question_at, job_of}
use Rattle.job.specs.Rows.{◌⨾◌, row}
use Rattle.job.specs.Checks.{check_job}
use Rattle.job.specs.Check.{Check}
use Rattle.job.specs.Check.{Accepted}
use Rattle.job.specs.declared.Question.{Question}
use Rattle.table.specs.declared.Reading.{Reading}
use Rattle.table.specs.Layout.{used, mark, answer, mark_of_value}
use Rattle.table.specs.Start.{start_words}
use Rattle.table.specs.Reading.{reading_of}
use Rattle.turn.specs.Turn.{run_table, run_kinds}
use Rattle.calls.specs.Calls.{check_schedule, tally}
use Rattle.listing.specs.Text.{blank, line_end, claims_word, questions_word, tally_word, refused_word, name_of}
use Rattle.listing.specs.Finish.{finish_turns, most}

-- "Standard input holds a job, then schedule bytes; the first word says where the job ends; where it is absent or above the input's length, all input counts as job."
unfoldable pub job_end : List ℕ → ℕ
job_end i = pick (under (length i) 4) (length i) (pick (over (word i 0) (length i)) (length i) (word i 0))

abbrev pub job_part : List ℕ → List ℕ
job_part i = take (job_end i) i

abbrev pub schedule_part : List ℕ → List ℕ
schedule_part i = drop (job_end i) i

abbrev pub most_input : ℕ
most_input = 65536

-- "Over 65,536 bytes prints `refused 1 65537`."
unfoldable pub listing_check : List ℕ → Check
listing_check i = row (over (length i) most_input) 1 (most_input + 1) ⨾ check_job (job_part i) ⨾ check_schedule (job_part i) (schedule_part i)

-- "A refusal prints `refused`, number, place."
abbrev pub refusal_line : ℕ → ℕ → List ℕ
refusal_line number place = refused_word ++ decimal number ++ (blank ∷ []) ++ decimal place ++ (line_end ∷ [])

-- "Claim lines: claim, value or `unopened`."
abbrev pub claim_line : List ℕ → ℕ → List ℕ
claim_line t c = decimal c ++ (blank ∷ []) ++ name_of (reading_of (mark t c)) ++ (line_end ∷ [])

-- "Question lines: worker, claim, value."
abbrev pub answer_line : ℕ → ℕ → Reading → List ℕ
answer_line w c r = decimal w ++ (blank ∷ []) ++ decimal c ++ (blank ∷ []) ++ name_of r ++ (line_end ∷ [])

abbrev pub question_line : Job → List ℕ → ℕ → Question → List ℕ
question_line j t k q = answer_line q.worker q.claim (reading_of (mark_of_value (answer j t k)))

unfoldable pub question_lines : Job → List ℕ → ℕ → List Question → List ℕ
question_lines j t k [] = []
question_lines j t k (q ∷ qs) = question_line j t k q ++ question_lines j t (k + 1) qs

-- the line of question k, from the bytes s of the job
abbrev pub line_of : List ℕ → List ℕ → ℕ → List ℕ
line_of s t k = question_line (job_of s) t k (question_at s (rules s) (literals s) k)

-- "Tally: counts of kinds 0 to 7 over all turns, those after the schedule included."
abbrev pub count_text : ℕ → List ℕ
count_text n = blank ∷ decimal n

abbrev pub tally_line : List ℕ → List ℕ
tally_line ns = tally_word ++ flat_map count_text ns ++ (line_end ∷ [])

-- "The two headings carry A and Q."
abbrev pub heading : List ℕ → ℕ → List ℕ
heading word n = word ++ decimal n ++ (line_end ∷ [])

unfoldable pub text_of : Job → List ℕ → List ℕ → List ℕ
text_of j t ns =
    heading claims_word j.claims
    ++ flat_map (claim_line t) (upto j.claims)
    ++ heading questions_word (length j.questions)
    ++ question_lines j t 0 j.questions
    ++ tally_line ns

-- "After the schedule, workers take turns 0 to T - 1 over and over, none once all is answered."
unfoldable pub played : Job → List ℕ → List ℕ → List ℕ
played j t ws = ws ++ finish_turns (most j) j (run_table j t ws) 0

abbrev pub first_table : Job → List ℕ
first_table j = start_words j (replicate (used j) 0)

unfoldable pub last_table : Job → List ℕ → List ℕ
last_table j ws = run_table j (first_table j) (played j (first_table j) ws)

unfoldable pub listed : Job → List ℕ → List ℕ
listed j ws = text_of j (last_table j ws) (tally (run_kinds j (first_table j) (played j (first_table j) ws)))

unfoldable pub listing_if : Check → List ℕ → List ℕ
listing_if Accepted i = listed (job_of (job_part i)) (schedule_part i)
listing_if (Err refusal) i = refusal_line refusal.number refusal.place

unfoldable pub listing : List ℕ → List ℕ
listing i = listing_if (listing_check i) i

-- room for the text of every input
abbrev pub most_text : ℕ
most_text = 196608

-- demand 1: "Refused first, by number and place and with no lent memory altered: .. an output too short." The number is that of order 1,
-- the place the bytes needed, and the row is the last. How long a text is shows only once the turns are played, so what is needed is
-- room for every text. `listing i` goes by listing_check i: no line says 16, since nothing is written where there is no room.
unfoldable pub list_check : List ℕ → ℕ → Check
list_check i n = listing_check i ⨾ row (under n most_text) 16 most_text

-- What a call that is lent `out` leaves. Where that has room for every text: the text at its start, a refusal's line too, and its
-- length. Where it has not: refused by a check of the input, or else by 16; the length is 0, and every byte is as before.
unfoldable pub room_length : List ℕ → List ℕ → ℕ
room_length i out = pick (under (length out) most_text) 0 (length (listing i))

unfoldable pub room_bytes : List ℕ → List ℕ → List ℕ
room_bytes i out = pick (under (length out) most_text) out (wrote out 0 (listing i))
