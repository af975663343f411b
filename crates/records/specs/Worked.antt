-- 01's run of two workers on record, byte by byte and word by word, and what is refused: worked out by hand, and computed (proofs/Worked).
--   job, schedule, log    its job, its schedule and its record
--   lent, after, three    a table as it was lent, two words longer than those used; after the run; after its first three turns
--   RunCase, runs         recorded runs with their answers; ReplayCase, replays   replays with theirs
--   RecordsRight          the theorem
use Rattle.std.specs.Prelude.{ℕ, ◌≡◌, List, [], ◌∷◌, map, take, set, replicate}
use Rattle.job.specs.Check.{Check, Accepted, Refused}
use Rattle.records.specs.Answers.{record_check, record_table, record_tally, record_bytes, replay_rows, replay_check, replay_table, replay_tally}

-- "For two claims, 0 if 1, 1 if 0; worker 0 asks 0, worker 1 asks 1"
abbrev pub job : List ℕ
job =
    56 ∷ 0 ∷ 0 ∷ 0 ∷ 2 ∷ 0 ∷ 0 ∷ 0 ∷ 2 ∷ 0 ∷ 0 ∷ 0 ∷ 2 ∷ 0 ∷ 0 ∷ 0 ∷ 2 ∷ 0 ∷ 0 ∷ 0 ∷ 2 ∷ 0 ∷ 0 ∷ 0 ∷ 36 ∷ 0 ∷ 0 ∷ 0 ∷ 44 ∷ 0 ∷ 0 ∷ 0 ∷ 48 ∷ 0 ∷ 0 ∷ 0 ∷
    0 ∷ 0 ∷ 1 ∷ 0 ∷ 1 ∷ 0 ∷ 1 ∷ 0 ∷ 1 ∷ 0 ∷ 0 ∷ 0 ∷ 0 ∷ 0 ∷ 0 ∷ 0 ∷ 1 ∷ 0 ∷ 1 ∷ 0 ∷ []

-- "schedule 0 1 0 1 1 1 0 0"
abbrev pub schedule : List ℕ
schedule = 0 ∷ 1 ∷ 0 ∷ 1 ∷ 1 ∷ 1 ∷ 0 ∷ 0 ∷ []

-- opened, opened, waits, took, completed, answered, woke, answered
abbrev pub log : List ℕ
log = 0 ∷ 2 ∷ 1 ∷ 2 ∷ 0 ∷ 3 ∷ 1 ∷ 4 ∷ 1 ∷ 6 ∷ 1 ∷ 7 ∷ 0 ∷ 1 ∷ 0 ∷ 7 ∷ []

abbrev pub lent : List ℕ
lent = replicate 24 7

-- header; claims (mark, cursor, number); workers (awaited, answered, newest); questions; and the words past those used
abbrev pub after : List ℕ
after = 22 ∷ 2 ∷ 2 ∷ 2 ∷ 8 ∷ 14 ∷ 20 ∷ 2 ∷ 257 ∷ 1 ∷ 1 ∷ 257 ∷ 1 ∷ 2 ∷ 0 ∷ 1 ∷ 0 ∷ 0 ∷ 1 ∷ 0 ∷ 2 ∷ 2 ∷ 7 ∷ 7 ∷ []

abbrev pub three : List ℕ
three = 22 ∷ 2 ∷ 2 ∷ 2 ∷ 8 ∷ 14 ∷ 20 ∷ 2 ∷ 1 ∷ 1 ∷ 1 ∷ 2 ∷ 0 ∷ 2 ∷ 2 ∷ 0 ∷ 1 ∷ 0 ∷ 0 ∷ 2 ∷ 0 ∷ 0 ∷ 7 ∷ 7 ∷ []

pub record RunCase : Type 0 where
  pub bytes : List ℕ
  pub table : List ℕ
  pub turns : List ℕ
  pub buffer : List ℕ
  pub answer : Check

abbrev run : List ℕ → ℕ → List ℕ → ℕ → Check → RunCase
run s words ws n x = record { bytes = s; table = replicate words 7; turns = ws; buffer = replicate n 170; answer = x }

-- 25's place is the bytes needed; 11 comes before it, 9 before that, 1 to 8 before all
abbrev pub runs : List RunCase
runs =
    run job 22 schedule 16 Accepted ∷
    run job 22 [] 0 Accepted ∷
    run job 22 schedule 15 (Refused 25 16) ∷
    run job 22 (0 ∷ []) 0 (Refused 25 2) ∷
    run job 22 (0 ∷ 2 ∷ []) 0 (Refused 11 1) ∷
    run job 21 (0 ∷ 2 ∷ []) 0 (Refused 9 22) ∷
    run (take 55 job) 21 (0 ∷ 2 ∷ []) 0 (Refused 2 0) ∷
    run [] 0 (0 ∷ 2 ∷ []) 0 (Refused 1 0) ∷
    []

pub record ReplayCase : Type 0 where
  pub bytes : List ℕ
  pub table : List ℕ
  pub pairs : List ℕ
  pub answer : Check

abbrev replay : List ℕ → ℕ → List ℕ → Check → ReplayCase
replay s words r x = record { bytes = s; table = replicate words 7; pairs = r; answer = x }

-- 24's place is the pair; 23 comes before it, 9 before that, 1 to 8 before all
abbrev pub replays : List ReplayCase
replays =
    replay job 22 log Accepted ∷
    replay job 22 [] Accepted ∷
    -- the kind of the first pair, of a middle one, of the last; no kind at all
    replay job 22 (set log 1 5) (Refused 24 0) ∷
    replay job 22 (set log 5 4) (Refused 24 2) ∷
    replay job 22 (set log 15 0) (Refused 24 7) ∷
    replay job 22 (set log 5 8) (Refused 24 2) ∷
    -- a worker that isn't below T, in the first pair and in the last, and also where it is said to be idle; one of the job's, whose turn is of another kind
    replay job 22 (set log 0 2) (Refused 24 0) ∷
    replay job 22 (set log 14 255) (Refused 24 7) ∷
    replay job 22 (2 ∷ 0 ∷ []) (Refused 24 0) ∷
    replay job 22 (set log 6 0) (Refused 24 3) ∷
    replay job 22 (take 15 log) (Refused 23 15) ∷
    replay job 22 (9 ∷ []) (Refused 23 1) ∷
    replay job 21 (9 ∷ []) (Refused 9 22) ∷
    replay (take 55 job) 21 (9 ∷ []) (Refused 2 0) ∷
    replay [] 0 (9 ∷ []) (Refused 1 0) ∷
    []

pub record RecordsRight : Type 0 where
  -- the record, and the byte behind it
  pub bytes : record_bytes Accepted job lent schedule (replicate 17 170) ≡ 0 ∷ 2 ∷ 1 ∷ 2 ∷ 0 ∷ 3 ∷ 1 ∷ 4 ∷ 1 ∷ 6 ∷ 1 ∷ 7 ∷ 0 ∷ 1 ∷ 0 ∷ 7 ∷ 170 ∷ []
  pub table : record_table Accepted job lent schedule ≡ after
  pub tally : record_tally Accepted job lent schedule ≡ 0 ∷ 1 ∷ 2 ∷ 1 ∷ 1 ∷ 0 ∷ 1 ∷ 2 ∷ []
  pub again : replay_table (replay_rows job lent log) job lent log ≡ after
  pub again_tally : replay_tally (replay_rows job lent log) job lent log ≡ 0 ∷ 1 ∷ 2 ∷ 1 ∷ 1 ∷ 0 ∷ 1 ∷ 2 ∷ []
  -- byte 7 as 6, completed for took: refused by 24, place 3, and the table has the three turns before it
  pub false : replay_check job lent (set log 7 6) ≡ Refused 24 3
  pub false_table : replay_table (replay_rows job lent (set log 7 6)) job lent (set log 7 6) ≡ three
  pub false_tally : replay_tally (replay_rows job lent (set log 7 6)) job lent (set log 7 6) ≡ 0 ∷ 0 ∷ 2 ∷ 1 ∷ 0 ∷ 0 ∷ 0 ∷ 0 ∷ []
  pub run_answers : map (λ (c : RunCase). record_check c.bytes c.table c.turns c.buffer) runs ≡ map (λ (c : RunCase). c.answer) runs
  pub replay_answers : map (λ (c : ReplayCase). replay_check c.bytes c.table c.pairs) replays ≡ map (λ (c : ReplayCase). c.answer) replays
