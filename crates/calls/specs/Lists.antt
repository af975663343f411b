-- Lists of calls on one job of bytes s, from a table t (01, 'Lists of calls').
--   Call                a single turn, a run, a reading of a claim
--   left s t x          the table that call x leaves; after s t xs   the table after the whole list
--   made s t x          the workers of the turns that call x makes, in order; turns_of s t xs   those of the whole list
--   Event               a turn that was made: its worker, its kind, and the table it left
--   events s t xs       the turns of the list, in order
--   times es w          how many of w's turns were of kind 7 (answered)
--   IsAnswered          w's question k is answered: k + 1 of w's turns were of kind 7
--   answer_of j es w k  the answer of w's question k: what reading its claim gave when it was answered, as a number 1 to 3
--   AllAnswered         all questions are answered
--   Complete t c        reading claim c answers a value
use Rattle.std.specs.Prelude.{ℕ, ◌+◌, ◌-◌, ◌<◌, ◌≤◌, Bool, ◌&&◌, List, [], ◌∷◌, ◌++◌, eqb, length, Err}
use Rattle.base.specs.Choose.{pick}
use Rattle.job.specs.Job.{Job}
use Rattle.job.specs.Format.{job_of}
use Rattle.job.specs.Check.{Check, Accepted}
use Rattle.table.specs.Questions.{asked_by, question_claim}
use Rattle.table.specs.Layout.{mark}
use Rattle.table.specs.Reading.{reading_of, reading_value}
use Rattle.turn.specs.Turn.{kind_number, turn}
use Rattle.calls.specs.Calls.{turn_check, turn_table, run_check, run_left}
use Rattle.turn.specs.declared.Kind.{Kind}

-- "A list holds single turns, runs and readings of a claim, accepted or refused (11, 12), any number, none included."
pub data Call : Type 0 where
  turning : ℕ → Call
  running : List ℕ → Call
  reading : ℕ → Call

-- "each call is lent the same job and the table as the call before left it"
unfoldable pub left : List ℕ → List ℕ → Call → List ℕ
left s t (turning w) = turn_table (turn_check s t w) s t w
left s t (running ws) = run_left (run_check s t ws) s t ws
left s t (reading c) = t

unfoldable pub after : List ℕ → List ℕ → List Call → List ℕ
after s t [] = t
after s t (x ∷ xs) = after s (left s t x) xs

-- "An accepted turn makes one turn. An accepted run makes those its schedule names, in order. A refused call and a reading make none."
unfoldable pub unless : Check → List ℕ → List ℕ
unless Accepted ws = ws
unless (Err refusal) ws = []

unfoldable pub made : List ℕ → List ℕ → Call → List ℕ
made s t (turning w) = unless (turn_check s t w) (w ∷ [])
made s t (running ws) = unless (run_check s t ws) ws
made s t (reading c) = []

unfoldable pub turns_of : List ℕ → List ℕ → List Call → List ℕ
turns_of s t [] = []
turns_of s t (x ∷ xs) = made s t x ++ turns_of s (left s t x) xs

pub record Event : Type 0 where
  pub worker : ℕ
  pub kind : Kind
  pub table : List ℕ

unfoldable pub run_events : Job → List ℕ → List ℕ → List Event
run_events j t [] = []
run_events j t (w ∷ ws) = record { worker = w; kind = (turn j t w).kind; table = (turn j t w).table } ∷ run_events j (turn j t w).table ws

unfoldable pub events : List ℕ → List ℕ → List Call → List Event
events s t [] = []
events s t (x ∷ xs) = run_events (job_of s) t (made s t x) ++ events s (left s t x) xs

-- "A worker's question k, from 0 in file order, is answered once k + 1 of the worker's turns were of kind 7;"
unfoldable pub answers : Event → ℕ → Bool
answers e w = eqb e.worker w && eqb (kind_number e.kind) 7

unfoldable pub times : List Event → ℕ → ℕ
times [] w = 0
times (e ∷ es) w = pick (answers e w) 1 0 + times es w

abbrev pub IsAnswered : List Event → ℕ → ℕ → Type 0
IsAnswered es w k = k < times es w

-- "its answer is the value that reading its claim gives then"
unfoldable pub answer_at : List Event → ℕ → ℕ → ℕ → ℕ
answer_at [] w k c = 0
answer_at (e ∷ es) w k c =
    pick (answers e w) (pick (eqb k 0) (reading_value (reading_of (mark e.table c))) (answer_at es w (k - 1) c)) (answer_at es w k c)

abbrev pub answer_of : Job → List Event → ℕ → ℕ → ℕ
answer_of j es w k = answer_at es w k (question_claim j w k)

abbrev pub AllAnswered : Job → List Event → Type 0
AllAnswered j es = (w : ℕ) → w < j.workers → length (asked_by j w) ≤ times es w

-- "A claim is complete if reading it answers a value."
abbrev pub Complete : List ℕ → ℕ → Type 0
Complete t c = 1 ≤ reading_value (reading_of (mark t c))
