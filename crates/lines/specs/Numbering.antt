-- The numbers of a text along its bytes, and row 15 of them (02, order 1): "15 over all lines, a count past 01's limits, T 0, or a claim
-- or worker not below its count", place the line, from 1. Checks has the row in the terms of the lines that the text says.
-- A number has any count of digits; the code keeps those past 65,536 there, which no limit or count tells apart (proofs/Capped).
--   cap n               n, or 65,536 where it is past that
--   digit_by keep n b   the number n with the digit b more, kept as `keep` has it; 0 behind any other byte
--   Scan, begin, advance   how far a text is read: at its start, and behind one byte more
--   event_at sc b       the number that byte b ends, if it ends one
--   Item                a number of a text: its line, what it stands for, its value
--   items, items_of     the numbers of the bytes left; of a whole text
--   counted_with t e    the tally with a number more
--   faulty_with t e     whether that number, or the tally that has it, is out of range
--   judged t xs         the numbers in turn, up to the first fault: the tally, or the refusal
--   Small t             what the tally of a text without a fault has
use Rattle.std.specs.Prelude.{ℕ, ◌+◌, ◌*◌, ◌-◌, ◌≤◌, List, [], ◌∷◌, ◌++◌, Bool, false, ◌||◌, Result, Ok, Err, Option, Some, None}
use Rattle.base.specs.Choose.{pick}
use Rattle.base.specs.Compare.{under, over, not_below}
use Rattle.job.specs.Job.{most_claims, most_rules, most_literals, most_workers, most_questions}
use Rattle.job.specs.declared.Refusal.{Refusal}
use Rattle.lines.specs.Grammar.{is_digit, step, line_start}
use Rattle.lines.specs.declared.Slot.{Slot}
use Rattle.lines.specs.declared.Slot.TheVariants.{ClaimCount, WorkerCount, Head, Body, NotBody, Asker, Asked}
use Rattle.lines.specs.declared.State.{State}
use Rattle.lines.specs.declared.State.TheVariants.{Bad, FirstLine, AnyLine, AskLine, Letter, First, Zero, More, BodyNext}
use Rattle.lines.specs.declared.Tally.{Tally}

unfoldable pub cap : ℕ → ℕ
cap n = pick (over n 65536) 65536 n

unfoldable pub digit_by : (ℕ → ℕ) → ℕ → ℕ → ℕ
digit_by keep n b = pick (is_digit b) (keep (10 * n + (b - 48))) 0

-- how far a text is read: the state, and the number whose digits are being read
pub record Scan : Type 0 where
  pub state : State
  pub number : ℕ

abbrev pub begin : Scan
begin = record { state = FirstLine; number = 0 }

abbrev pub advance : (ℕ → ℕ) → Scan → ℕ → Scan
advance keep sc b = record { state = step sc.state b; number = digit_by keep sc.number b }

-- the type `Event`, since antt has no name for an alias: a number that a byte ends, with its value
abbrev pub Event : Type 0
Event = Option (Slot × ℕ)

unfoldable pub unless_digit : Slot → ℕ → ℕ → Event
unless_digit slot n b = pick (is_digit b) None (Some (slot, n))

abbrev pub event_in : State → ℕ → ℕ → Event
event_in Bad n b = None
event_in FirstLine n b = None
event_in AnyLine n b = None
event_in AskLine n b = None
event_in (Letter w k) n b = None
event_in (First slot) n b = None
event_in (Zero slot) n b = unless_digit slot n b
event_in (More slot) n b = unless_digit slot n b
event_in BodyNext n b = None

abbrev pub event_at : Scan → ℕ → Event
event_at sc b = event_in sc.state sc.number b

pub record Item : Type 0 where
  pub line : ℕ
  pub slot : Slot
  pub value : ℕ

abbrev pub item_of : ℕ → Event → List Item
item_of line None = []
item_of line (Some (slot, n)) = record { line = line; slot = slot; value = n } ∷ []

-- of the bytes left, `line` lines being begun before them
unfoldable pub items : (ℕ → ℕ) → Scan → ℕ → List ℕ → List Item
items keep sc line [] = []
items keep sc line (b ∷ bs) =
    item_of (line + line_start sc.state) (event_at sc b) ++ items keep (advance keep sc b) (line + line_start sc.state) bs

abbrev pub items_of : (ℕ → ℕ) → List ℕ → List Item
items_of keep text = items keep begin 0 text

abbrev pub no_tally : Tally
no_tally = record { claims = 0; workers = 0; rules = 0; literals = 0; questions = 0 }

abbrev pub counted_number : Tally → Slot → ℕ → Tally
counted_number t ClaimCount n = record { claims = n; workers = t.workers; rules = t.rules; literals = t.literals; questions = t.questions }
counted_number t WorkerCount n = record { claims = t.claims; workers = n; rules = t.rules; literals = t.literals; questions = t.questions }
counted_number t Head n = record { claims = t.claims; workers = t.workers; rules = t.rules + 1; literals = t.literals; questions = t.questions }
counted_number t Body n = record { claims = t.claims; workers = t.workers; rules = t.rules; literals = t.literals + 1; questions = t.questions }
counted_number t NotBody n = record { claims = t.claims; workers = t.workers; rules = t.rules; literals = t.literals + 1; questions = t.questions }
counted_number t Asker n = t
counted_number t Asked n = record { claims = t.claims; workers = t.workers; rules = t.rules; literals = t.literals; questions = t.questions + 1 }

abbrev pub counted_with : Tally → Event → Tally
counted_with t None = t
counted_with t (Some (slot, n)) = counted_number t slot n

abbrev pub faulty_number : Tally → Slot → ℕ → Bool
faulty_number t ClaimCount n = over n most_claims
faulty_number t WorkerCount n = under n 1 || over n most_workers
faulty_number t Head n = over t.rules most_rules || not_below n t.claims
faulty_number t Body n = over t.literals most_literals || not_below n t.claims
faulty_number t NotBody n = over t.literals most_literals || not_below n t.claims
faulty_number t Asker n = not_below n t.workers
faulty_number t Asked n = over t.questions most_questions || not_below n t.claims

abbrev pub faulty_with : Tally → Event → Bool
faulty_with t None = false
faulty_with t (Some (slot, n)) = faulty_number t slot n

unfoldable pub judged : Tally → List Item → Result Tally Refusal
judged t [] = Ok t
judged t (x ∷ xs) =
    pick (faulty_number (counted_number t x.slot x.value) x.slot x.value)
    (Err (record { number = 15; place = x.line }))
    (judged (counted_number t x.slot x.value) xs)

unfoldable pub counted_all : List ℕ → Result Tally Refusal
counted_all s = judged no_tally (items_of cap s)

pub record Small (t : Tally) : Type 0 where
  pub claims_most : t.claims ≤ most_claims
  pub rules_most : t.rules ≤ most_rules
  pub literals_most : t.literals ≤ most_literals
  pub workers_most : t.workers ≤ most_workers
  pub questions_most : t.questions ≤ most_questions
