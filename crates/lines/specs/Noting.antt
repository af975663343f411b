-- The numbers of rules and questions, noted down in the order of the text, a word each: what the job is written from.
--   head_mark           added to a head, so that a note shows where a rule starts
--   note_of x, notes xs   what is noted of a number; of numbers in turn
--   notes_of s          the notes of a text
--   most_rule_notes, most_notes   how many notes the rules of a job have at most, and all of it
--   Kept e              a number is at most 65,536
--   rule_notes r, ask_notes q   those of a rule's line and of a question's
use Rattle.std.specs.Prelude.{ℕ, ◌+◌, ◌*◌, ◌≤◌, Some, None}
use mathlib.Core.List.{List, [], ◌∷◌, flat_map, map}
use Rattle.job.specs.Encoding.{field_of}
use Rattle.job.specs.Job.{most_rules, most_literals, most_questions}
use Rattle.job.specs.declared.Question.{Question}
use Rattle.lines.specs.Lines.{RuleLine}
use Rattle.lines.specs.Numbering.{cap, Item, items_of, Event}
use Rattle.lines.specs.declared.Slot.{Slot}
use Rattle.lines.specs.declared.Slot.TheVariants.{ClaimCount, WorkerCount, Head, Body, NotBody, Asker, Asked}

abbrev pub head_mark : ℕ
head_mark = 65536

abbrev pub note_of : Slot → ℕ → List ℕ
note_of ClaimCount n = []
note_of WorkerCount n = []
note_of Head n = (head_mark + n) ∷ []
note_of Body n = n ∷ []
note_of NotBody n = (32768 + n) ∷ []
note_of Asker n = n ∷ []
note_of Asked n = n ∷ []

abbrev pub note_in : Event → List ℕ
note_in None = []
note_in (Some (slot, n)) = note_of slot n

abbrev pub Kept : Event → Type 0
Kept None = Unit {0}
Kept (Some (slot, n)) = n ≤ 65536

abbrev pub notes : List Item → List ℕ
notes xs = flat_map (λ x. note_of x.slot x.value) xs

abbrev pub notes_of : List ℕ → List ℕ
notes_of s = notes (items_of cap s)

-- a note for each head and each literal; two for each question
abbrev pub most_rule_notes : ℕ
most_rule_notes = most_rules + most_literals

abbrev pub most_notes : ℕ
most_notes = most_rule_notes + 2 * most_questions

abbrev pub rule_notes : RuleLine → List ℕ
rule_notes r = (head_mark + r.head) ∷ map field_of r.body

abbrev pub ask_notes : Question → List ℕ
ask_notes q = q.worker ∷ q.claim ∷ []
