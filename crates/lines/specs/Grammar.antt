-- The machine that reads a text of lines, byte by byte (02, order 1: "First line `claims A workers T`; then rules, `H.` or `H if L, L.`,
-- where L is a claim or `not` and a claim; then `ask W C` lines. Numbers have no leading zeros, words are parted by single spaces,
-- every line ends in a line feed."). Laws has what it reads: exactly the texts that are written so.
--   is_digit b       b is a digit's byte
--   after w          the state behind a whole word
--   ended s b        the state behind b, where b stands behind a number
--   step st b        the state behind byte b
--   run st bs        the state behind the bytes
--   line_start st    1 at the start of a line, else 0
use Rattle.std.specs.Prelude.{ℕ, ◌+◌, List, [], ◌∷◌, Bool, true, false, eqb, length, get_or}
use Rattle.base.specs.Choose.{pick}
use Rattle.base.specs.Compare.{under, differs}
use Rattle.lines.specs.Lines.{letters}
use Rattle.lines.specs.declared.Slot.{Slot}
use Rattle.lines.specs.declared.Slot.TheVariants.{ClaimCount, WorkerCount, Head, Body, NotBody, Asker, Asked}
use Rattle.lines.specs.declared.Word.{Word}
use Rattle.lines.specs.declared.Word.TheVariants.{ClaimsWord, WorkersWord, IfWord, NotWord, AskWord, StopWord, CommaWord}
use Rattle.lines.specs.declared.State.{State}
use Rattle.lines.specs.declared.State.TheVariants.{Bad, FirstLine, AnyLine, AskLine, Letter, First, Zero, More, BodyNext}

unfoldable pub is_digit : ℕ → Bool
is_digit b = pick (under b 48) false (under b 58)

abbrev pub after : Word → State
after ClaimsWord = First ClaimCount
after WorkersWord = First WorkerCount
after IfWord = BodyNext
after NotWord = First NotBody
after AskWord = First Asker
after StopWord = AnyLine
after CommaWord = BodyNext

unfoldable pub spelled : Word → ℕ → ℕ → State
spelled w k b =
    pick (differs b (get_or (letters w) k 0)) Bad (pick (under (k + 1) (length (letters w))) (Letter w (k + 1)) (after w))

-- "Numbers have no leading zeros"
unfoldable pub first : Slot → ℕ → State
first s b = pick (eqb b 48) (Zero s) (pick (is_digit b) (More s) Bad)

unfoldable pub only : ℕ → ℕ → State → State
only b wanted next = pick (eqb b wanted) next Bad

unfoldable pub either : ℕ → ℕ → State → ℕ → State → State
either b one next two other = pick (eqb b one) next (only b two other)

abbrev pub ended : Slot → ℕ → State
ended ClaimCount b = only b 32 (Letter WorkersWord 1)
ended WorkerCount b = only b 10 AnyLine
ended Head b = either b 46 (Letter StopWord 1) 32 (Letter IfWord 1)
ended Body b = either b 46 (Letter StopWord 1) 44 (Letter CommaWord 1)
ended NotBody b = either b 46 (Letter StopWord 1) 44 (Letter CommaWord 1)
ended Asker b = only b 32 (First Asked)
ended Asked b = only b 10 AskLine

unfoldable pub more : Slot → ℕ → State
more s b = pick (is_digit b) (More s) (ended s b)

unfoldable pub any_line : ℕ → State
any_line b = pick (eqb b 97) (Letter AskWord 1) (first Head b)

unfoldable pub body_next : ℕ → State
body_next b = pick (eqb b 110) (Letter NotWord 1) (first Body b)

abbrev pub step : State → ℕ → State
step Bad b = Bad
step FirstLine b = only b 99 (Letter ClaimsWord 1)
step AnyLine b = any_line b
step AskLine b = only b 97 (Letter AskWord 1)
step (Letter w k) b = spelled w k b
step (First s) b = first s b
step (Zero s) b = ended s b
step (More s) b = more s b
step BodyNext b = body_next b

unfoldable pub run : State → List ℕ → State
run st [] = st
run st (b ∷ bs) = run (step st b) bs

abbrev pub is_bad : State → Bool
is_bad Bad = true
is_bad FirstLine = false
is_bad AnyLine = false
is_bad AskLine = false
is_bad (Letter w k) = false
is_bad (First s) = false
is_bad (Zero s) = false
is_bad (More s) = false
is_bad BodyNext = false

abbrev pub line_start : State → ℕ
line_start Bad = 0
line_start FirstLine = 1
line_start AnyLine = 1
line_start AskLine = 1
line_start (Letter w k) = 0
line_start (First s) = 0
line_start (Zero s) = 0
line_start (More s) = 0
line_start BodyNext = 0
