-- What is wrong with a line that doesn't fit (02, order 1, row 14), as the words on standard error go by it.
--   reach_from st i bs   how far the bytes bs fit that are left at byte i, in state st of the machine that reads a text
--   reach_of first s     how far line s fits: as the first line, or as any other
--   is_late s k          line k is a rule and the line before it a question
--   sort_of_byte a b     the fault of byte b behind byte a
--   sort_at_end          that of a line that has nothing behind what fits
--   sort_in s r feed     that of line s that fits as far as r, with or without a line feed
--   sort_of s k r        that of line k of text s
--   shown b              a byte as it is shown: `?` for one that can't be printed
--   fault_at sort at     the byte at fault, where what fits ends before byte `at`: the first of a rule behind a question
use Rattle.std.specs.Prelude.{ℕ, ◌+◌, ◌-◌, Bool, false, not, ◌&&◌, List, [], ◌∷◌, eqb, length, get_or}
use Rattle.base.specs.Choose.{pick}
use Rattle.base.specs.Compare.{under, over, not_below}
use Rattle.lines.specs.Grammar.{is_digit, step, is_bad}
use Rattle.lines.specs.declared.State.{State}
use Rattle.lines.specs.declared.State.TheVariants.{FirstLine, AnyLine}
use Rattle.makejob.specs.Pieces.{line_of, has_feed}
use Rattle.makejob.specs.declared.shape.Reach.{Reach}
use Rattle.makejob.specs.declared.sort.Sort.{Sort}
use Rattle.makejob.specs.declared.sort.Sort.TheVariants.{Empty, Blank, Unended, Return, LateRule, LeadingZero, Other}

unfoldable pub reach_from : State → ℕ → List ℕ → Reach
reach_from st i [] = record { at = i; whole = not (is_bad (step st 10)) }
reach_from st i (b ∷ bs) = pick (is_bad (step st b)) (record { at = i; whole = false }) (reach_from (step st b) (i + 1) bs)

unfoldable pub reach_of : Bool → List ℕ → Reach
reach_of first s = reach_from (pick first FirstLine AnyLine) 0 s

-- a question starts with `a`, a rule with a digit
unfoldable pub is_late : List ℕ → ℕ → Bool
is_late s k = pick (under k 2) false (eqb (get_or (line_of s (k - 1)) 0 0) 97 && is_digit (get_or (line_of s k) 0 0))

-- "Numbers have no leading zeros"
unfoldable pub sort_of_byte : ℕ → ℕ → Sort
sort_of_byte a b = pick (eqb b 13) Return (pick (eqb a 48 && is_digit b) LeadingZero Other)

-- "every line ends in a line feed"
unfoldable pub sort_at_end : List ℕ → Bool → Bool → Sort
sort_at_end s whole feed = pick (under 0 (length s)) (pick whole Unended Other) (pick feed Blank Empty)

unfoldable pub sort_in : List ℕ → Reach → Bool → Sort
sort_in s r feed =
    pick (not_below r.at (length s)) (sort_at_end s r.whole feed)
    (sort_of_byte (pick (eqb r.at 0) 0 (get_or s (r.at - 1) 0)) (get_or s r.at 0))

-- "then `ask W C` lines": no rule stands behind a question
unfoldable pub sort_of : List ℕ → ℕ → Reach → Sort
sort_of s k r = pick (is_late s k) LateRule (sort_in (line_of s k) r (has_feed s k))

unfoldable pub fault_at : Sort → ℕ → ℕ
fault_at LateRule at = 0
fault_at Empty at = at
fault_at Blank at = at
fault_at Unended at = at
fault_at Return at = at
fault_at LeadingZero at = at
fault_at Other at = at

unfoldable pub shown : ℕ → ℕ
shown b = pick (under b 32) 63 (pick (over b 126) 63 b)
