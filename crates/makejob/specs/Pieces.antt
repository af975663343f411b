-- What is read out of a refused text for the words on standard error: its lines, and the numbers of a line (02, order 1: "Place: the
-- line, from 1"; "every line ends in a line feed").
--   is_feed b           b is a line feed
--   up_to p s           the bytes of s before the first that passes p; all where none does
--   some p s            a byte of s passes p
--   behind_feed s       what stands behind the first line feed; nothing where there is none
--   behind_feeds n s    behind n of them
--   from_line s k       the text from line k on, k from 1; nothing where it has fewer lines
--   line_of s k         line k without its line feed
--   has_feed s k        line k has one
--   not_digit b         b is no digit
--   from_digit s        the line from its first digit on; nothing where it has none
--   number_in s         the digits of the first number of line s; behind_number s   what stands behind them
--   value_from n bs     the digits bs behind a number n, kept at 65,536 where it is past that
--   past_from n s k     the digits of the first number of line s that is not below k, among n; first_past s k   of the whole line
use Rattle.std.specs.Prelude.{ℕ, zero, suc, ◌-◌, Bool, true, false, not, ◌&&◌, List, [], ◌∷◌, eqb, length, drop, Option, Some, None}
use Rattle.base.specs.Choose.{pick}
use Rattle.base.specs.Compare.{under, not_below}
use Rattle.lines.specs.Grammar.{is_digit}
use Rattle.lines.specs.Numbering.{cap, digit_by}

unfoldable pub is_feed : ℕ → Bool
is_feed b = eqb b 10

unfoldable pub up_to : (ℕ → Bool) → List ℕ → List ℕ
up_to p [] = []
up_to p (b ∷ s) = pick (p b) [] (b ∷ up_to p s)

unfoldable pub some : (ℕ → Bool) → List ℕ → Bool
some p [] = false
some p (b ∷ s) = pick (p b) true (some p s)

unfoldable pub behind_feed : List ℕ → List ℕ
behind_feed [] = []
behind_feed (b ∷ s) = pick (is_feed b) s (behind_feed s)

unfoldable pub behind_feeds : ℕ → List ℕ → List ℕ
behind_feeds zero s = s
behind_feeds (suc n) s = behind_feeds n (behind_feed s)

unfoldable pub from_line : List ℕ → ℕ → List ℕ
from_line s k = behind_feeds (k - 1) s

unfoldable pub line_of : List ℕ → ℕ → List ℕ
line_of s k = up_to is_feed (from_line s k)

unfoldable pub has_feed : List ℕ → ℕ → Bool
has_feed s k = some is_feed (from_line s k)

unfoldable pub not_digit : ℕ → Bool
not_digit b = not (is_digit b)

-- the line from its first digit on
unfoldable pub from_digit : List ℕ → List ℕ
from_digit s = drop (length (up_to is_digit s)) s

unfoldable pub number_in : List ℕ → List ℕ
number_in s = up_to not_digit (from_digit s)

unfoldable pub behind_number : List ℕ → List ℕ
behind_number s = drop (length (number_in s)) (from_digit s)

unfoldable pub value_from : ℕ → List ℕ → ℕ
value_from n [] = n
value_from n (b ∷ bs) = value_from (digit_by cap n b) bs

unfoldable pub past_from : ℕ → List ℕ → ℕ → Option (List ℕ)
past_from zero s k = None
past_from (suc n) s k =
    pick (under 0 (length (number_in s)) && not_below (value_from 0 (number_in s)) k) (Some (number_in s)) (past_from n (behind_number s) k)

-- each number has a byte at least
unfoldable pub first_past : List ℕ → ℕ → Option (List ℕ)
first_past s k = past_from (length s) s k
