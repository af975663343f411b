-- The handbook's table (02, order 12: "Print, a line a size, rising, five numbers parted by single spaces").
--   before b n        number n in decimal, with the byte b behind it
--   census_line c     the line of the five numbers c
--   handbook_table    the lines of the sizes 1, 2 and 3
--   one_claim, two_claims   the first two of them, byte by byte
--   LinesRight        lines worked out: those two, and one of five different numbers; the table begins with the two
use Rattle.std.specs.Prelude.{ℕ, ◌≡◌, List, [], ◌∷◌, ◌++◌}
use Rattle.writing.specs.Decimal.{decimal}
use Rattle.listing.specs.Text.{blank, line_end}
use Rattle.rulesets.specs.Census.{census_of}
use Rattle.rulesets.specs.declared.Counts.{Counts}

unfoldable pub before : ℕ → ℕ → List ℕ
before b n = decimal n ++ (b ∷ [])

-- "the first three how many make claim 0 true, false, undefined"; "The last two are the place .. and those turns"
unfoldable pub census_line : Counts → List ℕ
census_line c = before blank c.trues ++ before blank c.falses ++ before blank c.undefineds ++ before blank c.place ++ before line_end c.turns

-- "a line a size, rising"
unfoldable pub handbook_table : List ℕ
handbook_table = census_line (census_of 1) ++ census_line (census_of 2) ++ census_line (census_of 3)

-- `1 2 1 2 4` and `15 54 31 45 9`, each with its line feed
abbrev pub one_claim : List ℕ
one_claim = 49 ∷ 32 ∷ 50 ∷ 32 ∷ 49 ∷ 32 ∷ 50 ∷ 32 ∷ 52 ∷ 10 ∷ []

abbrev pub two_claims : List ℕ
two_claims = 49 ∷ 53 ∷ 32 ∷ 53 ∷ 52 ∷ 32 ∷ 51 ∷ 49 ∷ 32 ∷ 52 ∷ 53 ∷ 32 ∷ 57 ∷ 10 ∷ []

pub record LinesRight : Type 0 where
  -- `10 2 345 6 78` and a line feed
  pub five :
      census_line (record { trues = 10; falses = 2; undefineds = 345; place = 6; turns = 78 })
      ≡ 49 ∷ 48 ∷ 32 ∷ 50 ∷ 32 ∷ 51 ∷ 52 ∷ 53 ∷ 32 ∷ 54 ∷ 32 ∷ 55 ∷ 56 ∷ 10 ∷ []
  -- "For one claim that is 1, 2, 1."; "2 and 4 for one claim"
  pub one : census_line (census_of 1) ≡ one_claim
  -- as a program of other authorship prints it
  pub two : census_line (census_of 2) ≡ two_claims
  -- "a line a size, rising"
  pub table : handbook_table ≡ one_claim ++ two_claims ++ census_line (census_of 3)
