-- The words of a listing as ASCII bytes (01: "The listing program"). Its numbers are `decimal` (writing/specs/Decimal).
--   claims_word, questions_word, tally_word, refused_word   `claims `, `questions `, `tally`, `refused `
--   name_of r             the value's name that a reading shows, or `unopened`
--   blank, line_end       a space; a line feed
use Rattle.std.specs.Prelude.{ℕ, List, [], ◌∷◌}
use Rattle.table.specs.declared.Reading.{Reading}
use Rattle.table.specs.declared.Reading.TheVariants.{Fresh, Open, True, False, Undefined}

abbrev pub blank : ℕ
blank = 32

abbrev pub line_end : ℕ
line_end = 10

abbrev pub claims_word : List ℕ
claims_word = 99 ∷ 108 ∷ 97 ∷ 105 ∷ 109 ∷ 115 ∷ 32 ∷ []

abbrev pub questions_word : List ℕ
questions_word = 113 ∷ 117 ∷ 101 ∷ 115 ∷ 116 ∷ 105 ∷ 111 ∷ 110 ∷ 115 ∷ 32 ∷ []

abbrev pub tally_word : List ℕ
tally_word = 116 ∷ 97 ∷ 108 ∷ 108 ∷ 121 ∷ []

abbrev pub refused_word : List ℕ
refused_word = 114 ∷ 101 ∷ 102 ∷ 117 ∷ 115 ∷ 101 ∷ 100 ∷ 32 ∷ []

abbrev pub true_name : List ℕ
true_name = 116 ∷ 114 ∷ 117 ∷ 101 ∷ []

abbrev pub false_name : List ℕ
false_name = 102 ∷ 97 ∷ 108 ∷ 115 ∷ 101 ∷ []

abbrev pub undefined_name : List ℕ
undefined_name = 117 ∷ 110 ∷ 100 ∷ 101 ∷ 102 ∷ 105 ∷ 110 ∷ 101 ∷ 100 ∷ []

abbrev pub unopened_name : List ℕ
unopened_name = 117 ∷ 110 ∷ 111 ∷ 112 ∷ 101 ∷ 110 ∷ 101 ∷ 100 ∷ []

abbrev pub name_of : Reading → List ℕ
name_of Fresh = unopened_name
name_of Open = unopened_name
name_of True = true_name
name_of False = false_name
name_of Undefined = undefined_name
