-- The kind of a turn in a word, as ASCII bytes (01, 'A turn of worker w': "The eight kinds are numbered idle 0, woke 1, opened 2, waits 3, took 4, passed 5,
-- completed 6, answered 7.").
--   idle_word, ..   the word of each kind; no_kind   of a number that none has
--   kind_word n     the word of number n; most_kind   none is longer
use Rattle.std.specs.Prelude.{ℕ, List, [], ◌∷◌, eqb}
use Rattle.base.specs.Choose.{pick}

abbrev pub most_kind : ℕ
most_kind = 9

-- "idle"
abbrev pub idle_word : List ℕ
idle_word = 105 ∷ 100 ∷ 108 ∷ 101 ∷ []

-- "woke"
abbrev pub woke_word : List ℕ
woke_word = 119 ∷ 111 ∷ 107 ∷ 101 ∷ []

-- "opened"
abbrev pub opened_word : List ℕ
opened_word = 111 ∷ 112 ∷ 101 ∷ 110 ∷ 101 ∷ 100 ∷ []

-- "waits"
abbrev pub waits_word : List ℕ
waits_word = 119 ∷ 97 ∷ 105 ∷ 116 ∷ 115 ∷ []

-- "took"
abbrev pub took_word : List ℕ
took_word = 116 ∷ 111 ∷ 111 ∷ 107 ∷ []

-- "passed"
abbrev pub passed_word : List ℕ
passed_word = 112 ∷ 97 ∷ 115 ∷ 115 ∷ 101 ∷ 100 ∷ []

-- "completed"
abbrev pub completed_word : List ℕ
completed_word = 99 ∷ 111 ∷ 109 ∷ 112 ∷ 108 ∷ 101 ∷ 116 ∷ 101 ∷ 100 ∷ []

-- "answered"
abbrev pub answered_word : List ℕ
answered_word = 97 ∷ 110 ∷ 115 ∷ 119 ∷ 101 ∷ 114 ∷ 101 ∷ 100 ∷ []

-- "no kind"
abbrev pub no_kind : List ℕ
no_kind = 110 ∷ 111 ∷ 32 ∷ 107 ∷ 105 ∷ 110 ∷ 100 ∷ []

unfoldable pub kind_word : ℕ → List ℕ
kind_word n =
    pick (eqb n 0) idle_word (pick (eqb n 1) woke_word (pick (eqb n 2) opened_word (pick (eqb n 3) waits_word (pick (eqb n 4) took_word (pick (eqb n 5) passed_word (pick (eqb n 6) completed_word (pick (eqb n 7) answered_word no_kind)))))))
