-- Listings worked out by hand, byte by byte: the one that 01 shows ('The listing program'), and a refusal.
--   shown            01's input: its job, then its schedule
--   shown_text       the text that 01 shows for it
--   cut_text         the text for no input at all
--   ListingsRight    the theorem: so they are listed (proofs/Worked, computed)
use Rattle.std.specs.Prelude.{ℕ, List, [], ◌∷◌, ◌++◌, ◌≡◌}
use Rattle.job.specs.Encoding.{encode}
use Rattle.turn.specs.Worked.{two}
use Rattle.listing.specs.Listing.{listing}

-- "For two claims, 0 if 1, 1 if 0; worker 0 asks 0, worker 1 asks 1; schedule 0 1 0 1 1 1 0 0"
abbrev shown : List ℕ
shown = encode two ++ (0 ∷ 1 ∷ 0 ∷ 1 ∷ 1 ∷ 1 ∷ 0 ∷ 0 ∷ [])

abbrev shown_text : List ℕ
shown_text =
    -- claims 2
    99 ∷ 108 ∷ 97 ∷ 105 ∷ 109 ∷ 115 ∷ 32 ∷ 50 ∷ 10 ∷
    -- 0 false
    48 ∷ 32 ∷ 102 ∷ 97 ∷ 108 ∷ 115 ∷ 101 ∷ 10 ∷
    -- 1 false
    49 ∷ 32 ∷ 102 ∷ 97 ∷ 108 ∷ 115 ∷ 101 ∷ 10 ∷
    -- questions 2
    113 ∷ 117 ∷ 101 ∷ 115 ∷ 116 ∷ 105 ∷ 111 ∷ 110 ∷ 115 ∷ 32 ∷ 50 ∷ 10 ∷
    -- 0 0 false
    48 ∷ 32 ∷ 48 ∷ 32 ∷ 102 ∷ 97 ∷ 108 ∷ 115 ∷ 101 ∷ 10 ∷
    -- 1 1 false
    49 ∷ 32 ∷ 49 ∷ 32 ∷ 102 ∷ 97 ∷ 108 ∷ 115 ∷ 101 ∷ 10 ∷
    -- tally 0 1 2 1 1 0 1 2
    116 ∷ 97 ∷ 108 ∷ 108 ∷ 121 ∷ 32 ∷ 48 ∷ 32 ∷ 49 ∷ 32 ∷ 50 ∷ 32 ∷ 49 ∷ 32 ∷ 49 ∷ 32 ∷ 48 ∷ 32 ∷ 49 ∷ 32 ∷ 50 ∷ 10 ∷
    []

-- refused 1 0
abbrev cut_text : List ℕ
cut_text = 114 ∷ 101 ∷ 102 ∷ 117 ∷ 115 ∷ 101 ∷ 100 ∷ 32 ∷ 49 ∷ 32 ∷ 48 ∷ 10 ∷ []

pub record ListingsRight : Type 0 where
  pub example : listing shown ≡ shown_text
  pub cut : listing [] ≡ cut_text
