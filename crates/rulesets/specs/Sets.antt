-- The rule sets of a size, in the order met (02, order 12: "For 1, 2 and 3 claims, go through all rule sets with at most one rule a claim, each
-- claim being absent, plain or negated in a body"). In the field's terms: the ground normal programs of n atoms with at most one rule an atom, no
-- atom twice in a body.
--   Sign                   how a claim stands in a body: absent, plain or negated; signs   these three, in order
--   Choice                 a claim's choice: no rule, or the rule with this body, a sign for each claim
--   lists_of xs n          the lists of n elements of xs, the first element turning slowest
--   all_bodies n           the bodies over n claims; all_choices n   a claim's choices; all_sets n   the rule sets: a choice for each claim
--   body_no n x            body x of these, from 0; choice_no n v, set_no n k   choice v, set k
--   number_from f b a xs   the list xs as a number in base b, the first element the leading digit, behind the digits of a
--   body_number ps         a body as a base-3 number; choice_number x   a choice's place among a claim's; set_number n r   a set's number
--   choice_count n         how many choices a claim has; set_count n   how many sets there are
--   IsSet n r              r is a rule set of n claims
use Rattle.std.specs.Prelude.{ℕ, zero, suc, ◌+◌, ◌*◌, ◌^◌, ◌≡◌, length, get_or}
use mathlib.Core.List.{List, [], ◌∷◌, map, flat_map}
use Rattle.job.specs.Encoding.{◌∈◌}

-- "each claim being absent, plain or negated in a body"; "absent 0, plain 1, negated 2"
pub data Sign : Type 0 where
  absent plain negated : Sign

abbrev pub signs : List Sign
signs = absent ∷ plain ∷ negated ∷ []

abbrev pub sign_number : Sign → ℕ
sign_number absent = 0
sign_number plain = 1
sign_number negated = 2

-- "at most one rule a claim"
pub data Choice : Type 0 where
  no_rule : Choice
  rule : List Sign → Choice

-- the first element turns slowest
unfoldable pub lists_of : {A : Type 0} → List A → ℕ → List (List A)
lists_of xs zero = [] ∷ []
lists_of xs (suc n) = flat_map (λ x. map (λ r. x ∷ r) (lists_of xs n)) xs

-- "bodies as base-3 numbers, claim 0 the leading digit"
abbrev pub all_bodies : ℕ → List (List Sign)
all_bodies n = lists_of signs n

-- "no rule, then bodies"
unfoldable pub all_choices : ℕ → List Choice
all_choices n = no_rule ∷ map rule (all_bodies n)

-- "Claim 0's choice turns slowest"
unfoldable pub all_sets : ℕ → List (List Choice)
all_sets n = lists_of (all_choices n) n

abbrev pub body_no : ℕ → ℕ → List Sign
body_no n x = get_or (all_bodies n) x []

abbrev pub choice_no : ℕ → ℕ → Choice
choice_no n v = get_or (all_choices n) v no_rule

abbrev pub set_no : ℕ → ℕ → List Choice
set_no n k = get_or (all_sets n) k []

unfoldable pub number_from : {A : Type 0} → (A → ℕ) → ℕ → ℕ → List A → ℕ
number_from f b a [] = a
number_from f b a (x ∷ xs) = number_from f b (a * b + f x) xs

abbrev pub body_number : List Sign → ℕ
body_number ps = number_from sign_number 3 0 ps

abbrev pub choice_number : Choice → ℕ
choice_number no_rule = 0
choice_number (rule ps) = 1 + body_number ps

abbrev pub choice_count : ℕ → ℕ
choice_count n = 1 + 3 ^ n

abbrev pub set_number : ℕ → List Choice → ℕ
set_number n r = number_from choice_number (choice_count n) 0 r

abbrev pub set_count : ℕ → ℕ
set_count n = choice_count n ^ n

-- "all rule sets with at most one rule a claim": a choice for each claim, a rule's body having a sign for each claim
pub data IsChoice (n : ℕ) : Choice → Type 0 where
  none : IsChoice n no_rule
  body : (ps : List Sign) → length ps ≡ n → IsChoice n (rule ps)

pub record IsSet (n : ℕ) (r : List Choice) : Type 0 where
  pub size : length r ≡ n
  pub each : (x : Choice) → x ∈ r → IsChoice n x
