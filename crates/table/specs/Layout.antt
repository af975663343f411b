-- The words t of a table of job j (01, 'Table words'). Where each word stands is said here and in src/words.rt, and nowhere else.
--   opened_word           the place of the header's last word; fixed_words   how many words stand before it, which never change
--   claims_from           where the words of claims start; mark_word c, cursor_word c, number_word c   where those of claim c stand
--   workers_from a        where the words of a claims end, and those of workers start
--   awaited_at a w, answered_at a w, newest_at a w   where the words of worker w stand, in a table for a claims
--   answers_from a t      where the words of a claims and t workers end, and those of questions start
--   answer_at a t k       where the word of question k stands, in such a table
--   awaited_word j w, ..  the same places in a table of job j
--   Place i               i is small enough to be a word's place in a slice
--   most_words            words enough for the table of every job
--   used j                words used; header j   the first seven words
--   mark t c, ..          what each word holds; opened t   claims opened so far; kept j t w   w's newest open claim + 1, or 0, as the table has it
--   true_mark, ..         the marks of complete claims: value_base and a value, which is 1 to most_value
--   fresh, complete, owned   a claim's state, by its mark. Open: an incomplete table entry; complete: a completed one
--   value_of m            the value that a mark shows: 1 to 3, or 0 where the claim is not complete
--   mark_of_value v       the mark of a value; mark_of v   the mark of a verdict
--   values j t            a value a claim
use Rattle.std.specs.Prelude.{ℕ, ◌+◌, ◌*◌, ◌-◌, ◌<◌, Bool, List, [], ◌∷◌, leb, eqb, length, get_or}
use Rattle.base.specs.Span.{span}
use Rattle.job.specs.Job.{Job, most_claims, most_workers, most_questions}
use Rattle.semantics.specs.Model.{Verdict, byte_of}

-- "A header of eight words: words used; A; T; Q; offsets 8, 8 + 3A, ..; claims opened so far." (02, order 3) "with the last offset 8 + 3A + 3T"
abbrev pub opened_word : ℕ
opened_word = 7

abbrev pub fixed_words : ℕ
fixed_words = opened_word

abbrev pub claims_from : ℕ
claims_from = 8

-- "Per claim: mark, cursor, opening number."
abbrev pub mark_word : ℕ → ℕ
mark_word c = 8 + 3 * c

abbrev pub cursor_word : ℕ → ℕ
cursor_word c = 9 + 3 * c

abbrev pub number_word : ℕ → ℕ
number_word c = 10 + 3 * c

abbrev pub workers_from : ℕ → ℕ
workers_from a = mark_word a

-- "Per worker: awaited claim + 1 or 0; questions answered." (02, order 3) "a third word: its newest open claim + 1, or 0"
abbrev pub awaited_at : ℕ → ℕ → ℕ
awaited_at a w = workers_from a + 3 * w

abbrev pub answered_at : ℕ → ℕ → ℕ
answered_at a w = awaited_at a w + 1

abbrev pub newest_at : ℕ → ℕ → ℕ
newest_at a w = awaited_at a w + 2

abbrev pub answers_from : ℕ → ℕ → ℕ
answers_from a t = awaited_at a t

-- "Per question: 0 or its value 1 to 3."
abbrev pub answer_at : ℕ → ℕ → ℕ → ℕ
answer_at a t k = answers_from a t + k

abbrev pub Place : ℕ → Type 0
Place i = i < 18446744073709551616

abbrev pub awaited_word : Job → ℕ → ℕ
awaited_word j w = awaited_at j.claims w

abbrev pub answered_word : Job → ℕ → ℕ
answered_word j w = answered_at j.claims w

abbrev pub newest_word : Job → ℕ → ℕ
newest_word j w = newest_at j.claims w

abbrev pub answer_word : Job → ℕ → ℕ
answer_word j k = answer_at j.claims j.workers k

-- (02, order 3) "Words used become 8 + 3A + 3T + Q"
abbrev pub used : Job → ℕ
used j = answer_word j (length j.questions)

-- words enough for the table of every job
abbrev pub most_words : ℕ
most_words = answer_at most_claims most_workers most_questions

unfoldable pub header : Job → List ℕ
header j =
    used j ∷ j.claims ∷ j.workers ∷ length j.questions ∷ claims_from ∷ workers_from j.claims ∷ answers_from j.claims j.workers ∷ []

abbrev pub opened : List ℕ → ℕ
opened t = get_or t opened_word 0

abbrev pub mark : List ℕ → ℕ → ℕ
mark t c = get_or t (mark_word c) 0

abbrev pub cursor : List ℕ → ℕ → ℕ
cursor t c = get_or t (cursor_word c) 0

abbrev pub number : List ℕ → ℕ → ℕ
number t c = get_or t (number_word c) 0

abbrev pub awaited : Job → List ℕ → ℕ → ℕ
awaited j t w = get_or t (awaited_word j w) 0

abbrev pub answered : Job → List ℕ → ℕ → ℕ
answered j t w = get_or t (answered_word j w) 0

abbrev pub kept : Job → List ℕ → ℕ → ℕ
kept j t w = get_or t (newest_word j w) 0

abbrev pub answer : Job → List ℕ → ℕ → ℕ
answer j t k = get_or t (answer_word j k) 0

-- "mark (0 fresh, w + 1 open and owned by worker w, 256 true, 257 false, 258 undefined)"
abbrev pub value_base : ℕ
value_base = 255

abbrev pub most_value : ℕ
most_value = 3

abbrev pub true_mark : ℕ
true_mark = 256

abbrev pub false_mark : ℕ
false_mark = 257

abbrev pub undefined_mark : ℕ
undefined_mark = 258

abbrev pub fresh : List ℕ → ℕ → Bool
fresh t c = eqb (mark t c) 0

abbrev pub owned : List ℕ → ℕ → ℕ → Bool
owned t w c = eqb (mark t c) (w + 1)

abbrev pub complete : List ℕ → ℕ → Bool
complete t c = leb true_mark (mark t c)

abbrev pub value_of : ℕ → ℕ
value_of m = m - value_base

abbrev pub mark_of_value : ℕ → ℕ
mark_of_value v = value_base + v

abbrev pub mark_of : Verdict → ℕ
mark_of v = mark_of_value (byte_of v)

unfoldable pub values : Job → List ℕ → List ℕ
values j t = span (λ c. value_of (mark t c)) 0 j.claims
