-- Rows 9 and 10 of the check table (01, 'Checks by place'), and what a table in range is.
--   each f n            the first refusal of f 0, f 1, .., f (n - 1)
--   check_room j t      row 9
--   check_words j t     row 10: the first word that is not as it should be
--   check_table j t     both
--   InRange j t         the facts of an accepted table but those of the third words, which are `NewestKept` (specs/Newest)
--                       (proofs/Ranges: accepted exactly where both hold)
use Rattle.std.specs.Prelude.{ℕ, zero, suc, ◌<◌, ◌≤◌, Bool, not, ◌&&◌, ◌||◌, List, ◌≡◌, ◌⊎◌, length, get_or}
use Rattle.base.specs.Choose.{pick}
use Rattle.base.specs.Compare.{under, over, differs}
use Rattle.base.specs.Sets.{count}
use Rattle.job.specs.Job.{Job, literals_of}
use Rattle.job.specs.Rows.{◌⨾◌, row, scan}
use Rattle.job.specs.Check.{Check}
use Rattle.job.specs.Check.{Accepted}
use Rattle.table.specs.Questions.{asked_by}
use Rattle.table.specs.Layout.{used, fixed_words, header, opened_word, opened, mark_word, cursor_word, number_word, mark, cursor, number, awaited_word, answered_word, newest_word, answer_word}
use Rattle.table.specs.Layout.{awaited, answered, kept, answer, most_value, true_mark, undefined_mark, fresh}
use Rattle.table.specs.Newest.{sought}

unfoldable pub each : (ℕ → Check) → ℕ → Check
each f zero = Accepted
each f (suc n) = f 0 ⨾ each (λ k. f (suc k)) n

-- table length | 9 | under the words used | words needed
unfoldable pub check_room : Job → List ℕ → Check
check_room j t = row (under (length t) (used j)) 9 (used j) ⨾ Accepted

-- table words | 10 | header differs, opened count not that of marks other than 0, or a word outside its range | first such word
abbrev pub bad_header : Job → List ℕ → ℕ → Bool
bad_header j t i = differs (get_or t i 0) (get_or (header j) i 0)

unfoldable pub marked : Job → List ℕ → ℕ
marked j t = count (λ c. not (fresh t c)) j.claims

-- "mark (0 fresh, w + 1 open and owned by worker w, 256 true, 257 false, 258 undefined)"
abbrev pub bad_mark : Job → ℕ → Bool
bad_mark j m = over m j.workers && (under m true_mark || over m undefined_mark)

-- "fresh claims have cursor 0; cursor at most the claim's literals"
abbrev pub bad_cursor : Job → List ℕ → ℕ → Bool
bad_cursor j t c = over (cursor t c) (pick (fresh t c) 0 (length (literals_of c j.rules)))

-- "opening number (0 if fresh, else 1 to A)"
abbrev pub bad_number : Job → List ℕ → ℕ → Bool
bad_number j t c = pick (fresh t c) (differs (number t c) 0) (under (number t c) 1 || over (number t c) j.claims)

unfoldable pub check_claim : Job → List ℕ → ℕ → Check
check_claim j t c =
    row (bad_mark j (mark t c)) 10 (mark_word c) ⨾ row (bad_cursor j t c) 10 (cursor_word c) ⨾ row (bad_number j t c) 10 (number_word c) ⨾ Accepted

-- "awaited at most A, answered at most the worker's questions"
-- (02, order 3) "10 also covers a third word that isn't what a search finds."
unfoldable pub check_worker : Job → List ℕ → ℕ → Check
check_worker j t w =
    row (over (awaited j t w) j.claims) 10 (awaited_word j w)
    ⨾ row (over (answered j t w) (length (asked_by j w))) 10 (answered_word j w)
    ⨾ row (differs (kept j t w) (sought j.claims t w)) 10 (newest_word j w)
    ⨾ Accepted

-- "Per question: 0 or its value 1 to 3."
abbrev pub bad_answer : Job → List ℕ → ℕ → Bool
bad_answer j t k = over (answer j t k) most_value

unfoldable pub check_words : Job → List ℕ → Check
check_words j t =
    scan (bad_header j t) fixed_words 10 (λ i. i)
    ⨾ row (differs (opened t) (marked j t)) 10 opened_word
    ⨾ each (check_claim j t) j.claims
    ⨾ each (check_worker j t) j.workers
    ⨾ scan (bad_answer j t) (length j.questions) 10 (answer_word j)

unfoldable pub check_table : Job → List ℕ → Check
check_table j t = check_room j t ⨾ check_words j t

pub record ClaimInRange (j : Job) (t : List ℕ) (c : ℕ) : Type 0 where
  pub mark_in : (mark t c ≤ j.workers) ⊎ ((true_mark ≤ mark t c) × (mark t c ≤ undefined_mark))
  pub unread : mark t c ≡ 0 → cursor t c ≡ 0
  pub read : cursor t c ≤ length (literals_of c j.rules)
  pub unnumbered : mark t c ≡ 0 → number t c ≡ 0
  pub numbered : (mark t c ≡ 0 → ⊥) → 1 ≤ number t c
  pub number_most : number t c ≤ j.claims

pub record InRange (j : Job) (t : List ℕ) : Type 0 where
  pub room : used j ≤ length t
  pub header_is : (i : ℕ) → i < fixed_words → get_or t i 0 ≡ get_or (header j) i 0
  pub opened_is : opened t ≡ marked j t
  pub claim : (c : ℕ) → c < j.claims → ClaimInRange j t c
  pub awaits : (w : ℕ) → w < j.workers → awaited j t w ≤ j.claims
  pub answers : (w : ℕ) → w < j.workers → answered j t w ≤ length (asked_by j w)
  pub values : (k : ℕ) → k < length j.questions → answer j t k ≤ most_value
