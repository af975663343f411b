-- Rows 1 to 8 of the check table (01, 'Checks by place'), in its order: one definition a row, and check_job for the rows together.
-- A row comes wholly before the next: any fault of row 6, the short end too, before any of row 7.
use Rattle.std.specs.Prelude.{ℕ, ◌+◌, List, Bool, ◌||◌, length}
use Rattle.base.specs.Compare.{under, over, not_below, differs}
use Rattle.job.specs.Rows.{◌⨾◌, row, scan}
use Rattle.job.specs.Job.{claim_of, most_claims, most_rules, most_literals, most_workers, most_questions}
use Rattle.job.specs.Format.{total, claims, rules, literals, workers, questions, rules_offset, literals_offset, questions_offset, rule_byte, literal_byte, question_byte, head_at, body_length_at, head_before, body_start, literal_at, question_at}
use Rattle.job.specs.Check.{Check}
use Rattle.job.specs.Check.{Accepted}

-- job length | 1 | under 36 or over 61,476 | the length
unfoldable pub check_length : List ℕ → Check
check_length s = row (under (length s) 36) 1 (length s) ⨾ row (over (length s) 61476) 1 (length s) ⨾ Accepted

-- header, total | 2 | not the length | 0
unfoldable pub check_total : List ℕ → Check
check_total s = row (differs (total s) (length s)) 2 0 ⨾ Accepted

-- header, counts | 3 | over its limit, or T is 0 | first bad word's byte
unfoldable pub check_counts : List ℕ → Check
check_counts s =
    row (over (claims s) most_claims) 3 4
    ⨾ row (over (rules s) most_rules) 3 8
    ⨾ row (over (literals s) most_literals) 3 12
    ⨾ row (under (workers s) 1) 3 16
    ⨾ row (over (workers s) most_workers) 3 16
    ⨾ row (over (questions s) most_questions) 3 20
    ⨾ Accepted

-- header, offsets | 4 | not the fixed sum (total last, place 0) | first bad word's byte
unfoldable pub check_offsets : List ℕ → Check
check_offsets s =
    row (differs (rules_offset s) (rule_byte 0)) 4 24
    ⨾ row (differs (literals_offset s) (literal_byte (rules s) 0)) 4 28
    ⨾ row (differs (questions_offset s) (question_byte (rules s) (literals s) 0)) 4 32
    ⨾ row (differs (total s) (question_byte (rules s) (literals s) (questions s))) 4 0
    ⨾ Accepted

-- rules, heads | 5 | head not below A, or falls | rule's byte
abbrev pub bad_head : List ℕ → ℕ → Bool
bad_head s i = not_below (head_at s i) (claims s) || under (head_at s i) (head_before s i)

unfoldable pub check_heads : List ℕ → Check
check_heads s = scan (bad_head s) (rules s) 5 rule_byte

-- rules, bodies | 6 | lengths pass L, or end short of it | rule's byte, or offset of literals
abbrev pub long_body : List ℕ → ℕ → Bool
long_body s i = over (body_start s i + body_length_at s i) (literals s)

unfoldable pub check_bodies : List ℕ → Check
check_bodies s =
    scan (long_body s) (rules s) 6 rule_byte ⨾ row (under (body_start s (rules s)) (literals s)) 6 (literal_byte (rules s) 0) ⨾ Accepted

-- literals | 7 | claim not below A | literal's byte
abbrev pub bad_literal : List ℕ → ℕ → Bool
bad_literal s k = not_below (claim_of (literal_at s (rules s) k)) (claims s)

unfoldable pub check_literals : List ℕ → Check
check_literals s = scan (bad_literal s) (literals s) 7 (literal_byte (rules s))

-- questions | 8 | worker not below T, or claim not below A | question's byte
abbrev pub bad_question : List ℕ → ℕ → Bool
bad_question s q =
    not_below (question_at s (rules s) (literals s) q).worker (workers s) || not_below (question_at s (rules s) (literals s) q).claim (claims s)

unfoldable pub check_questions : List ℕ → Check
check_questions s = scan (bad_question s) (questions s) 8 (question_byte (rules s) (literals s))

-- the rows of the header, and those of rules, literals and questions
unfoldable pub check_header : List ℕ → Check
check_header s = check_length s ⨾ check_total s ⨾ check_counts s ⨾ check_offsets s

unfoldable pub check_parts : List ℕ → Check
check_parts s = check_heads s ⨾ check_bodies s ⨾ check_literals s ⨾ check_questions s

unfoldable pub check_job : List ℕ → Check
check_job s = check_header s ⨾ check_parts s
