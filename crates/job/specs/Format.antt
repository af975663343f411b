-- What the bytes s of a job mean (01, 'Job bytes'; 02, order 2).
--   total s, claims s, ..          the nine words of the header
--   rule_byte i, ..                where rule i, literal k and question q start
--   head_at s i, length_at s i     the two fields of rule i
--   missing_at s i                 rule i is a missing record (02, order 2)
--   body_length_at s i             how many literals rule i has: a missing record has none
--   head_before s i                the head of the rule before i; 0 before the first
--   body_start s i                 the first literal of rule i, counted over all bodies
--   literal_at s m k               literal k of a job with m rules
--   question_at s m l q            question q of a job with m rules and l literals
--   job_of s                       the job
use Rattle.std.specs.Prelude.{ℕ, zero, suc, ◌+◌, ◌*◌, ◌-◌, List, Bool, cond, ltb, eqb}
use Rattle.base.specs.Span.{span}
use Rattle.job.specs.Bytes.{half, word}
use Rattle.job.specs.Job.{Rule, Job, missing_length}
use Rattle.job.specs.declared.Literal.{Literal}
use Rattle.job.specs.declared.Literal.TheVariants.{Plain, Negated}
use Rattle.job.specs.declared.Question.{Question}

-- "A header of nine words: total length, claims A, rules M, literals L, workers T, questions Q, offset of rules, offset of literals, offset of questions."
abbrev pub total : List ℕ → ℕ
total s = word s 0

abbrev pub claims : List ℕ → ℕ
claims s = word s 4

abbrev pub rules : List ℕ → ℕ
rules s = word s 8

abbrev pub literals : List ℕ → ℕ
literals s = word s 12

abbrev pub workers : List ℕ → ℕ
workers s = word s 16

abbrev pub questions : List ℕ → ℕ
questions s = word s 20

abbrev pub rules_offset : List ℕ → ℕ
rules_offset s = word s 24

abbrev pub literals_offset : List ℕ → ℕ
literals_offset s = word s 28

abbrev pub questions_offset : List ℕ → ℕ
questions_offset s = word s 32

-- "The offsets are 36, 36 + 4M and 36 + 4M + 2L; the total is 36 + 4M + 2L + 4Q."
abbrev pub rule_byte : ℕ → ℕ
rule_byte i = 36 + 4 * i

abbrev pub literal_byte : ℕ → ℕ → ℕ
literal_byte m k = 36 + 4 * m + 2 * k

abbrev pub question_byte : ℕ → ℕ → ℕ → ℕ
question_byte m l q = 36 + 4 * m + 2 * l + 4 * q

-- "A rule is two 16-bit fields, head and body length;"
abbrev pub head_at : List ℕ → ℕ → ℕ
head_at s i = half s (rule_byte i)

abbrev pub length_at : List ℕ → ℕ → ℕ
length_at s i = half s (rule_byte i + 2)

-- (02, order 2) "A rule record with body length 65,535 has no literals and makes its head missing"
unfoldable pub missing_at : List ℕ → ℕ → Bool
missing_at s i = eqb (length_at s i) missing_length

unfoldable pub body_length_at : List ℕ → ℕ → ℕ
body_length_at s i = cond (missing_at s i) 0 (length_at s i)

unfoldable pub head_before : List ℕ → ℕ → ℕ
head_before s zero = 0
head_before s (suc i) = head_at s i

-- "bodies follow each other in the literals."
unfoldable pub body_start : List ℕ → ℕ → ℕ
body_start s zero = 0
body_start s (suc i) = body_start s i + body_length_at s i

-- "A literal is 16 bits: the claim, plus 32,768 if negated."
unfoldable pub literal_of : ℕ → Literal
literal_of field = cond (ltb field 32768) (Plain field) (Negated (field - 32768))

abbrev pub literal_at : List ℕ → ℕ → ℕ → Literal
literal_at s m k = literal_of (half s (literal_byte m k))

-- "A question is 16 bits of worker, 16 bits of claim."
abbrev pub question_at : List ℕ → ℕ → ℕ → ℕ → Question
question_at s m l q = record { worker = half s (question_byte m l q); claim = half s (question_byte m l q + 2) }

unfoldable pub rule_at : List ℕ → ℕ → ℕ → Rule
rule_at s m i =
    record { head = head_at s i; body = span (literal_at s m) (body_start s i) (body_length_at s i); missing = missing_at s i }

unfoldable pub job_of : List ℕ → Job
job_of s =
    record {
      claims = claims s;
      workers = workers s;
      rules = span (rule_at s (rules s)) 0 (rules s);
      questions = span (question_at s (rules s) (literals s)) 0 (questions s);
    }
