-- Which bytes are a job's: the encoding of a job, written out along 01, 'Job bytes'.
--   half_bytes x, word_bytes x   16 and 32 bits, little-endian
--   length_of r                  a rule's body length as written, 65,535 for a missing record
--   field_of l                   a literal's 16 bits
--   encode j                     the bytes of job j
--   Valid j                      j is within the limits, its heads never fall, all its numbers are below their counts, and its
--                                missing records have no literals
use Rattle.std.specs.Prelude.{ℕ, ◌+◌, ◌/◌, ◌%◌, ◌<◌, ◌≤◌, ◌≡◌, true, cond, length}
use mathlib.Core.List.{List, [], ◌∷◌, ◌++◌, flat_map, Memᴰ}
use Rattle.job.specs.Job.{claim_of, Rule, Job, literal_count, most_claims, most_rules, most_literals, most_workers, most_questions, missing_length}
use Rattle.job.specs.Format.{rule_byte, literal_byte, question_byte}
use Rattle.job.specs.declared.Literal.{Literal}
use Rattle.job.specs.declared.Literal.TheVariants.{Plain, Negated}
use Rattle.job.specs.declared.Question.{Question}

-- "All fields little-endian."
abbrev pub half_bytes : ℕ → List ℕ
half_bytes x = x % 256 ∷ x / 256 % 256 ∷ []

abbrev pub word_bytes : ℕ → List ℕ
word_bytes x = half_bytes x ++ half_bytes (x / 65536)

-- "A header of nine words"
unfoldable pub header_bytes : Job → List ℕ
header_bytes j =
    let m = length j.rules in
    let l = literal_count j in
    let q = length j.questions in
    word_bytes (question_byte m l q)
    ++ word_bytes j.claims
    ++ word_bytes m
    ++ word_bytes l
    ++ word_bytes j.workers
    ++ word_bytes q
    ++ word_bytes (rule_byte 0)
    ++ word_bytes (literal_byte m 0)
    ++ word_bytes (question_byte m l 0)

-- "A rule is two 16-bit fields, head and body length"; (02, order 2) "A rule record with body length 65,535 .. makes its head missing"
unfoldable pub length_of : Rule → ℕ
length_of r = cond r.missing missing_length (length r.body)

abbrev pub rule_bytes : Rule → List ℕ
rule_bytes r = half_bytes r.head ++ half_bytes (length_of r)

-- "A literal is 16 bits: the claim, plus 32,768 if negated."
abbrev pub field_of : Literal → ℕ
field_of (Plain c) = c
field_of (Negated c) = 32768 + c

abbrev pub body_bytes : Rule → List ℕ
body_bytes r = flat_map (λ l. half_bytes (field_of l)) r.body

-- "A question is 16 bits of worker, 16 bits of claim."
abbrev pub question_bytes : Question → List ℕ
question_bytes q = half_bytes q.worker ++ half_bytes q.claim

unfoldable pub encode : Job → List ℕ
encode j =
    header_bytes j ++ flat_map rule_bytes j.rules ++ flat_map body_bytes j.rules ++ flat_map question_bytes j.questions

infix 4 ◌∈◌
abbrev pub ◌∈◌ : {A : Type 0} → A → List A → Type 0
a ∈ l = Memᴰ a l

-- "Heads never fall from rule to rule." (from a head b on)
abbrev pub Rising : ℕ → List Rule → Type 0
Rising b [] = Unit {0}
Rising b (r ∷ rs) = (b ≤ r.head) × Rising r.head rs

pub record Valid (j : Job) : Type 0 where
  pub claims_most : j.claims ≤ most_claims
  pub rules_most : length j.rules ≤ most_rules
  pub literals_most : literal_count j ≤ most_literals
  pub workers_least : 1 ≤ j.workers
  pub workers_most : j.workers ≤ most_workers
  pub questions_most : length j.questions ≤ most_questions
  pub heads_rise : Rising 0 j.rules
  pub heads : (r : Rule) → r ∈ j.rules → r.head < j.claims
  -- (02, order 2) it "has no literals"
  pub missing : (r : Rule) → r ∈ j.rules → r.missing ≡ true → r.body ≡ []
  pub literals : (r : Rule) → r ∈ j.rules → (l : Literal) → l ∈ r.body → claim_of l < j.claims
  pub askers : (q : Question) → q ∈ j.questions → q.worker < j.workers
  pub asked : (q : Question) → q ∈ j.questions → q.claim < j.claims
