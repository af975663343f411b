-- A job's bytes are those of its 16-bit fields. Assumes nothing.
--   fields_of j   the fields of job j, part by part
--   Holds s j     the fields of j stand in s, each part at its offset
use Prim.Native.Nat.{ℕ, ◌+◌, ◌*◌, ◌/◌}
use mathlib.Core.Path.{◌≡◌, refl, ◌∙◌, ap, ap₂}
use mathlib.Core.List.{List, [], ◌∷◌, ◌++◌, map, flat_map}
use native.Mathlib.Omega.{arith}
use lib.ListN.{length, length-append, length-map}
use Rattle.job.specs.Job.{Rule, Job, body_count, literal_count}
use Rattle.job.specs.Format.{rule_byte, literal_byte, question_byte}
use Rattle.job.specs.Encoding.{header_bytes, length_of, field_of, body_bytes, encode, half_bytes}
use Rattle.job.specs.declared.Literal.{Literal}
use Rattle.job.specs.declared.Question.{Question}
use Rattle.job.proofs.Halves.{At, bytes_of, at_append, append_at, bytes_append}

-- the nine words of the header
abbrev pub words_of : Job → List ℕ
words_of j =
    let m = length j.rules in
    let l = literal_count j in
    let q = length j.questions in
    question_byte m l q
    ∷ j.claims
    ∷ m
    ∷ l
    ∷ j.workers
    ∷ q
    ∷ rule_byte 0
    ∷ literal_byte m 0
    ∷ question_byte m l 0
    ∷ []

-- two fields an element
abbrev pub pairs : {A : Type 0} → (A → ℕ) → (A → ℕ) → List A → List ℕ
pairs f g [] = []
pairs f g (x ∷ xs) = f x ∷ g x ∷ pairs f g xs

abbrev pub header_fields : Job → List ℕ
header_fields j = pairs (λ x. x) (λ x. x / 65536) (words_of j)

abbrev pub rule_fields : List Rule → List ℕ
rule_fields rs = pairs (λ r. r.head) length_of rs

abbrev pub body_fields : List Rule → List ℕ
body_fields [] = []
body_fields (r ∷ rs) = map field_of r.body ++ body_fields rs

abbrev pub question_fields : List Question → List ℕ
question_fields qs = pairs (λ q. q.worker) (λ q. q.claim) qs

abbrev pub fields_of : Job → List ℕ
fields_of j = header_fields j ++ rule_fields j.rules ++ body_fields j.rules ++ question_fields j.questions

-- lengths
pub length_pairs : {A : Type 0} (f g : A → ℕ) (xs : List A) → length (pairs f g xs) ≡ 2 * length xs
length_pairs f g [] = refl
length_pairs f g (x ∷ xs) = let e = length_pairs f g xs in omega arith

pub length-bodies : (rs : List Rule) → length (body_fields rs) ≡ body_count rs
unfolding body_count
length-bodies [] = refl
length-bodies (r ∷ rs) = length-append (map field_of r.body) (body_fields rs) ∙ ap₂ ◌+◌ (length-map r.body field_of) (length-bodies rs)

-- the bytes, part by part
pairs-bytes : {A : Type 0} (f g : A → ℕ) (xs : List A) → bytes_of (pairs f g xs) ≡ flat_map (λ x. half_bytes (f x) ++ half_bytes (g x)) xs
unfolding flat_map
pairs-bytes f g [] = refl
pairs-bytes f g (x ∷ xs) = ap (λ (l : List ℕ). half_bytes (f x) ++ (half_bytes (g x) ++ l)) (pairs-bytes f g xs)

literals-bytes : (ls : List Literal) → bytes_of (map field_of ls) ≡ flat_map (λ l. half_bytes (field_of l)) ls
unfolding flat_map
literals-bytes [] = refl
literals-bytes (l ∷ ls) = ap (λ (k : List ℕ). half_bytes (field_of l) ++ k) (literals-bytes ls)

bodies-bytes : (rs : List Rule) → bytes_of (body_fields rs) ≡ flat_map body_bytes rs
unfolding flat_map
bodies-bytes [] = refl
bodies-bytes (r ∷ rs) = bytes_append (map field_of r.body) (body_fields rs) ∙ ap₂ ◌++◌ (literals-bytes r.body) (bodies-bytes rs)

header-bytes : (j : Job) → bytes_of (header_fields j) ≡ header_bytes j
unfolding header_bytes
header-bytes j = refl

pub encode-bytes : (j : Job) → bytes_of (fields_of j) ≡ encode j
unfolding encode
encode-bytes j =
    let h = header_fields j in
    let r = rule_fields j.rules in
    let b = body_fields j.rules in
    let q = question_fields j.questions in
    bytes_append (h ++ r ++ b) q
    ∙ ap₂ ◌++◌ (bytes_append (h ++ r) b ∙ ap₂ ◌++◌ (bytes_append h r ∙ ap₂ ◌++◌ (header-bytes j) (pairs-bytes _ _ j.rules)) (bodies-bytes j.rules)) (pairs-bytes _ _ j.questions)

pub record Holds (s : List ℕ) (j : Job) : Type 0 where
  pub header : At s 0 (header_fields j)
  pub rules : At s (rule_byte 0) (rule_fields j.rules)
  pub bodies : At s (literal_byte (length j.rules) 0) (body_fields j.rules)
  pub questions : At s (question_byte (length j.rules) (literal_count j) 0) (question_fields j.questions)

-- all fields from byte 0 on, or each part at its offset
module _ (j : Job) where
  to-bodies : 0 + 2 * length (header_fields j ++ rule_fields j.rules) ≡ literal_byte (length j.rules) 0
  to-bodies =
      omega (arith, length-append (header_fields j) (rule_fields j.rules), length_pairs (λ (r : Rule). r.head) length_of j.rules)

  to-questions : 0 + 2 * length (header_fields j ++ rule_fields j.rules ++ body_fields j.rules) ≡ question_byte (length j.rules) (literal_count j) 0
  to-questions =
      omega (arith, to-bodies, length-append (header_fields j ++ rule_fields j.rules) (body_fields j.rules), length-bodies j.rules)

  pub length_fields : 2 * length (fields_of j) ≡ question_byte (length j.rules) (literal_count j) (length j.questions)
  length_fields =
      omega (arith, to-questions, length-append (header_fields j ++ rule_fields j.rules ++ body_fields j.rules) (question_fields j.questions), length_pairs (λ (q : Question). q.worker) (λ (q : Question). q.claim) j.questions)

  pub at-holds : (s : List ℕ) → At s 0 (fields_of j) → Holds s j
  at-holds s h =
      let q = at_append s 0 (header_fields j ++ rule_fields j.rules ++ body_fields j.rules) (question_fields j.questions) h in
      let b = at_append s 0 (header_fields j ++ rule_fields j.rules) (body_fields j.rules) q.0 in
      let r = at_append s 0 (header_fields j) (rule_fields j.rules) b.0 in
      record {
        header = r.0;
        rules = r.1;
        bodies = rw to-bodies at b.1;
        questions = rw to-questions at q.1;
      }

  pub holds_at : (s : List ℕ) → Holds s j → At s 0 (fields_of j)
  holds_at s p =
      append_at s 0 (header_fields j ++ rule_fields j.rules ++ body_fields j.rules) (question_fields j.questions)
      (append_at s 0 (header_fields j ++ rule_fields j.rules) (body_fields j.rules)
      (append_at s 0 (header_fields j) (rule_fields j.rules) p.header p.rules)
      (rw to-bodies p.bodies))
      (rw to-questions p.questions)
