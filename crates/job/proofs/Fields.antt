-- A valid job's fields have 16 bits each, so that its bytes hold exactly its fields. Assumes nothing.
use Prim.Native.Nat.{ℕ, ◌/◌, ◌<◌, ◌≤◌}
use mathlib.Core.Path.{◌≡◌, refl, sym, ◌∙◌, ap}
use mathlib.Core.List.Memᴰ
use mathlib.Core.List.{List, [], ◌∷◌, ◌++◌, map}
use mathlib.Core.Logic.{⊎_elim}
use native.Mathlib.Omega.{arith}
use native.Mathlib.Nat.{div-le_self}
use lib.ListN.{length}
use Rattle.job.specs.Bytes.{Bytes}
use Rattle.job.specs.Job.{claim_of, Rule, Job, body_count, literal_count}
use Rattle.job.specs.Format.{question_byte}
use Rattle.job.specs.Encoding.{field_of, encode, ◌∈◌, Valid}
use Rattle.job.specs.declared.Literal.{Literal}
use Rattle.job.specs.declared.Literal.TheVariants.{Plain, Negated}
use Rattle.job.proofs.Halves.{Small, bytes_of, small_append, length-bytes, at-bytes, bytes_at}
use Rattle.job.proofs.Lengths.{Whole, length-small}
use Rattle.job.proofs.Encoded.{words_of, pairs, header_fields, rule_fields, body_fields, question_fields, fields_of, encode-bytes, Holds, length_fields, at-holds, holds_at}

-- part by part
small-pairs : {A : Type 0} (f g : A → ℕ) (xs : List A) → ((x : A) → x ∈ xs → (f x < 65536) × (g x < 65536)) → Small (pairs f g xs)
small-pairs f g [] h = tt
small-pairs f g (x ∷ xs) h =
    let t = h x (Memᴰ.head refl) in
    (t.0, (t.1, small-pairs f g xs (λ y m. h y (Memᴰ.tail m))))

small-words : (ws : List ℕ) → Small ws → Small (pairs (λ x. x) (λ x. x / 65536) ws)
small-words [] h = tt
small-words (w ∷ ws) h = (h.0, (omega (arith, h.0, div-le_self w 65536), small-words ws h.1))

small-field : (l : Literal) → claim_of l < 32768 → field_of l < 65536
small-field (Plain c) h = omega arith
small-field (Negated c) h = omega arith

small-body : (ls : List Literal) → ((l : Literal) → l ∈ ls → claim_of l < 32768) → Small (map field_of ls)
small-body [] h = tt
small-body (l ∷ ls) h = (small-field l (h l (Memᴰ.head refl)), small-body ls (λ k m. h k (Memᴰ.tail m)))

small-bodies : (rs : List Rule) → ((r : Rule) → r ∈ rs → (l : Literal) → l ∈ r.body → claim_of l < 32768) → Small (body_fields rs)
small-bodies [] h = tt
small-bodies (r ∷ rs) h =
    small_append (map field_of r.body) (body_fields rs) (small-body r.body (h r (Memᴰ.head refl))) (small-bodies rs (λ k m. h k (Memᴰ.tail m)))

-- one body is no longer than all
body-count : (r : Rule) (rs : List Rule) → r ∈ rs → length r.body ≤ body_count rs
unfolding body_count
body-count r [] m = absurd (Memᴰ.not-nil m)
body-count r (q ∷ rs) m =
    ⊎_elim (λ e. omega (arith, ap (λ (k : Rule). length k.body) e)) (λ t. omega (arith, body-count r rs t)) (Memᴰ.cases_cons m)

module _ (j : Job) (v : Valid j) where
  pub words_small : Small (words_of j)
  words_small = omega arith

  pub rules-whole : (r : Rule) → r ∈ j.rules → Whole r
  rules-whole r m = record { short = omega (arith, body-count r j.rules m, v.literals_most); none = λ e. ap length (v.missing r m e) }

  pub literals-small : (r : Rule) → r ∈ j.rules → (l : Literal) → l ∈ r.body → claim_of l < 32768
  literals-small r m l k = omega (arith, v.literals r m l k)

  fields-small : Small (fields_of j)
  fields-small =
      small_append (header_fields j ++ rule_fields j.rules ++ body_fields j.rules) (question_fields j.questions)
      (small_append (header_fields j ++ rule_fields j.rules) (body_fields j.rules)
      (small_append (header_fields j) (rule_fields j.rules) (small-words (words_of j) words_small)
      (small-pairs _ _ j.rules (λ r m. (omega (arith, v.heads r m), length-small r (rules-whole r m)))))
      (small-bodies j.rules literals-small))
      (small-pairs _ _ j.questions (λ q m. (omega (arith, v.askers q m), omega (arith, v.asked q m))))

  pub encode-holds : Holds (encode j) j
  encode-holds = rw (encode-bytes j) at (at-holds j (bytes_of (fields_of j)) (at-bytes (fields_of j) fields-small))

  pub encode-length : length (encode j) ≡ question_byte (length j.rules) (literal_count j) (length j.questions)
  encode-length = sym (ap length (encode-bytes j)) ∙ (length-bytes (fields_of j) ∙ length_fields j)

pub holds-encode : (s : List ℕ) (j : Job) → Bytes s → length s ≡ question_byte (length j.rules) (literal_count j) (length j.questions) → Holds s j → s ≡ encode j
holds-encode s j b l p = bytes_at s (fields_of j) b (l ∙ sym (length_fields j)) (holds_at j s p) ∙ encode-bytes j
