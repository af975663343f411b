-- The part, written: its records and literals behind room for the header, and then that. Assumes nothing.
--   put-before       a text before one that was written
--   part_encoded     the part's bytes: header, records, literals
--   records_fit, literals_fit, header-small, header-fits   there is room for each
--   part_put         all written
use Prim.Native.Nat.{ℕ, ◌+◌, ◌*◌, ◌-◌, ◌/◌, ◌≤◌}
use mathlib.Core.Path.{◌≡◌, refl, sym, ◌∙◌, ap, ap₂, subst₂}
use mathlib.Core.List.{List, [], ◌∷◌, ◌++◌, flat_map, append-nil, append_assoc}
use native.Mathlib.Omega.{arith}
use lib.ListN.{length, take, drop, length-append}
use lib.Seq.{drop_at, length-take-le}
use Rattle.job.specs.Job.{Rule, Job, body_count, literal_count}
use Rattle.job.specs.Format.{question_byte}
use Rattle.job.specs.Encoding.{half_bytes, field_of, header_bytes, rule_bytes, body_bytes, encode}
use Rattle.fields.specs.Header.{header_of}
use Rattle.fields.proofs.Heading.{header-length, header-job}
use Rattle.writing.specs.Written.{Put, wrote}
use Rattle.writing.specs.Writes.{Writes, HasRoom}
use Rattle.writing.specs.declared.writer.Writer.{Writer}
use Rattle.writing.proofs.Parted.{flat-length, flat_same}
use Rattle.writing.proofs.Wrote.{from_back, put_put, put_size, put_as}
use Rattle.parts.specs.Part.{part}
use Rattle.parts.specs.declared.claim.Section.TheVariants.{Records, Literals}
use Rattle.parts.specs.Written.{text_of, texts_of, part_of, part_texts}

-- a text of n bytes at the front, before one that stands there from n on
pub put-before :
    {buf text out h out' : List ℕ} {n r q : ℕ} → length h ≡ n → n + length text ≤ length buf → Put buf n text out r → Put out 0 h out' q
    → Put buf 0 (h ++ text) out' r
unfolding wrote
put-before {buf} {text} {out} {h} {out'} {n} {r} {q} e fits p w =
    let rest : List ℕ = drop (n + length text) buf in
    let behind : drop n out ≡ text ++ rest =
    ap (drop n) (p.bytes ∙ append_assoc (take n buf) text rest) ∙ drop_at (take n buf) (text ++ rest) n (length-take-le n buf (omega arith)) in
    let a : 0 + length h ≡ n = omega arith in
    let b : n + length text ≡ 0 + length (h ++ text) = omega (arith, length-append h text) in
    record {
      bytes =
          from_back buf out' 0 (h ++ text) refl
          (w.bytes
          ∙ ap (λ (k : ℕ). h ++ drop k out) a
          ∙ ap (λ (x : List ℕ). h ++ x) behind
          ∙ sym (append_assoc h text rest)
          ∙ ap (λ (k : ℕ). (h ++ text) ++ drop k buf) b);
      next = omega (arith, p.next);
    }

-- the lengths of the parts
records-length : (rs : List Rule) → length (texts_of Records rs) ≡ 4 * length rs
unfolding text_of
records-length rs = flat-length (text_of Records) 4 rs (λ r. refl)

body-length : (r : Rule) → length (body_bytes r) ≡ 2 * length r.body
body-length r = flat-length (λ l. half_bytes (field_of l)) 2 r.body (λ l. refl)

literals-length : (rs : List Rule) → length (texts_of Literals rs) ≡ 2 * body_count rs
unfolding flat_map text_of body_count
literals-length [] = omega arith
literals-length (r ∷ rs) = length-append (body_bytes r) (texts_of Literals rs) ∙ omega (arith, body-length r, literals-length rs)

module _ (s t place ms : List ℕ) where
  abbrev p : Job
  p = part_of s t place ms

  abbrev records : List ℕ
  records = part_texts Records s t place ms

  abbrev bodies : List ℕ
  bodies = part_texts Literals s t place ms

  pub part_encoded : encode p ≡ header_bytes p ++ (records ++ bodies)
  unfolding encode part flat_map text_of
  part_encoded =
      ap₂ (λ (x y : List ℕ). header_bytes p ++ x ++ y ++ []) (flat_same rule_bytes (text_of Records) (λ r. refl) p.rules) (flat_same body_bytes (text_of Literals) (λ r. refl) p.rules)
      ∙ append-nil ((header_bytes p ++ records) ++ bodies)
      ∙ append_assoc (header_bytes p) records bodies

  header-36 : length (header_bytes p) ≡ 36
  header-36 = ap length (sym (header-job p)) ∙ header-length _ _ _ _ _

  whole_length : length (encode p) ≡ 36 + (length records + length bodies)
  whole_length =
      ap length part_encoded
      ∙ length-append (header_bytes p) (records ++ bodies)
      ∙ ap₂ ◌+◌ header-36 (length-append records bodies)

  module _ (out : List ℕ) (fits : length (encode p) ≤ length out) where
    pub records_fit : 36 + length records ≤ length out
    records_fit = omega (arith, whole_length)

    module _ {out₁ : List ℕ} {b : ℕ} (q : Put out 36 records out₁ b) where
      pub literals_fit : b + length bodies ≤ length out₁
      literals_fit = omega (arith, whole_length, q.next, put_size out 36 records out₁ b records_fit q)

      module _ {out₂ : List ℕ} {c : ℕ} (u : Put out₁ b bodies out₂ c) where
        both : Put out 36 (records ++ bodies) out₂ c
        both = put_put out 36 records out₁ b records_fit q bodies out₂ c u

        both_fit : 36 + length (records ++ bodies) ≤ length out
        both_fit = omega (arith, whole_length, length-append records bodies)

        same : length out₂ ≡ length out
        same = put_size out 36 (records ++ bodies) out₂ c both_fit both

        rules_are : (b - 36) / 4 ≡ length p.rules
        rules_are = omega (arith, q.next, records-length p.rules)

        literals_are : (c - b) / 2 ≡ literal_count p
        literals_are = omega (arith, u.next, literals-length p.rules)

        pub header-small : question_byte ((b - 36) / 4) ((c - b) / 2) 0 ≤ length out
        header-small = omega (arith, whole_length, rules_are, literals_are, records-length p.rules, literals-length p.rules)

        -- a writer at the front of what is written so far has room for the header
        pub header-fits : (w : Writer) → w.buf.now ≡ out₂ → w.at ≡ 0 → HasRoom w 36
        header-fits w e z = omega (arith, whole_length, same, ap length e)

        header_is : header_of (length ms) ((b - 36) / 4) ((c - b) / 2) 1 0 ≡ header_bytes p
        unfolding part
        header_is = ap₂ (λ (m l : ℕ). header_of (length ms) m l 1 0) rules_are literals_are ∙ header-job p

        pub part_put :
            {w w' : Writer} → w.buf.now ≡ out₂ → w.at ≡ 0 → Writes w w' (header_of (length ms) ((b - 36) / 4) ((c - b) / 2) 1 0)
            → Put out 0 (encode p) w'.buf.now c
        part_put {w} {w'} e z h =
            let front : Put out₂ 0 (header_bytes p) w'.buf.now w'.at = subst₂ (λ x a. Put x a (header_bytes p) w'.buf.now w'.at) e z (put_as h.put header_is) in
            put_as (put-before header-36 both_fit both front) (sym part_encoded)
