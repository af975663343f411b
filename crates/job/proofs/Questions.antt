-- The questions of an accepted job are its last bytes. Assumes nothing.
use Prim.Native.Nat.{ℕ, ◌+◌, ◌*◌, ◌-◌}
use mathlib.Core.Path.{◌≡◌, refl, sym, ◌∙◌, ap}
use mathlib.Core.List.{List, [], ◌∷◌, ◌++◌, flat_map}
use native.Mathlib.Omega.{arith}
use lib.ListN.{length, take, drop, length-append, length-drop}
use lib.Seq.{take_all, drop_at}
use Rattle.job.specs.Bytes.{Bytes}
use Rattle.job.specs.Accepted.{WellFormed}
use Rattle.job.specs.Job.{Job, literal_count}
use Rattle.job.specs.Format.{rules, literals, question_byte, job_of}
use Rattle.job.specs.Encoding.{header_bytes, rule_bytes, body_bytes, question_bytes, encode}
use Rattle.job.specs.declared.Question.{Question}
use Rattle.job.proofs.Halves.{length-bytes}
use Rattle.job.proofs.Encoded.{fields_of, length_fields, encode-bytes}
use Rattle.job.proofs.Encoding.{well_formed_encoded}
use Rattle.job.proofs.Written.{rules_count, literals_count}

pub encode_size : (j : Job) → length (encode j) ≡ question_byte (length j.rules) (literal_count j) (length j.questions)
encode_size j = sym (ap length (encode-bytes j)) ∙ (length-bytes (fields_of j) ∙ length_fields j)

pub asks_size : (qs : List Question) → length (flat_map question_bytes qs) ≡ 4 * length qs
unfolding flat_map
asks_size [] = refl
asks_size (q ∷ qs) = omega (arith, asks_size qs)

module _ (j : Job) where
  abbrev front : List ℕ
  front = header_bytes j ++ flat_map rule_bytes j.rules ++ flat_map body_bytes j.rules

  abbrev asks : List ℕ
  asks = flat_map question_bytes j.questions

  encode-front : encode j ≡ front ++ asks
  unfolding encode
  encode-front = refl

  front_size : length front ≡ question_byte (length j.rules) (literal_count j) 0
  front_size = omega (arith, encode_size j, ap length encode-front, length-append front asks, asks_size j.questions)

asked-bytes : (job : List ℕ) → Bytes job → WellFormed job → drop (question_byte (rules job) (literals job) 0) job ≡ flat_map question_bytes (job_of job).questions
asked-bytes job b w =
    let j : Job = job_of job in
    let n : ℕ = question_byte (rules job) (literals job) 0 in
    ap (drop n) (well_formed_encoded job b w ∙ encode-front j)
    ∙ drop_at (front j) (asks j) n (omega (arith, front_size j, rules_count job, literals_count job, w.bodies))

-- the same as a slice
pub asked-part :
    (job : List ℕ) → Bytes job → WellFormed job → (m l : ℕ) → m ≡ rules job → l ≡ literals job
    → take (length job - (36 + 4 * m + 2 * l)) (drop (36 + 4 * m + 2 * l) job) ≡ flat_map question_bytes (job_of job).questions
asked-part job b w m l e f =
    let n : ℕ = 36 + 4 * m + 2 * l in
    let k : n ≡ question_byte (rules job) (literals job) 0 = omega arith in
    take_all (length job - n) (drop n job) (omega (arith, length-drop n job)) ∙ ap (λ (x : ℕ). drop x job) k ∙ asked-bytes job b w
