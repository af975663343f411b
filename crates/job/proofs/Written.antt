-- Well-formed bytes hold the fields of the job that they mean. Assumes nothing.
use Prim.Native.Nat.{ℕ, zero, suc, ◌+◌, ◌*◌, ◌-◌, ◌/◌}
use mathlib.Core.Path.{◌≡◌, refl, sym, ◌∙◌, ap}
use mathlib.Core.List.{List, [], ◌∷◌, map}
use mathlib.Core.Logic.{by_cases}
use native.Mathlib.Decide.{dec_lt}
use native.Mathlib.Omega.{arith}
use native.Mathlib.Nat.{zero-add, add-zero, div-eq_of_lt}
use lib.ListN.{length, length-map}
use Rattle.base.specs.Span.{span}
use Rattle.base.proofs.Span.{length-span}
use Rattle.job.specs.Bytes.{half, word}
use Rattle.job.specs.Job.{body_count, literal_count}
use Rattle.job.specs.Format.{rule_byte, literal_byte, question_byte, rules, literals, questions, body_length_at, body_start, literal_of, literal_at, question_at, rule_at, job_of}
use Rattle.job.specs.Accepted.{Sized, WellFormed}
use Rattle.job.specs.Encoding.{field_of}
use Rattle.job.proofs.Halves.{At, Small, append_at}
use Rattle.job.proofs.Encoded.{words_of, pairs, rule_fields, body_fields, question_fields, Holds}
use Rattle.job.proofs.Literals.{literal-plain, literal-negated}
use Rattle.job.proofs.Lengths.{length-written}
use Rattle.job.proofs.Decoded.{Words}

-- words that have 16 bits, as fields
at_words : (s : List ℕ) (a : ℕ) (ws : List ℕ) → Small ws → Words s a ws → At s a (pairs (λ x. x) (λ x. x / 65536) ws)
unfolding word
at_words s a [] l h = tt
at_words s a (w ∷ ws) l h =
    let e : a + 2 + 2 ≡ a + 4 = omega arith in
    (omega (arith, l.0, h.0), (omega (arith, div-eq_of_lt l.0, l.0, h.0), rw e (at_words s (a + 4) ws l.1 h.1)))

-- a field's literal gives it back
pub field-literal : (x : ℕ) → field_of (literal_of x) ≡ x
field-literal x =
    by_cases (dec_lt x 32768) (λ h. ap field_of (sym (literal-plain refl h))) (λ h.
    let e : 32768 + (x - 32768) ≡ x = omega arith in
    ap field_of (sym (literal-negated refl (omega arith))) ∙ e)

-- writing: a body, rules from rule i on, questions from question k on
body_write : (s : List ℕ) (m k n : ℕ) → At s (literal_byte m k) (map field_of (span (literal_at s m) k n))
unfolding span
body_write s m k zero = tt
body_write s m k (suc n) =
    let e : literal_byte m k + 2 ≡ literal_byte m (suc k) = omega arith in
    (sym (field-literal (half s (literal_byte m k))), rw e (body_write s m (suc k) n))

rules_write : (s : List ℕ) (m i n : ℕ) → At s (rule_byte i) (rule_fields (span (rule_at s m) i n))
unfolding span rule_at
rules_write s m i zero = tt
rules_write s m i (suc n) =
    let e : rule_byte i + 2 + 2 ≡ rule_byte (suc i) = omega arith in
    (refl, (length-written s i _ _ (length-span (literal_at s m) (body_start s i) (body_length_at s i)), rw e (rules_write s m (suc i) n)))

bodies_write : (s : List ℕ) (m i n : ℕ) → At s (literal_byte m (body_start s i)) (body_fields (span (rule_at s m) i n))
unfolding span rule_at body_start
bodies_write s m i zero = tt
bodies_write s m i (suc n) =
    let b = span (literal_at s m) (body_start s i) (body_length_at s i) in
    let e : literal_byte m (body_start s i) + 2 * length (map field_of b) ≡ literal_byte m (body_start s i + body_length_at s i) =
    omega (arith, length-map b field_of, length-span (literal_at s m) (body_start s i) (body_length_at s i)) in
    append_at s (literal_byte m (body_start s i)) (map field_of b) (body_fields (span (rule_at s m) (suc i) n)) (body_write s m (body_start s i) (body_length_at s i))
    (rw e (bodies_write s m (suc i) n))

questions_write : (s : List ℕ) (m l k n : ℕ) → At s (question_byte m l k) (question_fields (span (question_at s m l) k n))
unfolding span
questions_write s m l k zero = tt
questions_write s m l k (suc n) =
    let e : question_byte m l k + 2 + 2 ≡ question_byte m l (suc k) = omega arith in
    (refl, (refl, rw e (questions_write s m l (suc k) n)))

-- the counts of what the bytes mean
pub rules_count : (s : List ℕ) → length (job_of s).rules ≡ rules s
unfolding job_of
rules_count s = length-span (rule_at s (rules s)) 0 (rules s)

pub questions_count : (s : List ℕ) → length (job_of s).questions ≡ questions s
unfolding job_of
questions_count s = length-span (question_at s (rules s) (literals s)) 0 (questions s)

bodies_count : (s : List ℕ) (m i n : ℕ) → body_start s i + body_count (span (rule_at s m) i n) ≡ body_start s (i + n)
unfolding span rule_at body_start body_count
bodies_count s m i zero = rw (add-zero (body_start s i), add-zero i)
bodies_count s m i (suc n) =
    let e : suc i + n ≡ i + suc n = omega arith in
    rw (← e) (omega (arith, bodies_count s m (suc i) n, length-span (literal_at s m) (body_start s i) (body_length_at s i)))

pub literals_count : (s : List ℕ) → literal_count (job_of s) ≡ body_start s (rules s)
unfolding job_of body_start
literals_count s = let e : 0 + rules s ≡ rules s = omega arith in sym (zero-add _) ∙ (bodies_count s (rules s) 0 (rules s) ∙ ap (body_start s) e)

-- and all parts
pub job_write : (s : List ℕ) → WellFormed s → Small (words_of (job_of s)) → Holds s (job_of s)
unfolding body_start job_of
job_write s w l =
    let z : Sized s = w.sized in
    let m = rules_count s in
    let q = questions_count s in
    let n : literal_count (job_of s) ≡ literals s = literals_count s ∙ w.bodies in
    record {
      header = at_words s 0 (words_of (job_of s)) l (omega arith);
      rules = rules_write s (rules s) 0 (rules s);
      bodies = rw m (bodies_write s (rules s) 0 (rules s));
      questions = rw (m, n) (questions_write s (rules s) (literals s) 0 (questions s));
    }
