-- Bytes that hold the fields of a job mean that job. Assumes nothing.
use Prim.Native.Nat.{ℕ, suc, ◌+◌, ◌*◌, ◌-◌, ◌/◌, ◌<◌}
use mathlib.Core.Path.{◌≡◌, refl, sym, ◌∙◌, ap, ap₂}
use mathlib.Core.Bool.{Bool}
use mathlib.Core.List.Memᴰ
use mathlib.Core.List.{List, [], ◌∷◌, map}
use native.Mathlib.Omega.{arith}
use native.Mathlib.Nat.{div-eq_of_lt}
use lib.ListN.{length, length-map}
use Rattle.base.specs.Span.{span}
use Rattle.job.specs.Bytes.{word}
use Rattle.job.specs.Job.{claim_of, Rule, Job, literal_count}
use Rattle.job.specs.Format.{rule_byte, literal_byte, question_byte, body_length_at, body_start, literal_of, literal_at, question_at, rule_at, job_of}
use Rattle.job.specs.Encoding.{field_of, ◌∈◌}
use Rattle.job.specs.declared.Literal.{Literal}
use Rattle.job.specs.declared.Literal.TheVariants.{Plain, Negated}
use Rattle.job.specs.declared.Question.{Question}
use Rattle.job.proofs.Halves.{At, Small, at_append}
use Rattle.job.proofs.Encoded.{words_of, pairs, rule_fields, body_fields, question_fields, Holds}
use Rattle.job.proofs.Literals.{literal-plain, literal-negated}
use Rattle.job.proofs.Lengths.{Whole, missing-read, length-read}

-- the words ws stand in s from byte a on
abbrev pub Words : List ℕ → ℕ → List ℕ → Type 0
Words s a [] = Unit {0}
Words s a (w ∷ ws) = (word s a ≡ w) × Words s (a + 4) ws

pub words_at : (s : List ℕ) (a : ℕ) (ws : List ℕ) → Small ws → At s a (pairs (λ x. x) (λ x. x / 65536) ws) → Words s a ws
unfolding word
words_at s a [] l h = tt
words_at s a (w ∷ ws) l h =
    let e : a + 4 ≡ a + 2 + 2 = omega arith in
    (omega (arith, div-eq_of_lt l.0, h.0, h.1.0), rw e (words_at s (a + 2 + 2) ws l.1 h.1.1))

-- a literal's field gives it back
literal-field : (l : Literal) → claim_of l < 32768 → literal_of (field_of l) ≡ l
literal-field (Plain c) h = sym (literal-plain refl h)
literal-field (Negated c) h =
    let e : 32768 + c - 32768 ≡ c = omega arith in
    sym (literal-negated refl (omega arith)) ∙ ap Negated e

-- reading: a body, the rules from rule i on, the questions from question k on
body-read : (s : List ℕ) (m k : ℕ) (ls : List Literal) → At s (literal_byte m k) (map field_of ls) → ((l : Literal) → l ∈ ls → claim_of l < 32768) → span (literal_at s m) k (length ls) ≡ ls
unfolding span
body-read s m k [] h v = refl
body-read s m k (l ∷ ls) h v =
    let e : literal_byte m k + 2 ≡ literal_byte m (suc k) = omega arith in
    ap₂ ◌∷◌ (ap literal_of h.0 ∙ literal-field l (v l (Memᴰ.head refl)))
    (body-read s m (suc k) ls (rw e at h.1) (λ x t. v x (Memᴰ.tail t)))

rule_is : {a b : ℕ} {x y : List Literal} {t u : Bool} → a ≡ b → x ≡ y → t ≡ u → ◌≡◌ {A = Rule} (record { head = a; body = x; missing = t }) (record { head = b; body = y; missing = u })
rule_is e f g = rw (e, f, g)

rules-read : (s : List ℕ) (m i : ℕ) (rs : List Rule) → At s (rule_byte i) (rule_fields rs) → At s (literal_byte m (body_start s i)) (body_fields rs) → ((r : Rule) → r ∈ rs → (l : Literal) → l ∈ r.body → claim_of l < 32768) → ((r : Rule) → r ∈ rs → Whole r) → span (rule_at s m) i (length rs) ≡ rs
unfolding span rule_at body_start
rules-read s m i [] h b v a = refl
rules-read s m i (r ∷ rs) h b v a =
    let e : rule_byte i + 2 + 2 ≡ rule_byte (suc i) = omega arith in
    let w = a r (Memᴰ.head refl) in
    let n : body_length_at s i ≡ length r.body = length-read s i r w h.1.0 in
    let t = at_append s (literal_byte m (body_start s i)) (map field_of r.body) (body_fields rs) b in
    let f : literal_byte m (body_start s i) + 2 * length (map field_of r.body) ≡ literal_byte m (body_start s i + body_length_at s i) =
    omega (arith, length-map r.body field_of) in
    ap₂ ◌∷◌ (rule_is h.0 (rw n (body-read s m (body_start s i) r.body t.0 (v r (Memᴰ.head refl)))) (missing-read s i r w h.1.0))
    (rules-read s m (suc i) rs (rw e at h.1.1) (rw f at t.1) (λ x k. v x (Memᴰ.tail k)) (λ x k. a x (Memᴰ.tail k)))

question_is : {a b x y : ℕ} → a ≡ b → x ≡ y → ◌≡◌ {A = Question} (record { worker = a; claim = x }) (record { worker = b; claim = y })
question_is e f = rw (e, f)

questions-read : (s : List ℕ) (m l k : ℕ) (qs : List Question) → At s (question_byte m l k) (question_fields qs) → span (question_at s m l) k (length qs) ≡ qs
unfolding span
questions-read s m l k [] h = refl
questions-read s m l k (q ∷ qs) h =
    let e : question_byte m l k + 2 + 2 ≡ question_byte m l (suc k) = omega arith in
    ap₂ ◌∷◌ (question_is h.0 h.1.0) (questions-read s m l (suc k) qs (rw e at h.1.1))

-- and all parts
pub job_read : (s : List ℕ) (j : Job) → Small (words_of j) → ((r : Rule) → r ∈ j.rules → (l : Literal) → l ∈ r.body → claim_of l < 32768) → ((r : Rule) → r ∈ j.rules → Whole r) → Holds s j → job_of s ≡ j
unfolding job_of body_start
job_read s j l v whole p =
    let w = words_at s 0 (words_of j) l p.header in
    let a : word s 4 ≡ j.claims = w.1.0 in
    let m : word s 8 ≡ length j.rules = w.1.1.0 in
    let n : word s 12 ≡ literal_count j = w.1.1.1.0 in
    let t : word s 16 ≡ j.workers = w.1.1.1.1.0 in
    let q : word s 20 ≡ length j.questions = w.1.1.1.1.1.0 in
    rw (a, m, n, t, q, rules-read s (length j.rules) 0 j.rules p.rules p.bodies v whole, questions-read s (length j.rules) (literal_count j) 0 j.questions p.questions)
