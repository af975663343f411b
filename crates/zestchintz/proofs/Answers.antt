-- Every answer of the checks fits a code, and is read back from it. Assumes nothing.
use Prim.Native.Nat.{ℕ, zero, suc, ◌+◌, ◌*◌, ◌-◌, ◌/◌, ◌%◌, ◌<◌, ◌≤◌}
use mathlib.Core.Path.{◌≡◌, refl, sym, ◌∙◌, ap, subst}
use mathlib.Core.Bool.{Bool, true, false}
use mathlib.Core.List.{List}
use native.Mathlib.Omega.{arith}
use native.Mathlib.Decide.{ℕ_discrete}
use mathlib.Core.Logic.{by_cases}
use borrow.Author.Tests.{lt-ltb, le-ltb, eq-eqb, ne_eqb}
use lib.ListN.{length}
use Rattle.job.specs.Rows.{◌⨾◌, row, scan}
use Rattle.job.specs.Format.{claims, rules, literals, rule_byte, literal_byte, question_byte}
use Rattle.job.specs.Checks.{check_length, check_total, check_counts, check_offsets, check_heads, check_bodies, check_literals, check_questions, check_header, check_parts, check_job}
use Rattle.job.specs.Accepted.{Sized, WellFormed}
use Rattle.job.proofs.Rows.{both}
use Rattle.job.proofs.Accepted.{header-sized, well_formed}
use Rattle.job.specs.Check.{Check, Accepted, Refused}
use Rattle.job.specs.declared.Refusal.{Refusal}
use Rattle.std.specs.Prelude.{Err}
use Rattle.codes.specs.Numbers.{in_halves}
use Rattle.model.specs.Output.{check_plain}
use Rattle.zestchintz.specs.Code.{refusal_code, code_of, read_code, Told, Answered, Coded}

-- every refusal of a check can be told
Tells : Check → Type 0
Tells check = (number place : ℕ) → check ≡ Refused number place → Told number place

tells-accepted : Tells Accepted
unfolding Tells
tells-accepted number place e = let z : ◌≡◌ {A = ℕ} 0 1 = cc in absurd (omega arith)

tells_refused : (n p : ℕ) → Told n p → Tells (Refused n p)
unfolding Tells
tells_refused n p t number place e =
    let q : ◌≡◌ {A = Refusal} (record { number = n; place = p }) (record { number = number; place = place }) = cc in
    subst (λ (r : Refusal). Told r.number r.place) q t

tells_then : (x y : Check) → Tells x → (Accepted ≡ x → Tells y) → Tells (x ⨾ y)
unfolding ◌⨾◌
tells_then Accepted y a b = b refl
tells_then (Err refusal) y a b = a

tells_row : (b : Bool) (n p : ℕ) → Told n p → Tells (row b n p)
unfolding row
tells_row true n p t = tells_refused n p t
tells_row false n p t = tells-accepted

tells-scan : (bad : ℕ → Bool) (m n : ℕ) (place : ℕ → ℕ) → ((k : ℕ) → k < m → Told n (place k)) → Tells (scan bad m n place)
unfolding scan
tells-scan bad zero n place h = tells-accepted
tells-scan bad (suc m) n place h =
    tells_then _ _ (tells_row (bad 0) n (place 0) (h 0 (omega arith))) (λ e. tells-scan (λ k. bad (suc k)) m n (λ k. place (suc k)) (λ k l. h (suc k) (omega arith)))

-- a number of the table from 2 on, with a place that is no length
placed : (n p : ℕ) → 2 ≤ n → n ≤ 13 → p < 4294967296 → Told n p
placed n p a b h = record { length-fits = λ e. absurd (omega arith); number-least = omega arith; number-most = b; place-fits = λ e. h }

-- such a refusal has its code in two halves
pub told-code : (r : Refusal) → Told r.number r.place → in_halves r ≡ refusal_code r.number r.place
unfolding in_halves refusal_code
told-code r t =
    by_cases (ℕ_discrete r.number 1) (λ e. rw (eq-eqb r.number 1 e) (omega (arith, t.length-fits e)))
    (λ n. rw (ne_eqb r.number 1 n) (omega (arith, t.place-fits n, t.number-most)))

-- a code read back
read-claims : (a : ℕ) → a < 4294967296 → read_code a ≡ Accepted
unfolding read_code
read-claims a h = rw (lt-ltb a 4294967296 h)

read_refusal : (number place : ℕ) → Told number place → read_code (refusal_code number place) ≡ Refused number place
unfolding read_code refusal_code
read_refusal number place t = by_cases (ℕ_discrete number 1) first rest
  where
    first : number ≡ 1 → read_code (refusal_code number place) ≡ Refused number place
    first e =
        let long : 9223372036854775808 + place - 9223372036854775808 ≡ place = omega arith in
        rw (eq-eqb number 1 e, le-ltb (9223372036854775808 + place) 4294967296 (omega arith), le-ltb (9223372036854775808 + place) 9223372036854775808 (omega arith), long, e)

    rest : (number ≡ 1 → ⊥) → read_code (refusal_code number place) ≡ Refused number place
    rest n =
        let h : place < 4294967296 = t.place-fits n in
        let code = number * 4294967296 + place in
        let over : code / 4294967296 ≡ number = omega arith in
        let low : code % 4294967296 ≡ place = omega arith in
        rw (ne_eqb number 1 n, le-ltb code 4294967296 (omega arith), lt-ltb code 9223372036854775808 (omega arith), over, low)

module _ (s : List ℕ) (short : length s < 9223372036854775808) where
  long : Told 1 (length s)
  long = record { length-fits = λ e. short; number-least = omega arith; number-most = omega arith; place-fits = λ e. absurd (e refl) }

  tells-header : Tells (check_header s)
  unfolding check_header check_length check_total check_counts check_offsets
  tells-header =
      let at : (n p : ℕ) → 2 ≤ n → n ≤ 13 → p < 4294967296 → (b : Bool) → Tells (row b n p) = λ n p h i j b. tells_row b n p (placed n p h i j) in
      tells_then _ _ (tells_then _ _ (tells_row _ 1 (length s) long) (λ e. tells_then _ _ (tells_row _ 1 (length s) long) (λ e. tells-accepted)))
      (λ e.
      tells_then _ _ (tells_then _ _ (at 2 0 (omega arith) (omega arith) (omega arith) _) (λ e. tells-accepted))
      (λ e.
      tells_then _ _
      (tells_then _ _ (at 3 4 (omega arith) (omega arith) (omega arith) _)
      (λ e. tells_then _ _ (at 3 8 (omega arith) (omega arith) (omega arith) _)
      (λ e. tells_then _ _ (at 3 12 (omega arith) (omega arith) (omega arith) _)
      (λ e. tells_then _ _ (at 3 16 (omega arith) (omega arith) (omega arith) _)
      (λ e. tells_then _ _ (at 3 16 (omega arith) (omega arith) (omega arith) _)
      (λ e. tells_then _ _ (at 3 20 (omega arith) (omega arith) (omega arith) _) (λ e. tells-accepted)))))))
      (λ e.
      tells_then _ _ (at 4 24 (omega arith) (omega arith) (omega arith) _)
      (λ e. tells_then _ _ (at 4 28 (omega arith) (omega arith) (omega arith) _)
      (λ e. tells_then _ _ (at 4 32 (omega arith) (omega arith) (omega arith) _)
      (λ e. tells_then _ _ (at 4 0 (omega arith) (omega arith) (omega arith) _) (λ e. tells-accepted)))))))

  tells_parts : Sized s → Tells (check_parts s)
  unfolding check_parts check_heads check_bodies check_literals check_questions
  tells_parts z =
      tells_then _ _ (tells-scan _ _ 5 rule_byte (λ k l. placed 5 (rule_byte k) (omega arith) (omega arith) (omega arith)))
      (λ e.
      tells_then _ _
      (tells_then _ _ (tells-scan _ _ 6 rule_byte (λ k l. placed 6 (rule_byte k) (omega arith) (omega arith) (omega arith)))
      (λ e. tells_then _ _ (tells_row _ 6 _ (placed 6 (literal_byte (rules s) 0) (omega arith) (omega arith) (omega arith))) (λ e. tells-accepted)))
      (λ e.
      tells_then _ _ (tells-scan _ _ 7 (literal_byte (rules s)) (λ k l. placed 7 (literal_byte (rules s) k) (omega arith) (omega arith) (omega arith)))
      (λ e. tells-scan _ _ 8 (question_byte (rules s) (literals s)) (λ k l. placed 8 (question_byte (rules s) (literals s) k) (omega arith) (omega arith) (omega arith)))))

  tells-job : Tells (check_job s)
  unfolding check_job
  tells-job = tells_then _ _ tells-header (λ e. tells_parts (header-sized s e))

  tells-plain : (n : ℕ) → Tells (check_plain s n)
  unfolding check_plain
  tells-plain n =
      tells_then _ _ tells-job
      (λ e. tells_then _ _ (tells_row _ 13 _ (placed 13 (claims s) (omega arith) (omega arith) (omega (arith, (well_formed s e).sized.claims_most)))) (λ e. tells-accepted))

  answered : (check : Check) → (check ≡ Accepted → WellFormed s) → Tells check → Answered s check
  unfolding Tells
  answered check w t =
      record { header = λ e. omega (arith, (w e).sized.size); few = λ e. omega (arith, (w e).sized.claims_most); told = t }

  pub job-answered : Answered s (check_job s)
  job-answered = answered (check_job s) (λ e. well_formed s (sym e)) tells-job

  pub plain-answered : (n : ℕ) → Answered s (check_plain s n)
  unfolding check_plain
  plain-answered n = answered (check_plain s n) (λ e. well_formed s (both _ _ (sym e)).0) (tells-plain n)

-- the code of such an answer
pub coded : {s : List ℕ} {check : Check} {r : ℕ} → Answered s check → r ≡ code_of (claims s) check → Coded s check r
unfolding code_of
coded {s} {check} a e = record { code = e; back = ap read_code e ∙ reads check a }
  where
    reads : (x : Check) → Answered s x → read_code (code_of (claims s) x) ≡ x
    reads Accepted a = read-claims (claims s) (a.few refl)
    reads (Err refusal) a = read_refusal refusal.number refusal.place (a.told refusal.number refusal.place refl)

pub coded_as : {s : List ℕ} {x y : Check} {r : ℕ} → x ≡ y → Coded s x r → Coded s y r
coded_as {s} {x} {y} {r} e k = subst (λ (z : Check). Coded s z r) e k
