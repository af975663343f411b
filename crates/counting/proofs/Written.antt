-- The job of a set, written part by part. Assumes nothing.
--   Counting m most size c n   n counts what claims before c have, by m
--   sign-length, rule-length   what one claim adds to the counts
--   literal_none, literal-some, record_none, record-some, chosen_none, chosen-some   what one claim writes, by numbers
--   sign-named, choice-named   a sign and a choice, by the number that was read
--   literals_flat, records_flat, bodies_flat, questions_flat   all that is written, claim by claim
--   set-written                header, records, literals and questions are the set's job
use Prim.Native.Nat.{ℕ, zero, suc, ◌+◌, ◌-◌, ◌*◌, ◌^◌, ◌<◌, ◌≤◌}
use mathlib.Core.Path.{◌≡◌, refl, sym, ◌∙◌, ap, ap₂}
use mathlib.Core.List.{List, [], ◌∷◌, ◌++◌, flat_map, append-nil}
use native.Mathlib.Omega.{arith}
use lib.Dec.{eqb}
use mathlib.Core.Bool.{Bool, not}
use borrow.Author.Tests.{ne_eqb}
use Rattle.std.specs.Int.{from_bool}
use lib.ListN.{length, get_or, length-append, length-map}
use Rattle.base.specs.Lists.{upto}
use Rattle.job.specs.Job.{Rule, body_count}
use Rattle.job.specs.Encoding.{half_bytes, header_bytes, length_of, rule_bytes, body_bytes, question_bytes, encode}
use Rattle.fields.specs.Header.{header_of}
use Rattle.fields.proofs.Heading.{header-job, header-length}
use Rattle.writing.specs.Writes.{Writes, HasRoom}
use Rattle.writing.specs.declared.writer.Writer.{Writer}
use Rattle.writing.proofs.Writing.{writes_as, writes-room, writes-writes, Along, along-start, along-room, along_more, along_end}
use Rattle.writing.proofs.Parted.{flat-length, flat_same, flat-map, flat_flat}
use Rattle.rulesets.specs.Sets.{Sign, absent, plain, negated, signs, sign_number, Choice, no_rule, rule, body_no, choice_no, set_no, choice_number, choice_count, set_count}
use Rattle.rulesets.specs.Jobs.{signed, body_literals, chosen_rule, chosen_literals, set_rules, asks, every_claim, job_of_set}
use Rattle.rulesets.proofs.Listed.{is_set, set_in, set_size, body_size, choice_none, choice-rule, choice-number, choice-in}
use Rattle.counting.specs.Written.{literal_half}
use Rattle.rulesets.proofs.SetJobs.{upto_at, upto-length, rules-few, literals-few}

-- what claim c adds, by set k and by body x
abbrev pub sign_at : ℕ → ℕ → ℕ → Sign
sign_at n x c = get_or (body_no n x) c absent

abbrev pub choice_in : ℕ → ℕ → ℕ → Choice
choice_in n k c = get_or (set_no n k) c no_rule

-- counts
pub record Counting (m : ℕ → ℕ) (most size c n : ℕ) : Type 0 where
  pub within : c ≤ size
  pub is : n ≡ m c
  pub low : n ≤ most * c

module _ (m : ℕ → ℕ) (most size : ℕ) where
  pub counting-start : m 0 ≡ 0 → Counting m most size 0 0
  counting-start e = record { within = omega arith; is = sym e; low = omega arith }

  pub counting_more : {c n r d : ℕ} → Counting m most size c n → c < size → r ≡ d → m (c + 1) ≡ m c + d → d ≤ most → Counting m most size (c + 1) (n + r)
  counting_more {c} {n} {r} {d} k h e f l =
      let z : most * (c + 1) ≡ most * c + most = omega arith in
      record { within = omega arith; is = omega (arith, k.is, e, f); low = omega (arith, k.low, z) }

  pub counting_done : {c n : ℕ} → Counting m most size c n → size ≤ c → n ≡ m size
  counting_done k h = k.is ∙ ap m (omega (arith, k.within))

abbrev pub signs_before : ℕ → ℕ → ℕ → ℕ
signs_before n x c = length (flat_map (λ i. signed i (sign_at n x i)) (upto c))

abbrev pub rules_before : ℕ → ℕ → ℕ → ℕ
rules_before n k c = length (flat_map (λ i. chosen_rule i (choice_in n k i)) (upto c))

abbrev pub bodies_before : ℕ → ℕ → ℕ → ℕ
bodies_before n k c = body_count (flat_map (λ i. chosen_rule i (choice_in n k i)) (upto c))

pub sign-length : (c : ℕ) (x : Sign) {p r : ℕ} → p ≡ sign_number x → r ≡ from_bool (not (eqb p 0)) → r ≡ length (signed c x)
sign-length c absent e q = q ∙ ap (λ (p : ℕ). from_bool (not (eqb p 0))) e
sign-length c plain e q = q ∙ ap (λ (p : ℕ). from_bool (not (eqb p 0))) e
sign-length c negated e q = q ∙ ap (λ (p : ℕ). from_bool (not (eqb p 0))) e

pub rule-length : (c : ℕ) (x : Choice) {v r : ℕ} → v ≡ choice_number x → r ≡ from_bool (not (eqb v 0)) → r ≡ length (chosen_rule c x)
rule-length c no_rule e q = q ∙ ap (λ (v : ℕ). from_bool (not (eqb v 0))) e
rule-length c (rule ps) e q = q ∙ ap (λ (b : Bool). from_bool (not b)) (ne_eqb _ 0 (λ z. omega (arith, e, z)))

-- a sign and a choice by the number that was read
pub sign-named : (x : Sign) {p : ℕ} → p ≡ sign_number x → get_or signs p absent ≡ x
sign-named absent e = ap (λ (p : ℕ). get_or signs p absent) e
sign-named plain e = ap (λ (p : ℕ). get_or signs p absent) e
sign-named negated e = ap (λ (p : ℕ). get_or signs p absent) e

pub choice-named : (n k c : ℕ) → k < set_count n → c < n → {v : ℕ} → v ≡ choice_number (choice_in n k c) → choice_no n v ≡ choice_in n k c
choice-named n k c low h e = ap (choice_no n) e ∙ (choice-number n (choice_in n k c) (choice-in n k low c h)).1

-- what one claim writes
module _ (c : ℕ) where
  pub literal_none : (p : ℕ) → p ≡ 0 → flat_map literal_half (signed c (get_or signs p absent)) ≡ []
  unfolding flat_map
  literal_none p e = ap (λ (q : ℕ). flat_map literal_half (signed c (get_or signs q absent))) e

  pub literal-some : (p : ℕ) → (p ≡ 0 → ⊥) → p < 3 → flat_map literal_half (signed c (get_or signs p absent)) ≡ half_bytes ((p - 1) * 32768 + c)
  unfolding flat_map
  literal-some zero n h = absurd (n refl)
  literal-some (suc zero) n h = let e : c ≡ (1 - 1) * 32768 + c = omega arith in ap half_bytes e
  literal-some (suc (suc zero)) n h = let e : 32768 + c ≡ (2 - 1) * 32768 + c = omega arith in ap half_bytes e
  literal-some (suc (suc (suc p))) n h = absurd (omega arith)

module _ (n v : ℕ) where
  pub record_none : (c : ℕ) → v ≡ 0 → flat_map rule_bytes (chosen_rule c (choice_no n v)) ≡ []
  unfolding flat_map
  record_none c e = ap (λ (w : ℕ). flat_map rule_bytes (chosen_rule c (choice_no n w))) e ∙ ap (λ (x : Choice). flat_map rule_bytes (chosen_rule c x)) (choice_none n)

  pub chosen_none : v ≡ 0 → chosen_literals (choice_no n v) ≡ []
  chosen_none e = ap (λ (w : ℕ). chosen_literals (choice_no n w)) e ∙ ap chosen_literals (choice_none n)

  module _ (some : v ≡ 0 → ⊥) (low : v < choice_count n) where
    named : choice_no n v ≡ rule (body_no n (v - 1))
    named = choice-rule n v (omega (arith, some)) low

    pub chosen-some : chosen_literals (choice_no n v) ≡ body_literals (body_no n (v - 1))
    chosen-some = ap chosen_literals named

    pub record-some : (c : ℕ) → flat_map rule_bytes (chosen_rule c (choice_no n v)) ≡ half_bytes c ++ half_bytes (length (body_literals (body_no n (v - 1))))
    unfolding flat_map length_of
    record-some c = ap (λ (x : Choice). flat_map rule_bytes (chosen_rule c x)) named

-- all that is written, claim by claim
pub literals_flat : (n x : ℕ) → x < 3 ^ n → flat_map literal_half (body_literals (body_no n x)) ≡ flat_map (λ c. flat_map literal_half (signed c (sign_at n x c))) (upto n)
literals_flat n x h =
    flat_flat literal_half (λ c. signed c (sign_at n x c)) (upto (length (body_no n x)))
    ∙ ap (λ (m : ℕ). flat_map (λ c. flat_map literal_half (signed c (sign_at n x c))) (upto m)) (body_size n x h)

pub literals-before : (n x : ℕ) → x < 3 ^ n → length (body_literals (body_no n x)) ≡ signs_before n x n
literals-before n x h = ap (signs_before n x) (body_size n x h)

module _ (n k : ℕ) (low : k < set_count n) where
  pub records_flat : flat_map rule_bytes (set_rules (set_no n k)) ≡ flat_map (λ c. flat_map rule_bytes (chosen_rule c (choice_in n k c))) (upto n)
  records_flat =
      flat_flat rule_bytes (λ c. chosen_rule c (choice_in n k c)) (upto (length (set_no n k)))
      ∙ ap (λ (m : ℕ). flat_map (λ c. flat_map rule_bytes (chosen_rule c (choice_in n k c))) (upto m)) (set_size n k low)

  chosen-bytes : (c : ℕ) (x : Choice) → flat_map body_bytes (chosen_rule c x) ≡ flat_map literal_half (chosen_literals x)
  unfolding flat_map
  chosen-bytes c no_rule = refl
  chosen-bytes c (rule ps) = append-nil (flat_map literal_half (body_literals ps))

  pub bodies_flat : flat_map body_bytes (set_rules (set_no n k)) ≡ flat_map (λ c. flat_map literal_half (chosen_literals (choice_in n k c))) (upto n)
  bodies_flat =
      flat_flat body_bytes (λ c. chosen_rule c (choice_in n k c)) (upto (length (set_no n k)))
      ∙ flat_same (λ c. flat_map body_bytes (chosen_rule c (choice_in n k c))) (λ c. flat_map literal_half (chosen_literals (choice_in n k c))) (λ c. chosen-bytes c (choice_in n k c)) (upto (length (set_no n k)))
      ∙ ap (λ (m : ℕ). flat_map (λ c. flat_map literal_half (chosen_literals (choice_in n k c))) (upto m)) (set_size n k low)

  pub rules-before : length (set_rules (set_no n k)) ≡ rules_before n k n
  rules-before = ap (rules_before n k) (set_size n k low)

  pub bodies-before : body_count (set_rules (set_no n k)) ≡ bodies_before n k n
  bodies-before = ap (bodies_before n k) (set_size n k low)

pub questions_flat : (n : ℕ) → flat_map question_bytes (every_claim n) ≡ flat_map (λ c. half_bytes 0 ++ half_bytes c) (upto n)
questions_flat n = flat-map question_bytes asks (upto n)

-- the whole job
literals-long : (rs : List Rule) → length (flat_map body_bytes rs) ≡ 2 * body_count rs
unfolding flat_map body_count
literals-long [] = refl
literals-long (r ∷ rs) =
    length-append (body_bytes r) (flat_map body_bytes rs)
    ∙ omega (arith, flat-length literal_half 2 r.body (λ l. refl), literals-long rs)

module _ (n k : ℕ) (few : n ≤ 3) (low : k < set_count n) where
  abbrev r : List Choice
  r = set_no n k

  pub rules-low : length (set_rules (set_no n k)) ≤ 3
  rules-low = rules-few n few r (is_set n r (set_in n k low))

  pub literals-low : body_count (set_rules (set_no n k)) ≤ 9
  literals-low = literals-few n few r (is_set n r (set_in n k low))

  pub records-long : length (flat_map rule_bytes (set_rules (set_no n k))) ≤ 12
  records-long = omega (arith, flat-length rule_bytes 4 (set_rules r) (λ x. refl), rules-low)

  pub bodies-long : length (flat_map body_bytes (set_rules (set_no n k))) ≤ 18
  bodies-long = omega (arith, literals-long (set_rules r), literals-low)

  pub questions-long : length (flat_map question_bytes (every_claim n)) ≤ 12
  questions-long = omega (arith, ap length (questions_flat n), flat-length (λ (c : ℕ). half_bytes 0 ++ half_bytes c) 4 (upto n) (λ c. refl), upto-length n)

  module _ {m l : ℕ} (is_m : m ≡ length (set_rules (set_no n k))) (is_l : l ≡ body_count (set_rules (set_no n k))) where
    asked : length (every_claim (length r)) ≡ n
    asked = length-map (upto (length r)) asks ∙ upto-length (length r) ∙ set_size n k low

    header_is : header_of n m l 1 n ≡ header_bytes (job_of_set (set_no n k))
    unfolding job_of_set
    header_is =
        ap₂ (λ (x y : ℕ). header_of n x y 1 n) is_m is_l
        ∙ ap₂ (λ (x y : ℕ). header_of x (length (set_rules r)) (body_count (set_rules r)) 1 y) (sym (set_size n k low)) (sym asked)
        ∙ header-job (job_of_set (set_no n k))

    whole : header_bytes (job_of_set r) ++ flat_map rule_bytes (set_rules r) ++ flat_map body_bytes (set_rules r) ++ flat_map question_bytes (every_claim n) ≡ encode (job_of_set r)
    unfolding encode job_of_set
    whole = ap (λ (x : ℕ). header_bytes (job_of_set r) ++ flat_map rule_bytes (set_rules r) ++ flat_map body_bytes (set_rules r) ++ flat_map question_bytes (every_claim x)) (sym (set_size n k low))

    abbrev head : List ℕ
    head = header_of n m l 1 n

    abbrev records : List ℕ
    records = flat_map rule_bytes (set_rules (set_no n k))

    abbrev bodies : List ℕ
    bodies = flat_map body_bytes (set_rules (set_no n k))

    abbrev questions : List ℕ
    questions = flat_map question_bytes (every_claim n)

    head-long : length head ≡ 36
    head-long = header-length n m l 1 n

    two-long : length (head ++ records) ≤ 48
    two-long = omega (arith, length-append head records, head-long, records-long)

    three-long : length ((head ++ records) ++ bodies) ≤ 66
    three-long = omega (arith, length-append (head ++ records) bodies, two-long, bodies-long)

    -- w₁ to w₄ are the writer after each part
    module _ {w w₁ : Writer} (room : HasRoom w 78) (p : Writes w w₁ (header_of n m l 1 n)) where
      pub room₁ : HasRoom w₁ (length (flat_map rule_bytes (set_rules (set_no n k))))
      room₁ = writes-room w w₁ head (omega (arith, head-long)) p _ (omega (arith, head-long, records-long))

      module _ {w₂ : Writer} (q : Writes w₁ w₂ (flat_map rule_bytes (set_rules (set_no n k)))) where
        two : Writes w w₂ (head ++ records)
        two = writes-writes w w₁ head (omega (arith, head-long)) p w₂ records q

        pub room₂ : HasRoom w₂ (length (flat_map body_bytes (set_rules (set_no n k))))
        room₂ = writes-room w w₂ (head ++ records) (omega (arith, two-long)) two _ (omega (arith, two-long, bodies-long))

        module _ {w₃ : Writer} (s : Writes w₂ w₃ (flat_map body_bytes (set_rules (set_no n k)))) where
          three : Writes w w₃ ((head ++ records) ++ bodies)
          three = writes-writes w w₂ (head ++ records) (omega (arith, two-long)) two w₃ bodies s

          pub room₃ : HasRoom w₃ (length (flat_map question_bytes (every_claim n)))
          room₃ = writes-room w w₃ ((head ++ records) ++ bodies) (omega (arith, three-long)) three _ (omega (arith, three-long, questions-long))

          pub set-written : {w₄ : Writer} → Writes w₃ w₄ (flat_map question_bytes (every_claim n)) → Writes w w₄ (encode (job_of_set (set_no n k)))
          set-written {w₄} t =
              writes_as (writes-writes w w₃ ((head ++ records) ++ bodies) (omega (arith, three-long)) three w₄ questions t)
              (ap (λ (u : List ℕ). u ++ records ++ bodies ++ questions) header_is ∙ whole)

-- a part for each claim, one after the other
abbrev pub sign_bytes : ℕ → ℕ → ℕ → List ℕ
sign_bytes n x c = flat_map literal_half (signed c (sign_at n x c))

abbrev pub record_bytes : ℕ → ℕ → ℕ → List ℕ
record_bytes n k c = flat_map rule_bytes (chosen_rule c (choice_in n k c))

abbrev pub chosen_bytes : ℕ → ℕ → ℕ → List ℕ
chosen_bytes n k c = flat_map literal_half (chosen_literals (choice_in n k c))

abbrev pub ask_bytes : ℕ → List ℕ
ask_bytes c = half_bytes 0 ++ half_bytes c

module _ (f : ℕ → List ℕ) (n : ℕ) where
  pub all_start : {X : List ℕ} {w : Writer} → X ≡ flat_map f (upto n) → HasRoom w (length X) → Along f w (upto n) w 0
  all_start {X} {w} e h = along-start f w (upto n) (omega (arith, ap length e))

  module _ {a b : Writer} {c : ℕ} (p : Along f a (upto n) b c) where
    module _ (h : c < n) {X : List ℕ} (e : X ≡ f c) where
      pub all_room : HasRoom b (length X)
      all_room = omega (arith, along-room p c (upto_at n c h) (omega (arith, upto-length n)), ap length e)

      pub all_more : {b' : Writer} → Writes b b' X → Along f a (upto n) b' (c + 1)
      all_more {b'} q = along_more p b' c (upto_at n c h) (omega (arith, upto-length n)) (writes_as q e)

    pub all_done : n ≤ c → {X : List ℕ} → X ≡ flat_map f (upto n) → Writes a b X
    all_done h e = writes_as (along_end p (omega (arith, upto-length n))) (sym e)

pub set_long : (n k : ℕ) → n ≤ 3 → k < set_count n → length (encode (job_of_set (set_no n k))) ≤ 78
unfolding encode job_of_set header_bytes
set_long n k few low =
    let r = set_no n k in
    let h = header_bytes (job_of_set r) in
    let x = flat_map rule_bytes (set_rules r) in
    let y = flat_map body_bytes (set_rules r) in
    let z = flat_map question_bytes (every_claim (length r)) in
    let q : length z ≤ 12 = omega (arith, ap (λ (m : ℕ). length (flat_map question_bytes (every_claim m))) (set_size n k low), questions-long n k few low) in
    omega (arith, length-append (h ++ x ++ y) z, length-append (h ++ x) y, length-append h x, records-long n k few low, bodies-long n k few low)
