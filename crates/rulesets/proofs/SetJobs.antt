-- The job of a set is within the limits, and small. Assumes nothing.
--   length_none, length-next, bodies_none, bodies-next   parts for the claims below c, and one more: how long, how many literals
--   upto_at, upto-length      the claims one by one, and how many
--   flat_most                 a bound on each part bounds all
--   literal_one, literals-most, chosen_most, rule_one, chosen_count   what a claim adds to body and rules
--   rules-few, literals-few, asked_count   its rules, literals and questions
--   set-valid, set_formed     the job of a rule set of at most 3 claims is valid
--   set-accepted, set_holds   so it is accepted, and its bytes hold it
use Prim.Native.Nat.{ℕ, zero, suc, ◌+◌, ◌*◌, ◌<◌, ◌≤◌}
use mathlib.Core.Path.{◌≡◌, refl, sym, ◌∙◌, ap, subst}
use mathlib.Core.Bool.{true, false}
use mathlib.Core.List.Memᴰ
use mathlib.Core.List.{List, [], ◌∷◌, ◌++◌, flat_map, append-nil}
use native.Mathlib.Omega.{arith}
use lib.ListN.{length, get_or, length-append, length-map}
use Rattle.base.specs.Span.{span}
use Rattle.base.specs.Lists.{upto}
use Rattle.base.proofs.Span.{length-span, get_d-span, span_add}
use Rattle.base.proofs.Members.{span_all}
use Rattle.job.specs.Job.{Rule, ◌if◌, claim_of, body_count}
use Rattle.job.specs.Encoding.{encode, ◌∈◌, Valid}
use Rattle.job.specs.Accepted.{WellFormed}
use Rattle.job.specs.Format.{job_of}
use Rattle.job.specs.Checks.{check_job}
use Rattle.job.specs.Check.{Accepted}
use Rattle.job.specs.declared.Literal.{Literal}
use Rattle.job.specs.declared.Question.{Question}
use Rattle.job.proofs.Accepted.{accepted}
use Rattle.job.proofs.Encoding.{decoded, encoded_well_formed}
use Rattle.parts.proofs.Rules.{flat_out}
use Rattle.writing.proofs.Parted.{flat_append}
use Rattle.turn.proofs.AtPlaces.{member}
use Rattle.rulesets.specs.Sets.{Sign, absent, plain, negated, Choice, no_rule, rule, IsChoice, body, IsSet}
use Rattle.rulesets.proofs.Saying.{one_each, one-rising}
use Rattle.rulesets.specs.Jobs.{signed, body_literals, chosen_rule, chosen_literals, set_rules, asks, every_claim, job_of_set}

module _ {B : Type 0} (f : ℕ → List B) (c : ℕ) where
  flat-next : flat_map f (upto (c + 1)) ≡ flat_map f (upto c) ++ f c
  unfolding flat_map span
  flat-next =
      let z : 0 + c ≡ c = omega arith in
      ap (flat_map f) (span_add (λ k. k) 0 c 1 ∙ ap (λ (x : ℕ). upto c ++ (x ∷ [])) z) ∙ flat_append f (upto c) (c ∷ []) ∙ ap (λ l. flat_map f (upto c) ++ l) (append-nil (f c))

  pub length-next : length (flat_map f (upto (c + 1))) ≡ length (flat_map f (upto c)) + length (f c)
  length-next = ap length flat-next ∙ length-append (flat_map f (upto c)) (f c)

bodies_append : (xs ys : List Rule) → body_count (xs ++ ys) ≡ body_count xs + body_count ys
unfolding body_count
bodies_append [] ys = omega arith
bodies_append (x ∷ xs) ys = omega (arith, bodies_append xs ys)

pub bodies-next : (f : ℕ → List Rule) (c : ℕ) → body_count (flat_map f (upto (c + 1))) ≡ body_count (flat_map f (upto c)) + body_count (f c)
bodies-next f c = ap body_count (flat-next f c) ∙ bodies_append (flat_map f (upto c)) (f c)

pub upto_at : (n i : ℕ) → i < n → i ≡ get_or (upto n) i 0
upto_at n i h = let z : i ≡ 0 + i = omega arith in z ∙ sym (get_d-span (λ k. k) 0 n i 0 h)

pub upto-length : (n : ℕ) → length (upto n) ≡ n
upto-length n = length-span (λ k. k) 0 n

pub length_none : {B : Type 0} (f : ℕ → List B) → length (flat_map f (upto 0)) ≡ 0
unfolding flat_map span
length_none f = refl

pub bodies_none : (f : ℕ → List Rule) → body_count (flat_map f (upto 0)) ≡ 0
unfolding flat_map span body_count
bodies_none f = refl

-- bounds
pub flat_most : {B : Type 0} (f : ℕ → List B) (m : ℕ) → ((c : ℕ) → length (f c) ≤ m) → (n : ℕ) → length (flat_map f (upto n)) ≤ m * n
flat_most f m h zero = omega (arith, length_none f)
flat_most f m h (suc n) =
    let e : suc n ≡ n + 1 = omega arith in
    let g : length (flat_map f (upto (suc n))) ≡ length (flat_map f (upto (n + 1))) = ap (λ (x : ℕ). length (flat_map f (upto x))) e in
    omega (arith, g, length-next f n, h n, flat_most f m h n)

pub literal_one : (c : ℕ) (p : Sign) → length (signed c p) ≤ 1
literal_one c absent = omega arith
literal_one c plain = omega arith
literal_one c negated = omega arith

pub literals-most : (ps : List Sign) → length (body_literals ps) ≤ length ps
literals-most ps = omega (arith, flat_most (λ c. signed c (get_or ps c absent)) 1 (λ c. literal_one c (get_or ps c absent)) (length ps))

pub chosen_most : (n : ℕ) (x : Choice) → IsChoice n x → length (chosen_literals x) ≤ n
chosen_most n no_rule i = omega arith
chosen_most n (rule ps) (body qs e) = omega (arith, literals-most ps)

pub rule_one : (c : ℕ) (x : Choice) → length (chosen_rule c x) ≤ 1
rule_one c no_rule = omega arith
rule_one c (rule ps) = omega arith

pub chosen_count : (c : ℕ) (x : Choice) → body_count (chosen_rule c x) ≡ length (chosen_literals x)
unfolding body_count
chosen_count c no_rule = refl
chosen_count c (rule ps) = omega arith

bodies_most : (f : ℕ → List Rule) (m n : ℕ) → ((c : ℕ) → c < n → body_count (f c) ≤ m) → (k : ℕ) → k ≤ n → body_count (flat_map f (upto k)) ≤ m * k
bodies_most f m n h zero l = omega (arith, bodies_none f)
bodies_most f m n h (suc k) l =
    let e : suc k ≡ k + 1 = omega arith in
    let g : body_count (flat_map f (upto (suc k))) ≡ body_count (flat_map f (upto (k + 1))) = ap (λ (x : ℕ). body_count (flat_map f (upto x))) e in
    omega (arith, g, bodies-next f k, h k (omega arith), bodies_most f m n h k (omega arith))

module _ (n : ℕ) (few : n ≤ 3) (r : List Choice) (s : IsSet n r) where
  abbrev rule_at : ℕ → List Rule
  rule_at c = chosen_rule c (get_or r c no_rule)

  -- where a rule comes from
  data Made (x : Rule) : Type 0 where
    made : (c : ℕ) (ps : List Sign) → c < n → length ps ≡ n → x ≡ (c if body_literals ps) → Made x

  made_by : (c : ℕ) → c < n → (y : Choice) → IsChoice n y → (x : Rule) → x ∈ chosen_rule c y → Made x
  made_by c h no_rule i x m = absurd (Memᴰ.not-nil m)
  made_by c h (rule ps) (body qs e) x m = made c qs h e (Memᴰ.eq_of_singleton m)

  made-rule : (x : Rule) → x ∈ set_rules r → Made x
  made-rule x m =
      let o = flat_out rule_at (upto (length r)) x m in
      let l : o.0 < length r = span_all (λ c. c < length r) (λ k. k) 0 (length r) (λ i a b. omega arith) o.0 o.1 in
      made_by o.0 (omega (arith, s.size)) (get_or r o.0 no_rule) (s.each _ (member r no_rule o.0 l)) x o.2

  literal-claim : (c : ℕ) (p : Sign) (l : Literal) → l ∈ signed c p → claim_of l ≡ c
  literal-claim c absent l m = absurd (Memᴰ.not-nil m)
  literal-claim c plain l m = ap claim_of (Memᴰ.eq_of_singleton m)
  literal-claim c negated l m = ap claim_of (Memᴰ.eq_of_singleton m)

  literal-low : (ps : List Sign) (l : Literal) → l ∈ body_literals ps → claim_of l < length ps
  literal-low ps l m =
      let o = flat_out (λ c. signed c (get_or ps c absent)) (upto (length ps)) l m in
      let h : o.0 < length ps = span_all (λ c. c < length ps) (λ k. k) 0 (length ps) (λ i a b. omega arith) o.0 o.1 in
      omega (arith, h, literal-claim o.0 (get_or ps o.0 absent) l o.2)

  head-low : (x : Rule) → Made x → x.head < length r
  head-low x (made c ps h e q) = omega (arith, ap (λ (y : Rule). y.head) q, s.size)

  not-missing : (x : Rule) → Made x → x.missing ≡ true → x.body ≡ []
  not-missing x (made c ps h e q) t = let z : ◌≡◌ {A = _} true false = sym t ∙ ap (λ (y : Rule). y.missing) q in let y : ◌≡◌ {A = ℕ} 0 1 = cc in absurd (omega arith)

  body-low : (x : Rule) → Made x → (l : Literal) → l ∈ x.body → claim_of l < length r
  body-low x (made c ps h e q) l m = omega (arith, s.size, literal-low ps l (subst (λ (b : List Literal). l ∈ b) (ap (λ (y : Rule). y.body) q) m))

  pub rules-few : length (set_rules r) ≤ 3
  rules-few = omega (arith, flat_most rule_at 1 (λ c. rule_one c (get_or r c no_rule)) (length r), s.size)

  pub literals-few : body_count (set_rules r) ≤ 9
  literals-few =
      let each : (c : ℕ) → c < length r → body_count (rule_at c) ≤ 3 =
      λ c h. omega (arith, chosen_count c (get_or r c no_rule), chosen_most n (get_or r c no_rule) (s.each _ (member r no_rule c h))) in
      omega (arith, bodies_most rule_at 3 (length r) each (length r) (omega arith), s.size)

  question_in : (q : Question) → q ∈ every_claim (length r) → (q.worker < 1) × (q.claim < length r)
  question_in q m =
      let p = Memᴰ.of_map asks (upto (length r)) m in
      let h : p.0 < length r = span_all (λ c. c < length r) (λ k. k) 0 (length r) (λ i a b. omega arith) p.0 p.1 in
      (omega (arith, ap (λ (y : Question). y.worker) p.2), omega (arith, h, ap (λ (y : Question). y.claim) p.2))

  pub asked_count : length (every_claim (length r)) ≡ n
  asked_count = length-map (upto (length r)) asks ∙ upto-length (length r) ∙ s.size

  pub set-valid : Valid (job_of_set r)
  unfolding job_of_set
  set-valid =
      record {
        claims_most = omega (arith, s.size);
        rules_most = omega (arith, rules-few);
        literals_most = omega (arith, literals-few);
        workers_least = omega arith;
        workers_most = omega arith;
        questions_most = omega (arith, asked_count);
        heads_rise = one-rising (set_rules r) 0 0 (omega arith) (one_each (λ c. get_or r c no_rule) 0 0 (length r) (omega arith));
        heads = λ x m. head-low x (made-rule x m);
        missing = λ x m. not-missing x (made-rule x m);
        literals = λ x m. body-low x (made-rule x m);
        askers = λ q m. (question_in q m).0;
        asked = λ q m. (question_in q m).1;
      }

  pub set_formed : WellFormed (encode (job_of_set r))
  set_formed = encoded_well_formed (job_of_set r) set-valid

  pub set-accepted : Accepted ≡ check_job (encode (job_of_set r))
  set-accepted = accepted (encode (job_of_set r)) set_formed

  pub set_holds : job_of (encode (job_of_set r)) ≡ job_of_set r
  set_holds = decoded (job_of_set r) set-valid
