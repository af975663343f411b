-- The job of a set says that set. Assumes nothing.
--   body_of      specs/Says: BodyOf, of a body's literals
--   one_each     OneEach, of rules made claim by claim; one-rising   so heads never fall
--   says         Says, of the job of a set
use Prim.Native.Nat.{ℕ, zero, suc, ◌+◌, ◌≤◌, ◌<◌}
use mathlib.Core.Path.{◌≡◌, refl, sym, ◌∙◌, ap, subst}
use mathlib.Core.List.Memᴰ
use mathlib.Core.List.{List, [], ◌∷◌, ◌++◌, flat_map}
use mathlib.Core.Logic.{by_cases}
use native.Mathlib.Decide.{dec_lt}
use native.Mathlib.Omega.{arith}
use lib.ListN.{length, get_or, length-map, get_or-map, get_or-eq_default}
use Rattle.base.specs.Span.{span}
use Rattle.base.specs.Lists.{upto}
use Rattle.base.proofs.Span.{length-span, get_d-span}
use Rattle.base.proofs.Members.{span_at}
use Rattle.job.specs.Job.{Rule, ◌if◌, claim_of}
use Rattle.job.specs.Encoding.{◌∈◌, Rising}
use Rattle.job.specs.declared.Literal.{Literal}
use Rattle.job.specs.declared.Literal.TheVariants.{Plain, Negated}
use Rattle.parts.proofs.Rules.{flat_in, flat_out}
use Rattle.rulesets.specs.Sets.{Sign, absent, plain, negated, sign_number, Choice, no_rule, rule, choice_number}
use Rattle.rulesets.specs.Jobs.{signed, body_literals, chosen_rule, set_rules, asks, job_of_set}
use Rattle.rulesets.specs.Says.{Climbs, sign_of, BodyOf, OneEach, RuleOf, Says}

-- the one literal of a claim, by its sign
signed_in : (d : ℕ) (p : Sign) (l : Literal) → l ∈ signed d p → (d ≡ claim_of l) × (p ≡ sign_of l)
signed_in d absent l m = absurd (Memᴰ.not-nil m)
signed_in d plain l m = let e = sym (Memᴰ.eq_of_singleton m) in (ap claim_of e, ap sign_of e)
signed_in d negated l m = let e = sym (Memᴰ.eq_of_singleton m) in (ap claim_of e, ap sign_of e)

in-signed : (l : Literal) → l ∈ signed (claim_of l) (sign_of l)
in-signed (Plain c) = Memᴰ.head refl
in-signed (Negated c) = Memᴰ.head refl

some_sign : (l : Literal) → 1 ≤ sign_number (sign_of l)
some_sign (Plain c) = omega arith
some_sign (Negated c) = omega arith

climbs : (f : ℕ → Sign) (b a n : ℕ) → b ≤ a → Climbs b (flat_map (λ c. signed c (f c)) (span (λ k. k) a n))
unfolding flat_map span
climbs f b a zero h = tt
climbs f b a (suc n) h = go (f a) (λ d l. climbs f d (suc a) n l)
  where
    rest : List Literal
    rest = flat_map (λ c. signed c (f c)) (span (λ k. k) (suc a) n)

    go : (p : Sign) → ((d : ℕ) → d ≤ suc a → Climbs d rest) → Climbs b (signed a p ++ rest)
    go absent g = g b (omega arith)
    go plain g = (h, g (suc a) (omega arith))
    go negated g = (h, g (suc a) (omega arith))

body_of : (ps : List Sign) → BodyOf ps (body_literals ps)
body_of ps = record { members = λ l. (is l, is_in l); rises = climbs sign_at 0 0 (length ps) (omega arith) }
  where
    sign_at : ℕ → Sign
    sign_at c = get_or ps c absent

    is : (l : Literal) → l ∈ body_literals ps → get_or ps (claim_of l) absent ≡ sign_of l
    is l m =
        let o = flat_out (λ c. signed c (get_or ps c absent)) (upto (length ps)) l m in
        let p = signed_in o.0 (get_or ps o.0 absent) l o.2 in
        ap (λ (c : ℕ). get_or ps c absent) (sym p.0) ∙ p.1

    low : (l : Literal) → get_or ps (claim_of l) absent ≡ sign_of l → claim_of l < length ps
    low l e =
        by_cases (dec_lt (claim_of l) (length ps)) (λ h. h)
        (λ n. absurd (omega (arith, some_sign l, ap sign_number (sym (get_or-eq_default ps absent (omega (arith, n))) ∙ e))))

    is_in : (l : Literal) → get_or ps (claim_of l) absent ≡ sign_of l → l ∈ body_literals ps
    is_in l e =
        let h = low l e in
        flat_in (λ c. signed c (get_or ps c absent)) (upto (length ps)) (claim_of l) l (span_at (λ k. k) 0 (length ps) (claim_of l) (omega arith) (omega arith))
        (subst (λ (p : Sign). l ∈ signed (claim_of l) p) (sym e) (in-signed l))

-- rules made claim by claim
pub one_each : (f : ℕ → Choice) (b a n : ℕ) → b ≤ a → OneEach b (flat_map (λ c. chosen_rule c (f c)) (span (λ k. k) a n))
unfolding flat_map span
one_each f b a zero h = tt
one_each f b a (suc n) h = go (f a) (λ d l. one_each f d (suc a) n l)
  where
    rest : List Rule
    rest = flat_map (λ c. chosen_rule c (f c)) (span (λ k. k) (suc a) n)

    go : (x : Choice) → ((d : ℕ) → d ≤ suc a → OneEach d rest) → OneEach b (chosen_rule a x ++ rest)
    go no_rule g = g b (omega arith)
    go (rule ps) g = (h, g (suc a) (omega arith))

pub one-rising : (xs : List Rule) (b d : ℕ) → d ≤ b → OneEach b xs → Rising d xs
one-rising [] b d h o = tt
one-rising (x ∷ xs) b d h o = (omega (arith, o.0), one-rising xs (suc x.head) x.head (omega arith) o.1)

module _ (r : List Choice) where
  by_choice : (c : ℕ) (y : Choice) → get_or r c no_rule ≡ y → (x : Rule) → x ∈ chosen_rule c y → RuleOf r x
  by_choice c no_rule e x m = absurd (Memᴰ.not-nil m)
  by_choice c (rule ps) e x m = subst (RuleOf r) (sym (Memᴰ.eq_of_singleton m)) (record { body = ps; chosen = e; known = refl; literals = body_of ps })

  each : (x : Rule) → x ∈ set_rules r → RuleOf r x
  each x m = let o = flat_out (λ c. chosen_rule c (get_or r c no_rule)) (upto (length r)) x m in by_choice o.0 (get_or r o.0 no_rule) refl x o.2

  low-rule : (c : ℕ) (ps : List Sign) → get_or r c no_rule ≡ rule ps → c < length r
  low-rule c ps e =
      by_cases (dec_lt c (length r)) (λ h. h)
      (λ n. absurd (omega (arith, ap choice_number (sym (get_or-eq_default r no_rule (omega (arith, n))) ∙ e))))

  there : (c : ℕ) (ps : List Sign) → get_or r c no_rule ≡ rule ps → (c if body_literals ps) ∈ set_rules r
  there c ps e =
      let h = low-rule c ps e in
      flat_in (λ d. chosen_rule d (get_or r d no_rule)) (upto (length r)) c (c if body_literals ps) (span_at (λ k. k) 0 (length r) c (omega arith) (omega arith))
      (subst (λ (y : Choice). (c if body_literals ps) ∈ chosen_rule c y) (sym e) (Memᴰ.head refl))

  pub says : Says r (job_of_set r)
  unfolding job_of_set
  says =
      record {
        claims = refl;
        once = one_each (λ c. get_or r c no_rule) 0 0 (length r) (omega arith);
        each = each;
        all = λ c ps e. record { one = c if body_literals ps; is = there c ps e; head = refl };
        workers = refl;
        count = length-map (upto (length r)) asks ∙ length-span (λ k. k) 0 (length r);
        asks = λ c h. let z : 0 + c ≡ c = omega arith in get_or-map asks (upto (length r)) c 0 ∙ ap asks (get_d-span (λ k. k) 0 (length r) c 0 h ∙ z);
      }
