-- What is written of one rule of the job, by the ways of the code. Assumes nothing.
--   end_fits                              its literals end within the job's
--   missing-record, missing-nothing       a missing record: its record; it has no literals
--   made, made_by, made-text              a rule that stands; what the walk makes of a rule, by its body's status; its text
use Prim.Native.Nat.{ℕ, ◌+◌, ◌-◌, ◌<◌, ◌≤◌}
use mathlib.Core.Path.{◌≡◌, refl, sym, ◌∙◌, ap, ap₂}
use mathlib.Core.Bool.{Bool, true, false, not, cond}
use mathlib.Core.List.{List, [], ◌∷◌, ◌++◌, flat_map, append-nil}
use native.Mathlib.Omega.{arith}
use lib.ListN.{length, length-append}
use Rattle.base.specs.Span.{span}
use Rattle.job.specs.Job.{Rule, ◌if◌, missing_record, missing_length}
use Rattle.job.specs.Format.{rules, literals, missing_at, body_length_at, body_start, literal_at, rule_at}
use Rattle.job.specs.Accepted.{WellFormed}
use Rattle.job.specs.Encoding.{half_bytes, length_of}
use Rattle.job.specs.declared.Literal.TheVariants.{Negated}
use Rattle.job.proofs.Parts.{body-within}
use Rattle.semantics.specs.Model.{Body, all_pass}
use Rattle.parts.specs.Part.{undecided, standing, part_literals, part_body, part_rule}
use mir.Val.{bool_byte}
use Rattle.std.specs.Prelude.{Option, None, Some}
use Rattle.std.specs.Option.{is_some}
use Rattle.parts.specs.declared.bodies.Status.{Status}
use Rattle.parts.specs.declared.bodies.Status.TheVariants.{Failed, Undecided, Decided}
use Rattle.parts.specs.declared.claim.Section.{Section}
use Rattle.parts.specs.declared.claim.Section.TheVariants.{Records, Literals}
use Rattle.parts.specs.Written.{literals_in, status_of, literal_bytes, with_own, text_of, texts_of}

-- a rule that stands, with body b and the negation of own: how long its body is, and its text
own-length : (own : Option ℕ) (b : Body) {n k : ℕ} → n ≡ length b → k ≡ bool_byte (is_some own) → n + k ≡ length (with_own own b)
own-length None b e q = omega (arith, e, q)
own-length (Some j) b e q = omega (arith, e, q, length-append b (Negated j ∷ []))

pub record-text : {section : Section} {n k : ℕ} (i : ℕ) (own : Option ℕ) (b : Body) → section ≡ Records → n ≡ length b → k ≡ bool_byte (is_some own) → half_bytes i ++ half_bytes (n + k) ≡ texts_of section ((i if with_own own b) ∷ [])
unfolding flat_map text_of length_of
record-text i own b e q u = rw (e, own-length own b q u) refl

pub body-text : {section : Section} (i : ℕ) (own : Option ℕ) (b : Body) → section ≡ Literals → literal_bytes (with_own own b) ≡ texts_of section ((i if with_own own b) ∷ [])
unfolding flat_map text_of
body-text i own b e = rw e (sym (append-nil (literal_bytes (with_own own b))))

-- a body's status, by whether it stands and whether all is decided
abbrev told : Bool → Bool → Status
told x y = cond x (cond y Decided Undecided) Failed

-- what a rule with body b becomes in the part, as a rule of its claim i, by the body's status
module _ (t place : List ℕ) (i : ℕ) (b : Body) where
  abbrev pub made : Option ℕ → List Rule
  made own = (i if with_own own (part_literals place b)) ∷ []

  abbrev pub made_by : Status → List Rule
  made_by Failed = []
  made_by Undecided = made (Some i)
  made_by Decided = made None

  by_status : cond (standing t place b) ((i if part_body t place i b) ∷ []) [] ≡ made_by (status_of t place b)
  unfolding part_body status_of
  by_status = go (standing t place b) (all_pass (λ l. not (undecided t place l)) b)
    where
      go : (x y : Bool) → cond x ((i if part_literals place b ++ cond y [] (Negated i ∷ [])) ∷ []) [] ≡ made_by (told x y)
      go true true = ap (λ (x : Body). (i if x) ∷ []) (append-nil (part_literals place b))
      go true false = refl
      go false y = refl

pub end_fits : {s : List ℕ} {r from n : ℕ} → WellFormed s → r < rules s → from ≡ body_start s r → n ≡ body_length_at s r → from + n ≤ literals s
end_fits {s} {r} w l e q = omega (arith, body-within s r (rules s) l, w.bodies)

-- rule r of job s, whose n literals start at `from`
module _ (s t place : List ℕ) (i r : ℕ) where
  abbrev rule : Rule
  rule = rule_at s (rules s) r

  abbrev pub rule_text : Section → List ℕ
  rule_text section = texts_of section (part_rule t place i (rule_at s (rules s) r))

  module _ (missing : missing_at s r ≡ true) where
    one-missing : part_rule t place i rule ≡ missing_record i ∷ []
    unfolding part_rule rule_at
    one-missing = rw missing

    pub missing-record : {section : Section} → section ≡ Records → half_bytes i ++ half_bytes missing_length ≡ rule_text section
    unfolding length_of flat_map text_of
    missing-record e = rw e (sym (ap (texts_of Records) one-missing))

    pub missing-nothing : {section : Section} → section ≡ Literals → [] ≡ rule_text section
    unfolding flat_map text_of
    missing-nothing e = rw e (sym (ap (texts_of Literals) one-missing))

  module _ (own : missing_at s r ≡ false) {from n : ℕ} (at : from ≡ body_start s r) (size : n ≡ body_length_at s r) where
    abbrev body : Body
    body = literals_in s from (from + n)

    body_is : rule.body ≡ body
    unfolding rule_at
    body_is =
        let e : n ≡ from + n - from = omega arith in
        ap₂ (span (literal_at s (rules s))) (sym at) (sym size ∙ e)

    one-own : part_rule t place i rule ≡ cond (standing t place body) ((i if part_body t place i body) ∷ []) []
    unfolding part_rule rule_at
    one-own = rw own (ap (λ (b : Body). cond (standing t place b) ((i if part_body t place i b) ∷ []) []) body_is)

    pub made-text : (section : Section) {state : Status} → state ≡ status_of t place body → texts_of section (made_by t place i body state) ≡ rule_text section
    made-text section is = ap (λ (x : Status). texts_of section (made_by t place i body x)) is ∙ sym (ap (texts_of section) (one-own ∙ by_status t place i body))
