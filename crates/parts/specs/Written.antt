-- How the part is written: its records, and then its literals, by the same walk.
--   literals_in s from end   the literals of job s from one place up to another
--   lowered t place l n      a body's status n once it has met literal l: failed where l is failing, undecided where it is undecided
--   status_of t place b      failed where a literal of body b is failing, else undecided where one is undecided, else decided
--   literal_bytes b          the bytes of literals
--   with_own own b           body b, and the negation of own, if one is wanted
--   text_of section r        what a walk writes of rule r of the part: its record, or else its literals
--   texts_of section rs      of several
--   part_of s t place ms     the part, as a job; part_texts   what a walk writes of its rules
--   First s c r              rule r is the first whose head is not below c
--   Lent s index t place ms   what the functions are lent: an accepted job s, its index of claims, a table in range, and the claims of a part
use Rattle.std.specs.Prelude.{ℕ, ◌-◌, ◌<◌, ◌≤◌, ◌≡◌, not, cond, length, Option, None, Some}
use mathlib.Core.List.{List, [], ◌∷◌, ◌++◌, flat_map}
use Rattle.base.specs.Span.{span}
use Rattle.job.specs.Job.{Rule, Job}
use Rattle.job.specs.Format.{claims, rules, head_at, literal_at, job_of}
use Rattle.job.specs.Accepted.{WellFormed}
use Rattle.job.specs.Claims.{Index}
use Rattle.job.specs.Encoding.{half_bytes, field_of, rule_bytes, body_bytes}
use Rattle.job.specs.declared.Literal.{Literal}
use Rattle.job.specs.declared.Literal.TheVariants.{Negated}
use Rattle.semantics.specs.Model.{Body, all_pass}
use Rattle.table.specs.Ranges.{InRange}
use Rattle.parts.specs.declared.bodies.Status.{Status}
use Rattle.parts.specs.declared.bodies.Status.TheVariants.{Failed, Undecided, Decided}
use Rattle.parts.specs.declared.claim.Section.{Section}
use Rattle.parts.specs.declared.claim.Section.TheVariants.{Records, Literals}
use Rattle.parts.specs.Part.{Numbered, failing, undecided, standing, part}

abbrev pub literals_in : List ℕ → ℕ → ℕ → Body
literals_in s from end = span (literal_at s (rules s)) from (end - from)

unfoldable pub lowered : List ℕ → List ℕ → Literal → Status → Status
lowered t place l n = cond (failing t place l) Failed (cond (undecided t place l) Undecided n)

unfoldable pub status_of : List ℕ → List ℕ → Body → Status
status_of t place b = cond (standing t place b) (cond (all_pass (λ l. not (undecided t place l)) b) Decided Undecided) Failed

abbrev pub literal_bytes : Body → List ℕ
literal_bytes b = flat_map (λ l. half_bytes (field_of l)) b

abbrev pub with_own : Option ℕ → Body → Body
with_own None b = b
with_own (Some i) b = b ++ Negated i ∷ []

unfoldable pub text_of : Section → Rule → List ℕ
text_of Records r = rule_bytes r
text_of Literals r = body_bytes r

abbrev pub texts_of : Section → List Rule → List ℕ
texts_of section rs = flat_map (text_of section) rs

abbrev pub part_of : List ℕ → List ℕ → List ℕ → List ℕ → Job
part_of s t place ms = part (job_of s) t place ms

abbrev pub part_texts : Section → List ℕ → List ℕ → List ℕ → List ℕ → List ℕ
part_texts section s t place ms = texts_of section (part_of s t place ms).rules

pub record First (s : List ℕ) (c r : ℕ) : Type 0 where
  pub most : r ≤ rules s
  pub before : (j : ℕ) → j < r → head_at s j < c
  pub from : (j : ℕ) → r ≤ j → j < rules s → c ≤ head_at s j

pub record Lent (s index t place ms : List ℕ) : Type 0 where
  pub job : WellFormed s
  pub indexed : Index s index
  pub table : InRange (job_of s) t
  pub long : length place ≡ claims s
  pub numbered : Numbered place ms
