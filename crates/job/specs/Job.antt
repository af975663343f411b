-- A job (01, 'Job bytes'), as values: ground rules about numbered claims, workers, and their questions.
--   Literal            a claim, plain or negated (declared in src/lib.rt: Plain c, Negated c)
--   claim_of l         the literal's claim
--   Rule               a head and the literals of its body; or a missing record (02, order 2), which has a head and no literals
--   h if b             the rule with head h and body b; missing_record h   the missing record of h
--   Question           a worker and the claim it asks (declared in src/lib.rt)
--   Job                claims A, workers T, rules in file order, questions in file order
--   literal_count j    L: the literals of all bodies
--   literals_of c rs   the literals of claim c over its rules in file order
--   rule_end c rs k    where the rule of literal k of these ends among them
--   most_claims, ..    the limits; missing_length   what a missing record has for a body length
-- A claim is a ground atom; a job's rules are a ground normal logic program.
use Rattle.std.specs.Prelude.{ℕ, ◌+◌, ◌-◌, List, [], ◌∷◌, ◌++◌, Bool, true, false, cond, eqb, ltb, length}
use Rattle.base.specs.Choose.{pick}
use Rattle.job.specs.declared.Literal.{Literal}
use Rattle.job.specs.declared.Literal.TheVariants.{Plain, Negated}
use Rattle.job.specs.declared.Question.{Question}

abbrev pub claim_of : Literal → ℕ
claim_of (Plain c) = c
claim_of (Negated c) = c

pub record Rule : Type 0 where
  pub head : ℕ
  pub body : List Literal
  pub missing : Bool

infix 5 ◌if◌
abbrev pub ◌if◌ : ℕ → List Literal → Rule
h if b = record { head = h; body = b; missing = false }

-- (02, order 2) "A rule record with body length 65,535 has no literals and makes its head missing"
abbrev pub missing_record : ℕ → Rule
missing_record h = record { head = h; body = []; missing = true }

pub record Job : Type 0 where
  pub claims : ℕ
  pub workers : ℕ
  pub rules : List Rule
  pub questions : List Question

unfoldable pub body_count : List Rule → ℕ
body_count [] = 0
body_count (r ∷ rs) = length r.body + body_count rs

abbrev pub literal_count : Job → ℕ
literal_count j = body_count j.rules

unfoldable pub literals_of : ℕ → List Rule → List Literal
literals_of c [] = []
literals_of c (r ∷ rs) = cond (eqb r.head c) r.body [] ++ literals_of c rs

unfoldable pub rule_end : ℕ → List Rule → ℕ → ℕ
unfolding pick
rule_end c [] k = 0
rule_end c (r ∷ rs) k =
    let n = length (cond (eqb r.head c) r.body []) in
    pick (ltb k n) n (n + rule_end c rs (k - n))

-- "A at most 4,096, M 6,144, L 16,384, T 1 to 32, Q 1,024."
abbrev pub most_claims : ℕ
most_claims = 4096

abbrev pub most_rules : ℕ
most_rules = 6144

abbrev pub most_literals : ℕ
most_literals = 16384

abbrev pub most_workers : ℕ
most_workers = 32

abbrev pub most_questions : ℕ
most_questions = 1024

-- (02, order 2) "body length 65,535": more than all literals of a job
abbrev pub missing_length : ℕ
missing_length = 65535
