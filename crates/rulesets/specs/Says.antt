-- What the job of a set says, in the order's words and not by how it is made (02, order 12).
--   Climbs b ls      the literals rise by claim: each claim once at most, none below b
--   sign_of l        the sign that a literal gives its claim
--   BodyOf ps ls     ls are the literals of the body ps, rising by claim
--   OneEach b xs     the rules rise by head: each claim has one at most, none below b has one
--   RuleOf r x       x is a rule by its head's choice in r; HasRule j c   claim c has a rule in job j
--   Says r j         job j has the rules of set r, and one worker asks every claim in rising number
use Rattle.std.specs.Prelude.{ℕ, suc, ◌≤◌, ◌<◌, ◌≡◌, false, List, [], ◌∷◌, ◌↔◌, length, get_or}
use Rattle.job.specs.Job.{Rule, Job, claim_of}
use Rattle.job.specs.Encoding.{◌∈◌}
use Rattle.job.specs.declared.Literal.{Literal}
use Rattle.job.specs.declared.Literal.TheVariants.{Plain, Negated}
use Rattle.rulesets.specs.Sets.{Sign, absent, plain, negated, Choice, no_rule, rule}

abbrev pub Climbs : ℕ → List Literal → Type 0
Climbs b [] = Unit {0}
Climbs b (l ∷ ls) = (b ≤ claim_of l) × Climbs (suc (claim_of l)) ls

abbrev pub sign_of : Literal → Sign
sign_of (Plain c) = plain
sign_of (Negated c) = negated

pub record BodyOf (ps : List Sign) (ls : List Literal) : Type 0 where
  -- "each claim being absent, plain or negated in a body": a literal stands in it exactly where its claim's sign is its own
  pub members : (l : Literal) → (l ∈ ls) ↔ (get_or ps (claim_of l) absent ≡ sign_of l)
  -- "bodies rising by claim"
  pub rises : Climbs 0 ls

abbrev pub OneEach : ℕ → List Rule → Type 0
OneEach b [] = Unit {0}
OneEach b (x ∷ xs) = (b ≤ x.head) × OneEach (suc x.head) xs

pub record RuleOf (r : List Choice) (x : Rule) : Type 0 where
  pub body : List Sign
  pub chosen : get_or r x.head no_rule ≡ rule body
  pub known : x.missing ≡ false
  pub literals : BodyOf body x.body

pub record HasRule (j : Job) (c : ℕ) : Type 0 where
  pub one : Rule
  pub is : one ∈ j.rules
  pub head : one.head ≡ c

pub record Says (r : List Choice) (j : Job) : Type 0 where
  pub claims : j.claims ≡ length r
  -- "at most one rule a claim": each rule is its head's choice, and each choice that is a rule is there
  pub once : OneEach 0 j.rules
  pub each : (x : Rule) → x ∈ j.rules → RuleOf r x
  pub all : (c : ℕ) (ps : List Sign) → get_or r c no_rule ≡ rule ps → HasRule j c
  -- "one worker asks every claim in rising number"
  pub workers : j.workers ≡ 1
  pub count : length j.questions ≡ length r
  pub asks : (c : ℕ) → c < length r → get_or j.questions c (record { worker = 0; claim = 0 }) ≡ record { worker = 0; claim = c }
