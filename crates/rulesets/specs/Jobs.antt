-- The job of a rule set (02, order 12: "when one worker asks every claim in rising number, bodies rising by claim").
--   signed c p          the literal of claim c whose sign in a body is p, or none; body_literals ps   a body's literals, rising by claim
--   chosen_rule h x     the rule of claim h whose choice is x, or none; set_rules r   the rules of a set, by claim
--   chosen_literals x   the literals of a choice's body, or none
--   every_claim n       worker 0 asks claims 0 to n - 1
--   job_of_set r        the job of set r: one worker asks every claim
use Rattle.std.specs.Prelude.{ℕ, length, get_or}
use mathlib.Core.List.{List, [], ◌∷◌, map, flat_map}
use Rattle.base.specs.Lists.{upto}
use Rattle.job.specs.Job.{Rule, ◌if◌, Job}
use Rattle.job.specs.declared.Literal.{Literal}
use Rattle.job.specs.declared.Literal.TheVariants.{Plain, Negated}
use Rattle.job.specs.declared.Question.{Question}
use Rattle.rulesets.specs.Sets.{Sign, absent, plain, negated, Choice, no_rule, rule}

abbrev pub signed : ℕ → Sign → List Literal
signed c absent = []
signed c plain = Plain c ∷ []
signed c negated = Negated c ∷ []

-- "bodies rising by claim"
abbrev pub body_literals : List Sign → List Literal
body_literals ps = flat_map (λ c. signed c (get_or ps c absent)) (upto (length ps))

abbrev pub chosen_rule : ℕ → Choice → List Rule
chosen_rule h no_rule = []
chosen_rule h (rule ps) = (h if body_literals ps) ∷ []

abbrev pub chosen_literals : Choice → List Literal
chosen_literals no_rule = []
chosen_literals (rule ps) = body_literals ps

abbrev pub set_rules : List Choice → List Rule
set_rules r = flat_map (λ c. chosen_rule c (get_or r c no_rule)) (upto (length r))

-- "one worker asks every claim in rising number"
abbrev pub asks : ℕ → Question
asks c = record { worker = 0; claim = c }

abbrev pub every_claim : ℕ → List Question
every_claim n = map asks (upto n)

unfoldable pub job_of_set : List Choice → Job
job_of_set r = record { claims = length r; workers = 1; rules = set_rules r; questions = every_claim (length r) }
