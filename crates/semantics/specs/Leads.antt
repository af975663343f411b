-- What a claim leads to (01, 'Lists of calls'; 02, order 9), of any program (specs/Model), and which claims of a job are not undefined for it: a theorem, for every job
-- (proofs/Undefined). In the field's terms: the dependency graph of atoms; where no ring of it has a negation the program is stratified (Apt,
-- Blair, Walker, 1988), and its model is total.
--   Uses P c l             literal l is in the body of a rule of claim c
--   Leads P c d            d is the claim of a literal of a rule of c
--   ThroughNegation P c d  c leads to d through a negation: one of the literals on the way is negated
--   LeadsTo j c d          d is c itself, or c leads to d through any literals of the job's rules
--   LeadsBack j d          d leads back to itself through a negation
--   Clear j c              among c and all that it leads to none leads back so, and none has a missing record
--   Layered j c layer      c and all that it leads to stand in layers: a negation leads to a lower layer, and none has a missing record
--   lower layer c l        literal l leads from claim c to the same layer or a lower one, and to a lower one if it is negated
--   in_layers layer r      so do all literals of rule r, which is no missing record
--   NotUndefined j         the theorem
use Rattle.std.specs.Prelude.{ℕ, ◌<◌, ◌≤◌, ◌≡◌, Bool, not, ◌&&◌, ◌⊎◌, T, leb, ltb}
use Rattle.base.specs.Graph.{Reach}
use Rattle.job.specs.Job.{Rule, Job, claim_of}
use Rattle.job.specs.Encoding.{◌∈◌}
use Rattle.job.specs.declared.Literal.{Literal}
use Rattle.job.specs.declared.Literal.TheVariants.{Plain, Negated}
use Rattle.semantics.specs.Model.{Body, Program, RuleOf, program_of, all_pass, Undefined, verdict}
use Rattle.semantics.specs.Missing.{Missing, as_written}

abbrev pub Uses : Program → ℕ → Literal → Type 0
Uses P c l = (b : Body) × RuleOf P c b × l ∈ b

abbrev pub Leads : Program → ℕ → ℕ → Type 0
Leads P c d = (l : Literal) × Uses P c l × (claim_of l ≡ d)

abbrev pub ThroughNegation : Program → ℕ → ℕ → Type 0
ThroughNegation P c d = (x y : ℕ) × Reach (Leads P) c x × Uses P x (Negated y) × Reach (Leads P) y d

-- "All literals of rules lead from a claim to the claim of each literal, plain or negated, of each rule it heads, and on from there any number of
-- times": by the rules as they are written, of which a missing record has no literals, and leads nowhere
abbrev pub LeadsTo : Job → ℕ → ℕ → Type 0
LeadsTo j = Reach (Leads (as_written j))

abbrev pub LeadsBack : Job → ℕ → Type 0
LeadsBack j d = ThroughNegation (as_written j) d d

-- "among itself and all that it leads to through any literals, none leads back to itself through a negation and none has a missing record"
abbrev pub Clear : Job → ℕ → Type 0
Clear j c = (d : ℕ) → LeadsTo j c d → (LeadsBack j d → ⊥) × (Missing j d → ⊥)

pub record Layered (j : Job) (c : ℕ) (layer : ℕ → ℕ) : Type 0 where
  pub plain : (x y : ℕ) → LeadsTo j c x → Uses (as_written j) x (Plain y) → layer y ≤ layer x
  pub negated : (x y : ℕ) → LeadsTo j c x → Uses (as_written j) x (Negated y) → layer y < layer x
  pub measured : (x : ℕ) → LeadsTo j c x → Missing j x → ⊥

abbrev pub lower : (ℕ → ℕ) → ℕ → Literal → Bool
lower layer c (Plain d) = leb (layer d) (layer c)
lower layer c (Negated d) = ltb (layer d) (layer c)

abbrev pub in_layers : (ℕ → ℕ) → Rule → Bool
in_layers layer r = not r.missing && all_pass (lower layer r.head) r.body

pub record NotUndefined (j : Job) : Type 0 where
  -- "a claim is not undefined if .."
  pub clear : (c : ℕ) → Clear j c → verdict (program_of j) c ≡ Undefined → ⊥
  -- so an undefined claim leads to one at which the reason lies
  pub cause : (c : ℕ) → verdict (program_of j) c ≡ Undefined → (d : ℕ) × LeadsTo j c d × (LeadsBack j d ⊎ Missing j d)
  -- layers show that a claim is clear, whatever rings there are without a negation
  pub layers : (c : ℕ) (layer : ℕ → ℕ) → Layered j c layer → Clear j c
  -- and where each rule of the job, looked at by itself, keeps to the layers, every claim is
  pub stratified : (layer : ℕ → ℕ) → ((r : Rule) → r ∈ j.rules → T (in_layers layer r)) → (c : ℕ) → Clear j c
