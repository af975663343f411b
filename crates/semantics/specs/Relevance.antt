-- Relevance: the verdicts of some claims of a program are those of a smaller program that stands for them, of any programs (proofs/Relevance).
-- In the field's terms: the well-founded semantics is relevant (Dix, 1995), an atom's verdict depends only on the rules of the atoms on which it
-- depends; and it allows partial evaluation, literals whose verdicts are known being taken out of bodies.
--   moved at l            literal l, its claim exchanged by `at`
--   Failed P b            a literal of body b is false in the model of P
--   Comes P X at i b l    literal l of a rule of the smaller program's claim i comes from body b: it is one of b's, moved; or it is i's own negation, which
--                         stands for the undefined literals of b
--   Goes P X at i b l     literal l is in body b, moved; or it is true in P; or it is undefined there, and i's own negation is in b
--   Stands P Q X at       Q stands for a part of P: the claim i of Q, one of X, for the claim `at i` of P
--   Standing P Q          the theorem: then i has in Q the verdict that `at i` has in P
--   Closed P X            X is closed under "claim of a literal of a rule"
--   SameRules X P Q       P and Q have the same rules for the claims of X
--   denied known l        literal l is false by a known verdict; stands known b   no literal of b is
--   Known known c         a verdict of c is known
--   Covers known P X      X is closed under "claim of a literal of a rule", but for rules that have failed by a known verdict, and claims with one
--   Elsewhere X known known'   known' has other verdicts than known only for claims outside X of which none is known
--   Relevance P           exchanging rules outside a closed set changes no verdict inside
use Rattle.std.specs.Prelude.{ℕ, ◌<◌, ◌≡◌, Bool, true, false, not, ◌⊎◌, ◌↔◌, T}
use Rattle.std.proofs.Math.Option.{Option, none, some}
use Rattle.base.specs.Sets.{Claims}
use Rattle.job.specs.Job.{claim_of}
use Rattle.job.specs.Encoding.{◌∈◌}
use Rattle.job.specs.declared.Literal.{Literal}
use Rattle.job.specs.declared.Literal.TheVariants.{Plain, Negated}
use Rattle.semantics.specs.Model.{Body, Program, RuleOf, all_pass, Verdict, True, False, Undefined, verdict, literal_verdict, exchange}
use Rattle.semantics.specs.Leads.{Leads}

abbrev pub moved : (ℕ → ℕ) → Literal → Literal
moved at (Plain c) = Plain (at c)
moved at (Negated c) = Negated (at c)

pub data Failed (P : Program) (b : Body) : Type 0 where
  by : (l : Literal) → l ∈ b → literal_verdict P l ≡ False → Failed P b

pub data Comes (P : Program) (X : ℕ → Type 0) (at : ℕ → ℕ) (i : ℕ) (b : Body) (l : Literal) : Type 0 where
  from : X (claim_of l) → moved at l ∈ b → Comes P X at i b l
  instead : l ≡ Negated i → (m : Literal) → m ∈ b → literal_verdict P m ≡ Undefined → Comes P X at i b l

pub data Goes (P : Program) (X : ℕ → Type 0) (at : ℕ → ℕ) (i : ℕ) (b : Body) (l : Literal) : Type 0 where
  there : (m : Literal) → m ∈ b → X (claim_of m) → moved at m ≡ l → Goes P X at i b l
  sure : literal_verdict P l ≡ True → Goes P X at i b l
  instead : literal_verdict P l ≡ Undefined → Negated i ∈ b → Goes P X at i b l

pub record Stands (P Q : Program) (X : ℕ → Type 0) (at : ℕ → ℕ) : Type 0 where
  -- every rule of P that has not failed is one of Q
  pub kept :
      (i : ℕ) (b : Body) → X i → RuleOf P (at i) b
      → Failed P b ⊎ ((c : Body) × RuleOf Q i c × ((l : Literal) → l ∈ c → Comes P X at i b l))
  -- and Q has no others
  pub only : (i : ℕ) (c : Body) → X i → RuleOf Q i c → (b : Body) × RuleOf P (at i) b × ((l : Literal) → l ∈ b → Goes P X at i c l)

abbrev pub Standing : Program → Program → Type 1
Standing P Q = (X : ℕ → Type 0) (at : ℕ → ℕ) → Stands P Q X at → (i : ℕ) → X i → verdict Q i ≡ verdict P (at i)

abbrev pub Closed : Program → (ℕ → Type 0) → Type 0
Closed P X = (c d : ℕ) → X c → Leads P c d → X d

abbrev pub SameRules : (ℕ → Type 0) → Program → Program → Type 0
SameRules X P Q = (c : ℕ) (b : Body) → X c → RuleOf P c b ↔ RuleOf Q c b

abbrev pub says_true : Option Verdict → Bool
says_true (some True) = true
says_true (some False) = false
says_true (some Undefined) = false
says_true none = false

abbrev pub says_false : Option Verdict → Bool
says_false (some True) = false
says_false (some False) = true
says_false (some Undefined) = false
says_false none = false

abbrev pub denied : (ℕ → Option Verdict) → Literal → Bool
denied known (Plain d) = says_false (known d)
denied known (Negated d) = says_true (known d)

abbrev pub stands : (ℕ → Option Verdict) → Body → Bool
stands known b = all_pass (λ l. not (denied known l)) b

abbrev pub Known : (ℕ → Option Verdict) → ℕ → Type 0
Known known d = (v : Verdict) × (known d ≡ some v)

pub record Covers (known : ℕ → Option Verdict) (P : Program) (X : ℕ → Type 0) : Type 0 where
  pub claims : (c : ℕ) (v : Verdict) → known c ≡ some v → c < P.claims
  pub rules :
      (c : ℕ) (b : Body) → X c → known c ≡ none → RuleOf P c b → T (stands known b)
      → (l : Literal) → l ∈ b → X (claim_of l) ⊎ Known known (claim_of l)

pub record Elsewhere (X : ℕ → Type 0) (known known' : ℕ → Option Verdict) : Type 0 where
  pub kept : (c : ℕ) (v : Verdict) → known c ≡ some v → known' c ≡ some v
  pub inside : (c : ℕ) → X c → known' c ≡ known c

pub record Relevance (P : Program) : Type 0 where
  -- whatever rules Q has for the claims outside X
  pub closed_set : (X : Claims) (Q : Program) → Closed P (λ c. T (X c)) → SameRules (λ c. T (X c)) P Q → (c : ℕ) → T (X c) → verdict Q c ≡ verdict P c
  -- of rules that have failed by verdicts that are exchanged, the literals need not be in X; whatever is exchanged outside X besides, False for all of it for one
  pub covered :
      (X : Claims) (known known' : ℕ → Option Verdict) → Covers known P (λ c. T (X c)) → Elsewhere (λ c. T (X c)) known known'
      → (c : ℕ) → T (X c) → verdict (exchange known' P) c ≡ verdict (exchange known P) c
