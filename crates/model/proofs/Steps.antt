-- A step of the program of a job of bytes s, by the rule that makes it. Assumes nothing.
--   claims_of               how many claims that program has
--   need-own, need-none     a rule that counts nothing for ever, for K
--   step-rule, step-missing a step by a rule, and by a missing record
--   ByStep, rule_of_step    what made a step
use Prim.Native.Nat.{ℕ, ◌<◌}
use mathlib.Core.Path.{◌≡◌, refl, ◌∙◌, subst, subst⁻¹}
use mathlib.Core.Bool.{Bool, true, false}
use mathlib.Core.List.Memᴰ
use mathlib.Core.List.{List, [], ◌∷◌}
use native.Mathlib.Omega.{arith}
use lib.Dec.{T, T_not, not_T}
use Rattle.base.specs.Sets.{Claims, one}
use Rattle.base.specs.Span.{span}
use Rattle.base.proofs.Members.{span_all, span_at}
use Rattle.job.specs.Job.{Rule}
use Rattle.job.specs.Encoding.{◌∈◌}
use Rattle.job.specs.Format.{claims, rules, head_at, missing_at, body_start, body_length_at, literal_at, rule_at, job_of}
use Rattle.job.specs.Accepted.{WellFormed}
use Rattle.job.specs.declared.Literal.{Literal}
use Rattle.job.specs.declared.Literal.TheVariants.{Plain, Negated}
use Rattle.semantics.specs.Model.{Body, body_of, bodies_by, program, program_of, holds, step}
use Rattle.semantics.proofs.Bodies.{bodies_at, bodies_out}
use Rattle.semantics.proofs.LeastSet.{step_of, step_by}
use Rattle.semantics.proofs.Extended.{either, body-missing, body_own}
use Rattle.counters.specs.Positions.{Within, need_base}

pub claims_of : (s : List ℕ) → (program_of (job_of s)).claims ≡ claims s
unfolding program job_of
claims_of s = refl

-- a rule that counts nothing for ever
module _ (s : List ℕ) (r : ℕ) where
  pub need-own : need_base s r ≡ 0 → missing_at s r ≡ false
  unfolding need_base one
  need-own = go (missing_at s r)
    where
      go : (b : Bool) → one b ≡ 0 → b ≡ false
      go true e = absurd (omega arith)
      go false e = refl

  pub need-none : missing_at s r ≡ false → need_base s r ≡ 0
  unfolding need_base one
  need-none e = rw e

-- the bodies of a claim
abbrev own_bodies : List ℕ → ℕ → List Body
own_bodies s c = bodies_by body_of (span (rule_at s (rules s)) 0 (rules s)) c

bodies-own : (s : List ℕ) (c : ℕ) → (program_of (job_of s)).bodies c ≡ own_bodies s c
unfolding program job_of
bodies-own s c = refl

-- the literals of a rule, by their positions
module _ (s : List ℕ) (S W : Claims) (r : ℕ) (l : r < rules s) where
  abbrev AllHold : Type 0
  AllHold = (p : ℕ) → Within s p r → T (holds S W (literal_at s (rules s) p))

  body_all : AllHold → (x : Literal) → x ∈ span (literal_at s (rules s)) (body_start s r) (body_length_at s r) → T (holds S W x)
  body_all f =
      span_all (λ x. T (holds S W x)) (literal_at s (rules s)) (body_start s r) (body_length_at s r)
      (λ p a b. f p record { below = l; from = a; to = b })

  body-each : ((x : Literal) → x ∈ span (literal_at s (rules s)) (body_start s r) (body_length_at s r) → T (holds S W x)) → AllHold
  body-each f p w = f (literal_at s (rules s) p) (span_at (literal_at s (rules s)) (body_start s r) (body_length_at s r) p w.from w.to)

-- a step by a rule of the job
module _ (s : List ℕ) (S W : Claims) (good : WellFormed s) (r : ℕ) (l : r < rules s) where
  by-body :
      (b : Body) → body_of (rule_at s (rules s) r) ≡ b → ((x : Literal) → x ∈ b → T (holds S W x))
      → T (step (program_of (job_of s)) S W (head_at s r))
  unfolding rule_at
  by-body b e f =
      step_of S W (program_of (job_of s)) (head_at s r) b (subst⁻¹ (λ (n : ℕ). head_at s r < n) (claims_of s) (good.head r l))
      (subst⁻¹ (λ (y : List Body). b ∈ y) (bodies-own s (head_at s r))
      (subst (λ (y : Body). y ∈ own_bodies s (head_at s r)) e
      (bodies_at body_of (span (rule_at s (rules s)) 0 (rules s)) (rule_at s (rules s) r) (head_at s r)
      (span_at (rule_at s (rules s)) 0 (rules s) r (omega arith) (omega arith)) refl)))
      (λ d k. f (Plain d) k) (λ d k. T_not (S d) (f (Negated d) k))

  pub step-rule :
      missing_at s r ≡ false → ((p : ℕ) → Within s p r → T (holds S W (literal_at s (rules s) p)))
      → T (step (program_of (job_of s)) S W (head_at s r))
  unfolding rule_at
  step-rule e f = by-body (rule_at s (rules s) r).body (body_own (rule_at s (rules s) r) e) (body_all s S W r l f)

  pub step-missing : missing_at s r ≡ true → (T (S (head_at s r)) → ⊥) → T (step (program_of (job_of s)) S W (head_at s r))
  unfolding rule_at
  step-missing e n =
      by-body (Negated (head_at s r) ∷ []) (body-missing (rule_at s (rules s) r) e refl)
      (λ x k. subst⁻¹ (λ (y : Literal). T (holds S W y)) (Memᴰ.eq_of_singleton k) (not_T (S (head_at s r)) n))

-- what made a step at claim c
pub data ByStep (s : List ℕ) (S W : Claims) (c : ℕ) : Type 0 where
  by-rule :
      (r : ℕ) → r < rules s → head_at s r ≡ c → missing_at s r ≡ false
      → ((p : ℕ) → Within s p r → T (holds S W (literal_at s (rules s) p))) → ByStep s S W c
  by-missing : (r : ℕ) → r < rules s → head_at s r ≡ c → missing_at s r ≡ true → (T (S c) → ⊥) → ByStep s S W c

module _ (s : List ℕ) (S W : Claims) (c : ℕ) where
  rule-read :
      (b : Body) → ((x : Literal) → x ∈ b → T (holds S W x)) → (i : ℕ) → i < rules s → (rule_at s (rules s) i).head ≡ c
      → b ≡ body_of (rule_at s (rules s) i) → ByStep s S W c
  unfolding rule_at
  rule-read b f i l h e =
      either (missing_at s i)
      (λ m.
      let q : b ≡ Negated c ∷ [] = e ∙ body-missing (rule_at s (rules s) i) m h in
      by-missing i l h m (T_not (S c) (f (Negated c) (subst⁻¹ (λ (y : Body). Negated c ∈ y) q (Memᴰ.head refl)))))
      (λ m.
      let q : b ≡ (rule_at s (rules s) i).body = e ∙ body_own (rule_at s (rules s) i) m in
      by-rule i l h m (body-each s S W i l (λ x k. f x (subst⁻¹ (λ (y : Body). x ∈ y) q k))))

  rule_of-body : (b : Body) → b ∈ own_bodies s c → ((x : Literal) → x ∈ b → T (holds S W x)) → ByStep s S W c
  rule_of-body b m f =
      let q = bodies_out body_of (span (rule_at s (rules s)) 0 (rules s)) c b m in
      span_all (λ (x : Rule). x.head ≡ c → b ≡ body_of x → ByStep s S W c) (rule_at s (rules s)) 0 (rules s)
      (λ i a k. rule-read b f i (omega arith)) q.0 q.1 q.2 q.3

  pub rule_of_step : T (step (program_of (job_of s)) S W c) → ByStep s S W c
  rule_of_step t =
      let q = step_by S W (program_of (job_of s)) c t in
      rule_of-body q.0 (subst (λ (y : List Body). q.0 ∈ y) (bodies-own s c) q.1) (each q.0 q.2 q.3)
    where
      each : (b : Body) → ((d : ℕ) → Plain d ∈ b → T (W d)) → ((d : ℕ) → Negated d ∈ b → T (S d) → ⊥) → (x : Literal) → x ∈ b → T (holds S W x)
      each b p n (Plain d) k = p d k
      each b p n (Negated d) k = not_T (S d) (n d k)
