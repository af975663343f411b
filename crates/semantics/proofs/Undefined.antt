-- Which claims of a job are not undefined, by what they lead to (specs/Leads: NotUndefined). Assumes nothing.
--   use_or, path_or    a literal of the program is one of the job's rules, unless a missing record stands for it; so of a path
--   cause              why a claim is undefined
--   in-layers-clear    what stands in layers is clear; by-rules   rules that keep to the layers show that it does
--   not_undefined      the theorem
use Prim.Native.Nat.{ℕ, ◌≤◌}
use mathlib.Core.Path.{◌≡◌, refl, ◌∙◌, subst}
use mathlib.Core.Bool.{not}
use mathlib.Core.Logic.{◌⊎◌, inl, inr, ⊎_elim}
use native.Mathlib.Omega.{arith}
use lib.Dec.{T, T_not, leb→le, ltb→lt}
use Rattle.base.specs.Graph.{Reach, here, step}
use Rattle.base.proofs.Bools.{is, and_left, and_right}
use Rattle.base.proofs.Paths.{trans, one}
use Rattle.job.specs.Job.{Rule, Job, claim_of}
use Rattle.job.specs.Encoding.{◌∈◌}
use Rattle.job.specs.declared.Literal.{Literal}
use Rattle.job.specs.declared.Literal.TheVariants.{Plain, Negated}
use Rattle.semantics.specs.Model.{Body, body_of, program, program_of, all_pass, Undefined, verdict}
use Rattle.semantics.specs.Missing.{Missing, as_written}
use Rattle.semantics.specs.Leads.{Uses, Leads, ThroughNegation, LeadsTo, LeadsBack, Clear, Layered, lower, in_layers, NotUndefined}
use Rattle.semantics.proofs.Heads.{pass-each}
use Rattle.semantics.proofs.Bodies.{bodies_at, bodies_out}
use Rattle.semantics.proofs.Extended.{either, body_own}
use Rattle.semantics.proofs.Rings.{undefined-ring}

module _ (j : Job) where
  abbrev Reason : ℕ → Type 0
  Reason c = (d : ℕ) × LeadsTo j c d × (LeadsBack j d ⊎ Missing j d)

  use_or : (c : ℕ) (l : Literal) → Uses (program_of j) c l → Uses (as_written j) c l ⊎ Reason c
  unfolding program
  use_or c l (b, r, m) =
      let q = bodies_out body_of j.rules c b r.1 in
      either q.0.missing (λ e. inr (c, here, inr (q.0, q.1, q.2, e)))
      (λ e.
      inl (q.0.body, (r.0, bodies_at (λ (x : Rule). x.body) j.rules q.0 c q.1 q.2), subst (λ (x : Body). l ∈ x) (q.3 ∙ body_own q.0 e) m))

  further : {c x : ℕ} → LeadsTo j c x → Reason x → Reason c
  further p (d, q, w) = (d, trans p q, w)

  -- a path of the program is one of the job, or meets a missing record
  path_or : {c d : ℕ} → Reach (Leads (program_of j)) c d → LeadsTo j c d ⊎ Reason c
  path_or here = inl here
  path_or (step {x = c} (l, u, e) p) =
      ⊎_elim (λ v. ⊎_elim (λ q. inl (step (l, v, e) q)) (λ w. inr (further (one (l, v, e)) w)) (path_or p)) inr (use_or c l u)

  -- where a reason was met, that one
  unless : {A : Type 0} {c : ℕ} → A ⊎ Reason c → (A → Reason c) → Reason c
  unless (inl a) f = f a
  unless (inr w) f = w

  -- the ring that undefined claims lead to, step by step by the job's rules
  around : (c : ℕ) → (d : ℕ) × Reach (Leads (program_of j)) c d × ThroughNegation (program_of j) d d → Reason c
  around c (d, r, (x, y, p, n, q)) =
      unless (path_or r) (λ to. further to (
      unless (path_or p) (λ there. further there (
      unless (use_or x (Negated y) n) (λ denied. further (one (Negated y, denied, refl)) (
      unless (path_or q) (λ back. (d, back, inl (x, y, there, denied, back)))))))))

  cause : (c : ℕ) → verdict (program_of j) c ≡ Undefined → Reason c
  cause c e = around c (undefined-ring (program_of j) c e)

  module _ (c : ℕ) (layer : ℕ → ℕ) (in-layers : Layered j c layer) where
    not_higher : (x : ℕ) (l : Literal) → LeadsTo j c x → Uses (as_written j) x l → layer (claim_of l) ≤ layer x
    not_higher x (Plain y) r u = in-layers.plain x y r u
    not_higher x (Negated y) r u = omega (arith, in-layers.negated x y r u)

    descends : {x y : ℕ} → LeadsTo j c x → LeadsTo j x y → layer y ≤ layer x
    descends r here = omega arith
    descends r (step {x = x} {y = y} (l, u, e) p) =
        let first : layer y ≤ layer x = subst (λ (z : ℕ). layer z ≤ layer x) e (not_higher x l r u) in
        omega (arith, first, descends (trans r (one (l, u, e))) p)

    not_back : (d : ℕ) → LeadsTo j c d → LeadsBack j d → ⊥
    not_back d r (x, y, p, n, q) =
        let at_x = trans r p in
        let at_y = trans at_x (one (Negated y, n, refl)) in
        omega (arith, descends r p, in-layers.negated x y at_x n, descends at_y q)

  module _ (layer : ℕ → ℕ) (each : (r : Rule) → r ∈ j.rules → T (in_layers layer r)) where
    use-lower : (c : ℕ) (l : Literal) → Uses (as_written j) c l → T (lower layer c l)
    use-lower c l (b, r, m) =
        let q = bodies_out (λ (x : Rule). x.body) j.rules c b r.1 in
        let all = and_right (not q.0.missing) (all_pass (lower layer q.0.head) q.0.body) (each q.0 q.1) in
        subst (λ (h : ℕ). T (lower layer h l)) q.2 (pass-each (lower layer q.0.head) q.0.body all l (subst (λ (x : Body). l ∈ x) q.3 m))

    no-missing : (c : ℕ) → Missing j c → ⊥
    no-missing c (r, m, h, e) =
        T_not r.missing (and_left (not r.missing) (all_pass (lower layer r.head) r.body) (each r m)) (is r.missing e)

    by-rules : (c : ℕ) → Layered j c layer
    by-rules c =
        record {
          plain = λ x y r u. leb→le (layer y) (layer x) (use-lower x (Plain y) u);
          negated = λ x y r u. ltb→lt (layer y) (layer x) (use-lower x (Negated y) u);
          measured = λ x r. no-missing x;
        }

  in-layers-clear : (c : ℕ) (layer : ℕ → ℕ) → Layered j c layer → Clear j c
  in-layers-clear c layer h d r = (not_back c layer h d r, h.measured d r)

  pub not_undefined : NotUndefined j
  not_undefined =
      record {
        clear = λ c clear e. let w = cause c e in ⊎_elim (clear w.0 w.1).0 (clear w.0 w.1).1 w.2;
        cause = cause;
        layers = in-layers-clear;
        stratified = λ layer each c. in-layers-clear c layer (by-rules layer each c);
      }
