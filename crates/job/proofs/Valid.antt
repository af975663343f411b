-- Bytes with a header's counts and offsets are well formed exactly where the job that they mean is valid. Assumes nothing.
use Prim.Native.Nat.{ℕ, zero, suc, ◌+◌, ◌<◌, ◌≤◌}
use mathlib.Core.Path.{◌≡◌}
use mathlib.Core.Bool.{true}
use mathlib.Core.List.{List, []}
use mathlib.Core.Logic.{⊎_elim, by_cases}
use native.Mathlib.Decide.{dec_lt}
use native.Mathlib.Omega.{arith}
use native.Mathlib.Nat.{eq-or-lt_of_le}
use Rattle.base.specs.Span.{span}
use Rattle.base.proofs.Span.{span_none}
use Rattle.base.proofs.Members.{span_all, span_at}
use Rattle.job.specs.Job.{claim_of}
use Rattle.job.specs.Format.{claims, rules, literals, workers, questions, head_at, head_before, body_length_at, body_start, literal_at, question_at, rule_at, job_of}
use Rattle.job.specs.Accepted.{Sized, WellFormed}
use Rattle.job.specs.Encoding.{◌∈◌, Rising, Valid}
use Rattle.job.specs.declared.Literal.{Literal}
use Rattle.job.proofs.Lengths.{missing_none}
use Rattle.job.proofs.Parts.{body-within}
use Rattle.job.proofs.Written.{rules_count, questions_count, literals_count}

-- heads that never fall, by list and by index
rising : (s : List ℕ) (m i n : ℕ) → ((k : ℕ) → k < i + n → head_before s k ≤ head_at s k) → Rising (head_before s i) (span (rule_at s m) i n)
unfolding span rule_at head_before
rising s m i zero h = tt
rising s m i (suc n) h = (h i (omega arith), rising s m (suc i) n (λ k l. h k (omega arith)))

risen : (s : List ℕ) (m i n : ℕ) → Rising (head_before s i) (span (rule_at s m) i n) → (k : ℕ) → i ≤ k → k < i + n → head_before s k ≤ head_at s k
unfolding span rule_at head_before
risen s m i zero h k g l = absurd (omega arith)
risen s m i (suc n) h k g l =
    ⊎_elim (λ e. rw (← e) h.0) (λ t. risen s m (suc i) n h.1 k t (omega arith)) (eq-or-lt_of_le g)

-- the rule in whose body literal k is
record Within (s : List ℕ) (m k : ℕ) : Type 0 where
  rule : ℕ
  below : rule < m
  from : body_start s rule ≤ k
  end : k < body_start s rule + body_length_at s rule

within : (s : List ℕ) (m k : ℕ) → k < body_start s m → Within s m k
unfolding body_start
within s zero k l = absurd (omega arith)
within s (suc m) k l =
    by_cases (dec_lt k (body_start s m))
    (λ h.
    let w = within s m k h in
    record { rule = w.rule; below = omega arith; from = w.from; end = w.end })
    (λ h. record { rule = m; below = omega arith; from = omega arith; end = omega arith })

literal-within : (s : List ℕ) → Valid (job_of s) → (k : ℕ) → Within s (rules s) k → claim_of (literal_at s (rules s) k) < claims s
unfolding job_of rule_at
literal-within s v k w =
    v.literals (rule_at s (rules s) w.rule) (span_at (rule_at s (rules s)) 0 (rules s) w.rule (omega arith) (omega arith)) (literal_at s (rules s) k)
    (span_at (literal_at s (rules s)) (body_start s w.rule) (body_length_at s w.rule) k w.from w.end)

-- a literal of rule i, by its place among all literals
rule-literals : (s : List ℕ) → WellFormed s → (i : ℕ) → i < rules s → (l : Literal) → l ∈ (rule_at s (rules s) i).body → claim_of l < claims s
unfolding rule_at
rule-literals s w i h =
    span_all (λ l. claim_of l < claims s) (literal_at s (rules s)) (body_start s i) (body_length_at s i) (λ k g l. w.literal k (omega (arith, body-within s i (rules s) h, w.bodies)))

rule-missing : (s : List ℕ) (i : ℕ) → (rule_at s (rules s) i).missing ≡ true → (rule_at s (rules s) i).body ≡ []
unfolding rule_at
rule-missing s i e = span_none (literal_at s (rules s)) (body_start s i) (body_length_at s i) (omega (arith, missing_none s i e))

pub well_formed-valid : (s : List ℕ) → WellFormed s → Valid (job_of s)
unfolding job_of head_before rule_at
well_formed-valid s w =
    let z : Sized s = w.sized in
    record {
      claims_most = z.claims_most;
      rules_most = omega (arith, rules_count s);
      literals_most = omega (arith, literals_count s, w.bodies);
      workers_least = z.workers_least;
      workers_most = z.workers_most;
      questions_most = omega (arith, questions_count s);
      heads_rise = rising s (rules s) 0 (rules s) (λ k l. w.rise k (omega arith));
      heads = span_all (λ r. r.head < claims s) (rule_at s (rules s)) 0 (rules s) (λ i g l. w.head i (omega arith));
      missing = span_all (λ r. r.missing ≡ true → r.body ≡ []) (rule_at s (rules s)) 0 (rules s) (λ i g l. rule-missing s i);
      literals = span_all (λ r. (l : Literal) → l ∈ r.body → claim_of l < claims s) (rule_at s (rules s)) 0 (rules s) (λ i g l. rule-literals s w i (omega arith));
      askers = span_all (λ q. q.worker < workers s) (question_at s (rules s) (literals s)) 0 (questions s) (λ q g l. w.asker q (omega arith));
      asked = span_all (λ q. q.claim < claims s) (question_at s (rules s) (literals s)) 0 (questions s) (λ q g l. w.asked q (omega arith));
    }

pub valid_well_formed : (s : List ℕ) → Sized s → body_start s (rules s) ≡ literals s → Valid (job_of s) → WellFormed s
unfolding job_of head_before rule_at
valid_well_formed s z b v =
    record {
      sized = z;
      head = λ i l. v.heads (rule_at s (rules s) i) (span_at (rule_at s (rules s)) 0 (rules s) i (omega arith) (omega arith));
      rise = λ i l. risen s (rules s) 0 (rules s) v.heads_rise i (omega arith) (omega arith);
      bodies = b;
      literal = λ k l. literal-within s v k (within s (rules s) k (omega arith));
      asker = λ q l. v.askers (question_at s (rules s) (literals s) q) (span_at (question_at s (rules s) (literals s)) 0 (questions s) q (omega arith) (omega arith));
      asked = λ q l. v.asked (question_at s (rules s) (literals s) q) (span_at (question_at s (rules s) (literals s)) 0 (questions s) q (omega arith) (omega arith));
    }
