-- The claims that a job's questions name or lead to through all literals of rules (01, 'Lists of calls'), and how a table shows the job
-- (THEORY 3: 4; 6).
--   Job         workers, how many questions each has and of which claims, and Lit x y: y is the claim of a literal of a rule of x
--   Led j c     a question names c or leads to it
--   Shows j s   next literals and questions of s are the job's
--   Known j s   what isn't fresh is led to
use Rattle.std.specs.Prelude.{◌≡◌, ℕ, suc, ◌<◌}
use Rattle.base.specs.Graph.{Reach}
use Rattle.waiting.specs.State.{State}

pub record Job : Type 1 where
  pub workers : ℕ
  pub total : ℕ → ℕ
  pub question : ℕ → ℕ → ℕ
  pub Lit : ℕ → ℕ → Type 0

pub data Led (j : Job) (c : ℕ) : Type 0 where
  led : {w i : ℕ} → w < j.workers → i < j.total w → Reach j.Lit (j.question w i) c → Led j c

pub record Shows (j : Job) (s : State) : Type 0 where
  pub next : {x y : ℕ} → s.next x ≡ suc y → j.Lit x y
  pub asks : {w q : ℕ} → s.asks w ≡ suc q → (w < j.workers) × (s.answered w < j.total w) × (j.question w (s.answered w) ≡ q)

pub record Known (j : Job) (s : State) : Type 0 where
  pub named : {c : ℕ} → 0 < s.mark c → Led j c
