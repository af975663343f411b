-- Turns one after the other, and rounds of them (01, 'Lists of calls'; THEORY 5).
--   Sizes             the job's sizes: of its A claims c has `size c` literals, of its T workers w has `total w` questions
--   bound j           2 L + A + 3 Q, the rounds after which all is answered
--   Ranged j s        the words of s are in their ranges
--   Run j s ws s'     turns of the workers ws, in order, lead from s to s'
--   Rounds T k ws     ws begins with k rounds, stretches that name every worker
--   AllAnswered T s   no worker has a question left
use Rattle.std.specs.Prelude.{◌≡◌, ℕ, suc, ◌+◌, ◌*◌, ◌≤◌, ◌<◌}
use mathlib.Core.List.{List, [], ◌∷◌, ◌++◌, Memᴰ}
use Rattle.base.specs.Sum.{sum}
use Rattle.waiting.specs.State.{State}
use Rattle.waiting.specs.Steps.{Step, Ready, Finite}

pub record Sizes : Type 0 where
  pub A : ℕ
  pub T : ℕ
  pub size : ℕ → ℕ
  pub total : ℕ → ℕ

abbrev pub bound : Sizes → ℕ
bound j = 2 * sum j.size j.A + j.A + 3 * sum j.total j.T

pub record Ranged (j : Sizes) (s : State) : Type 0 where
  pub finite : Finite s j.A
  pub cursors : (c : ℕ) → s.cursor c ≤ j.size c
  pub answers : (w : ℕ) → s.answered w ≤ j.total w
  pub open-question : {w q : ℕ} → s.asks w ≡ suc q → s.answered w < j.total w

pub data Run (j : Sizes) : State → List ℕ → State → Type 1 where
  stop : {s : State} → Run j s [] s
  moved : {s s₁ s₂ : State} {w : ℕ} {ws : List ℕ} → w < j.T → Step j.T w s s₁ → Ranged j s₁ → Run j s₁ ws s₂ → Run j s (w ∷ ws) s₂
  idled : {s s₂ : State} {w : ℕ} {ws : List ℕ} → w < j.T → (Ready s w → ⊥) → Run j s ws s₂ → Run j s (w ∷ ws) s₂

pub data Rounds (T : ℕ) : ℕ → List ℕ → Type 0 where
  none : {ws : List ℕ} → Rounds T 0 ws
  round : {k : ℕ} (r : List ℕ) {ws : List ℕ} → ((w : ℕ) → w < T → Memᴰ w r) → Rounds T k ws → Rounds T (suc k) (r ++ ws)

abbrev pub AllAnswered : ℕ → State → Type 0
AllAnswered T s = (w : ℕ) → w < T → s.asks w ≡ 0
