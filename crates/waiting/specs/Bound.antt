-- The potential of a table, which every turn that isn't idle raises (THEORY 5).
--   Phase s w p     p is 1 if w has a question left and owns or awaits something, else 2 if its question's claim is complete, else 0
--   Late s w l      l is 1 if w awaits a claim other than its question's, else 0
--   Worth s w n     n is 3 * answered + phase - late + 1, w's part of the potential
--   Value s c n     n is 2 * cursor, and 1 more if c is complete, c's part of the potential
--   Total s A T n   n is the potential of s, of A claims and T workers
use Rattle.std.specs.Prelude.{◌≡◌, ℕ, suc, ◌+◌, ◌*◌, ◌<◌}
use Rattle.base.specs.Sum.{sum}
use Rattle.waiting.specs.State.{State, Done, Engaged}

pub data Phase (s : State) (w p : ℕ) : Type 0 where
  over : s.asks w ≡ 0 → p ≡ 0 → Phase s w p
  busy : {q : ℕ} → s.asks w ≡ suc q → Engaged s w → p ≡ 1 → Phase s w p
  due : {q : ℕ} → s.asks w ≡ suc q → (Engaged s w → ⊥) → Done s q → p ≡ 2 → Phase s w p
  ahead : {q : ℕ} → s.asks w ≡ suc q → (Engaged s w → ⊥) → s.mark q < 256 → p ≡ 0 → Phase s w p

pub data Late (s : State) (w l : ℕ) : Type 0 where
  late : {d : ℕ} → s.awaited w ≡ suc d → (s.asks w ≡ suc d → ⊥) → l ≡ 1 → Late s w l
  early : ((d : ℕ) → s.awaited w ≡ suc d → s.asks w ≡ suc d) → l ≡ 0 → Late s w l

pub record Worth (s : State) (w n : ℕ) : Type 0 where
  pub phase : ℕ
  pub late : ℕ
  pub its-phase : Phase s w phase
  pub its-late : Late s w late
  pub worth : n + late ≡ 3 * s.answered w + phase + 1

pub data Value (s : State) (c n : ℕ) : Type 0 where
  whole : Done s c → n ≡ 2 * s.cursor c + 1 → Value s c n
  part : s.mark c < 256 → n ≡ 2 * s.cursor c → Value s c n

pub record Total (s : State) (A T n : ℕ) : Type 0 where
  pub values : ℕ → ℕ
  pub worths : ℕ → ℕ
  pub value : (c : ℕ) → Value s c (values c)
  pub worth : (w : ℕ) → Worth s w (worths w)
  pub total : n ≡ sum values A + sum worths T
