-- The record of a run (02, order 11: "two bytes a turn, worker and kind"), and the pairs of any bytes.
--   record_of j t ws   the record of the turns ws, taken one after the other from a table t
--   pairs r            how many pairs the bytes r have
--   workers_in r       the workers that its pairs name, in order
--   gives j t w k      worker w and kind k are a turn on the table t: w is below T, and k is the number of its turn's kind
--   held j t r         how many pairs hold before the first false one, each turn taken on the table that those before it leave
use Rattle.std.specs.Prelude.{ℕ, suc, ◌/◌, Bool, not, ◌||◌, List, [], ◌∷◌, length}
use Rattle.base.specs.Choose.{pick}
use Rattle.base.specs.Compare.{not_below, differs}
use Rattle.job.specs.Job.{Job}
use Rattle.turn.specs.Turn.{kind_number, turn}

-- "two bytes a turn, worker and kind"
unfoldable pub record_of : Job → List ℕ → List ℕ → List ℕ
record_of j t [] = []
record_of j t (w ∷ ws) = w ∷ kind_number (turn j t w).kind ∷ record_of j (turn j t w).table ws

abbrev pub pairs : List ℕ → ℕ
pairs r = length r / 2

unfoldable pub workers_in : List ℕ → List ℕ
workers_in [] = []
workers_in (w ∷ []) = []
workers_in (w ∷ k ∷ r) = w ∷ workers_in r

-- "a pair whose worker is not below T or whose kind isn't the turn's" is false
unfoldable pub gives : Job → List ℕ → ℕ → ℕ → Bool
gives j t w k = not (not_below w j.workers || differs k (kind_number (turn j t w).kind))

-- "goes through the pairs"
unfoldable pub held : Job → List ℕ → List ℕ → ℕ
held j t [] = 0
held j t (w ∷ []) = 0
held j t (w ∷ k ∷ r) = pick (gives j t w k) (suc (held j (turn j t w).table r)) 0
