-- The record of some turns. Assumes nothing.
--   record-length    two bytes a turn
--   record-pairs     worker and kind of each turn
--   record-workers   the workers that it names are those of the turns
--   record_same      turns of the same kinds have the same record
use Prim.Native.Nat.{ℕ, zero, suc, ◌+◌, ◌*◌, ◌<◌}
use mathlib.Core.Path.{◌≡◌, refl, ◌∙◌, ap, ap₂}
use mathlib.Core.List.{List, [], ◌∷◌}
use native.Mathlib.Omega.{arith}
use lib.ListN.{length, get_or, drop}
use Rattle.job.specs.Job.{Job}
use Rattle.turn.specs.Turn.{kind_number, turn, run_kinds}
use Rattle.turn.specs.declared.Kind.{Kind}
use Rattle.turn.specs.declared.Kind.TheVariants.{Idle}
use Rattle.records.specs.Record.{record_of, workers_in}

module _ (j : Job) where
  pub record-length : (ws t : List ℕ) → length (record_of j t ws) ≡ 2 * length ws
  unfolding record_of
  record-length [] t = refl
  record-length (w ∷ ws) t = omega (arith, record-length ws (turn j t w).table)

  pub record-pairs : (ws t : List ℕ) (k : ℕ) → k < length ws → (get_or (record_of j t ws) (2 * k) 0 ≡ get_or ws k 0) × (get_or (record_of j t ws) (2 * k + 1) 0 ≡ kind_number (get_or (run_kinds j t ws) k Idle))
  unfolding record_of run_kinds
  record-pairs [] t k l = absurd (omega arith)
  record-pairs (w ∷ ws) t zero l = (refl, refl)
  record-pairs (w ∷ ws) t (suc k) l =
      let r = record-pairs ws (turn j t w).table k (omega arith) in
      let a : 2 * suc k ≡ suc (suc (2 * k)) = omega arith in
      let b : 2 * suc k + 1 ≡ suc (suc (2 * k + 1)) = omega arith in
      (ap (λ (n : ℕ). get_or (record_of j t (w ∷ ws)) n 0) a ∙ r.0, ap (λ (n : ℕ). get_or (record_of j t (w ∷ ws)) n 0) b ∙ r.1)

  pub record-workers : (ws t : List ℕ) → workers_in (record_of j t ws) ≡ ws
  unfolding workers_in record_of
  record-workers [] t = refl
  record-workers (w ∷ ws) t = ap (λ (x : List ℕ). w ∷ x) (record-workers ws (turn j t w).table)

  pub record_same : (ws t u : List ℕ) → run_kinds j t ws ≡ run_kinds j u ws → record_of j t ws ≡ record_of j u ws
  unfolding record_of run_kinds
  record_same [] t u e = refl
  record_same (w ∷ ws) t u e =
      ap₂ (λ (k : Kind) (x : List ℕ). w ∷ kind_number k ∷ x) (ap (λ (ks : List Kind). get_or ks 0 Idle) e)
      (record_same ws (turn j t w).table (turn j u w).table (ap (drop 1) e))
