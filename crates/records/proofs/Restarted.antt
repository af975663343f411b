-- A new start of a table that turns made is the start before them: words past those used never change. Assumes nothing.
--   start_like    tables that agree past the words used are started alike
--   start-again   a start of a started table changes nothing
--   start-turn    a start after a turn is that before it
use Prim.Native.Nat.{ℕ, ◌+◌, ◌-◌, ◌≤◌, ◌<◌}
use mathlib.Core.Path.{◌≡◌, sym, ◌∙◌, ap}
use mathlib.Core.List.{List, ◌++◌}
use native.Mathlib.Omega.{arith}
use lib.ListN.{length, get_or, drop, replicate, length-drop, length-replicate}
use lib.Seq.{ext_get_or, get_or-drop, drop_at}
use Rattle.job.specs.Job.{Job}
use Rattle.table.specs.Layout.{used, fixed_words, header}
use Rattle.table.specs.Ranges.{InRange}
use Rattle.table.specs.Start.{start_words}
use Rattle.turn.specs.Turn.{turn}
use Rattle.turn.proofs.Jobs.{JobOk}
use Rattle.turn.proofs.Lengths.{turn-length}
use Rattle.steps.proofs.Past.{turn-past}

module _ (j : Job) where
  pub start_like : (t u : List ℕ) → length u ≡ length t → ((i : ℕ) → used j ≤ i → get_or u i 0 ≡ get_or t i 0) → start_words j u ≡ start_words j t
  unfolding start_words
  start_like t u n same =
      let rest : drop (used j) u ≡ drop (used j) t =
      ext_get_or 0 (drop (used j) u) (drop (used j) t) (omega (arith, length-drop (used j) u, length-drop (used j) t))
      (λ i h. get_or-drop (used j) u i 0 ∙ (same (used j + i) (omega arith) ∙ sym (get_or-drop (used j) t i 0))) in
      ap (λ (x : List ℕ). header j ++ replicate (used j - fixed_words) 0 ++ x) rest

  pub start-again : (t : List ℕ) → start_words j (start_words j t) ≡ start_words j t
  unfolding start_words header
  start-again t =
      ap (λ (x : List ℕ). header j ++ replicate (used j - fixed_words) 0 ++ x)
      (drop_at (header j ++ replicate (used j - fixed_words) 0) (drop (used j) t) (used j) (simp (length-replicate) (omega arith)))

  pub start-turn : JobOk j → (t : List ℕ) → InRange j t → (w : ℕ) → w < j.workers → start_words j (turn j t w).table ≡ start_words j t
  start-turn J t r w l = start_like t (turn j t w).table (turn-length j t w) (turn-past j J t r w l)
