-- The turns of a listing: those of the schedule, then those that finish. Assumes nothing.
--   kinds-length  as many kinds as turns
--   play-ready    the table after the schedule is in range
--   few-counts    the counts after the schedule are small
--   play-done     both parts together are the turns played
--   counts-eight  their tally has eight counts
use Prim.Native.Nat.{ℕ, ◌+◌, ◌≤◌, ◌<◌}
use mathlib.Core.Path.{◌≡◌, refl, sym, ◌∙◌, ap, ap₂, subst}
use mathlib.Core.List.{List, [], ◌∷◌}
use native.Mathlib.Omega.{arith}
use lib.ListN.{length, get_or, set, replicate, length-set}
use Rattle.job.specs.Job.{Job}
use Rattle.job.specs.Accepted.{WellFormed}
use Rattle.job.specs.Format.{workers, job_of}
use Rattle.table.specs.Layout.{used}
use Rattle.table.specs.Newest.{NewestKept}
use Rattle.table.specs.Ranges.{InRange}
use Rattle.table.specs.Start.{start_words}
use Rattle.turn.specs.Turn.{kind_number, turn, run_table, run_kinds}
use Rattle.turn.specs.declared.Kind.{Kind}
use Rattle.calls.specs.Calls.{counted, tally}
use Rattle.turn.proofs.Jobs.{job_ok}
use Rattle.steps.proofs.Starting.{start-started, started_range, started-newests}
use Rattle.steps.proofs.Runs.{Low, made-start, made-run}
use Rattle.calls.proofs.Histories.{run_append, kinds_append, low_all}
use Rattle.calls.proofs.Tallies.{tally_append, tally-few}
use Rattle.listing.specs.Finish.{finish_turns, most}
use Rattle.listing.specs.Listing.{played}

pub kinds-length : (j : Job) (ws t : List ℕ) → length (run_kinds j t ws) ≡ length ws
unfolding run_kinds
kinds-length j [] t = refl
kinds-length j (w ∷ ws) t = omega (arith, kinds-length j ws (turn j t w).table)

module _ (s t : List ℕ) (good : WellFormed s) (room : used (job_of s) ≤ length t) where
  pub start-ready : {u : List ℕ} → u ≡ start_words (job_of s) t → InRange (job_of s) u × NewestKept (job_of s) u
  start-ready {u} e =
      let a = start-started (job_of s) t room in
      (subst (InRange (job_of s)) (sym e) (started_range a), subst (NewestKept (job_of s)) (sym e) (started-newests a))

  pub play-ready :
      (ws : List ℕ) → ((i : ℕ) → i < length ws → get_or ws i 0 < workers s) → {u v : List ℕ} → u ≡ start_words (job_of s) t
      → v ≡ run_table (job_of s) u ws → InRange (job_of s) v × NewestKept (job_of s) v
  unfolding job_of
  play-ready ws low e q =
      let l : Low (job_of s) ws = low_all (job_of s) ws low in
      let m = made-run (job_of s) (job_ok s good) ws (start_words (job_of s) t) (made-start (start-started (job_of s) t room)) l in
      let z = sym (q ∙ ap (λ (x : List ℕ). run_table (job_of s) x ws) e) in
      (subst (InRange (job_of s)) z m.range, subst (NewestKept (job_of s)) z m.newests)

pub few-counts :
    (j : Job) (ws u : List ℕ) {counts : List ℕ} → counts ≡ tally (run_kinds j u ws) → length ws ≤ 65536 → (k : ℕ) → get_or counts k 0 < 4294967296
few-counts j ws u e h k = omega (arith, ap (λ (x : List ℕ). get_or x k 0) e, tally-few (run_kinds j u ws) k, kinds-length j ws u)

module _ (j : Job) (ws : List ℕ) where
  abbrev last : List ℕ → List ℕ
  last v = finish_turns (most j) j v 0

  tallies : (u : List ℕ) → counted (tally (run_kinds j u ws)) (run_kinds j (run_table j u ws) (last (run_table j u ws))) ≡ tally (run_kinds j u (played j u ws))
  unfolding played
  tallies u =
      sym (ap tally (kinds_append j ws (last (run_table j u ws)) u) ∙ tally_append (run_kinds j u ws) (run_kinds j (run_table j u ws) (last (run_table j u ws))))

  tables : (u : List ℕ) → run_table j (run_table j u ws) (last (run_table j u ws)) ≡ run_table j u (played j u ws)
  unfolding played
  tables u = sym (run_append j ws (last (run_table j u ws)) u)

  pub play-done :
      {u₀ u v x counts r : List ℕ} → u ≡ u₀ → counts ≡ tally (run_kinds j u ws) → v ≡ run_table j u ws
      → r ≡ counted counts (run_kinds j v (finish_turns (most j) j v 0)) → x ≡ run_table j v (finish_turns (most j) j v 0)
      → (r ≡ tally (run_kinds j u₀ (played j u₀ ws))) × (x ≡ run_table j u₀ (played j u₀ ws))
  play-done {u₀ = u₀} {u = u} e n m p q =
      let c = n ∙ ap (λ (y : List ℕ). tally (run_kinds j y ws)) e in
      let d = m ∙ ap (λ (y : List ℕ). run_table j y ws) e in
      (p ∙ ap₂ (λ (y z : List ℕ). counted y (run_kinds j z (last z))) c d ∙ tallies u₀, q ∙ ap (λ (z : List ℕ). run_table j z (last z)) d ∙ tables u₀)

-- a tally has eight counts
counted-length : (ns : List ℕ) (ks : List Kind) → length (counted ns ks) ≡ length ns
unfolding counted
counted-length ns [] = refl
counted-length ns (k ∷ ks) =
    counted-length (set ns (kind_number k) (get_or ns (kind_number k) 0 + 1)) ks
    ∙ length-set ns (kind_number k) (get_or ns (kind_number k) 0 + 1)

pub counts-eight : (j : Job) (ws t : List ℕ) {ns : List ℕ} → ns ≡ tally (run_kinds j (start_words j t) (played j (start_words j t) ws)) → length ns ≡ 8
unfolding tally
counts-eight j ws t e = ap length e ∙ counted-length (replicate 8 0) (run_kinds j (start_words j t) (played j (start_words j t) ws))
