-- A list of calls is its turns: what it leaves and what it tells are those of the run of the turns it makes. Assumes nothing.
--   run_append, kinds_append, events_append   one run after another
--   low_append, low_all   turns that are of the job's workers
--   turn-worker, run-workers   the workers of an accepted call
--   turns-low     every turn made is one of the job's workers
--   after-turns   the table after the list is that after its turns; events-turns   its events are theirs
use mathlib.Core.Path.{◌≡◌, refl, sym, ◌∙◌, ap, subst}
use mathlib.Core.Logic.{⊎_elim}
use mathlib.Core.List.Memᴰ
use mathlib.Core.List.{List, [], ◌∷◌, ◌++◌}
use Prim.Native.Nat.{ℕ, suc, ◌<◌}
use native.Mathlib.Omega.{arith}
use lib.ListN.{length, get_or}
use Rattle.base.proofs.Compare.{not_below_lt}
use Rattle.job.specs.Job.{Job}
use Rattle.job.specs.Format.{job_of}
use Rattle.job.specs.Check.{Check}
use Rattle.job.specs.Check.{Accepted}
use Rattle.std.specs.Prelude.{Err}
use Rattle.job.proofs.Rows.{both, row-no, scan_all}
use Rattle.turn.specs.Turn.{turn, run_table, run_kinds}
use Rattle.turn.specs.declared.Kind.{Kind}
use Rattle.calls.specs.Calls.{check_turn_worker, check_schedule, turn_check, turn_table, run_check, run_left}
use Rattle.calls.specs.Lists.{Call, turning, running, reading, left, after, unless, made, turns_of, Event, run_events, events}
use Rattle.steps.proofs.Runs.{Low}

-- one run after another
module _ (j : Job) where
  pub run_append : (ws us t : List ℕ) → run_table j t (ws ++ us) ≡ run_table j (run_table j t ws) us
  unfolding run_table
  run_append [] us t = refl
  run_append (w ∷ ws) us t = run_append ws us (turn j t w).table

  pub kinds_append : (ws us t : List ℕ) → run_kinds j t (ws ++ us) ≡ run_kinds j t ws ++ run_kinds j (run_table j t ws) us
  unfolding run_table run_kinds
  kinds_append [] us t = refl
  kinds_append (w ∷ ws) us t = ap (λ (ks : List Kind). (turn j t w).kind ∷ ks) (kinds_append ws us (turn j t w).table)

  events_append : (ws us t : List ℕ) → run_events j t (ws ++ us) ≡ run_events j t ws ++ run_events j (run_table j t ws) us
  unfolding run_table run_events
  events_append [] us t = refl
  events_append (w ∷ ws) us t =
      ap (λ (es : List Event). record { worker = w; kind = (turn j t w).kind; table = (turn j t w).table } ∷ es) (events_append ws us (turn j t w).table)

  pub low_append : (ws us : List ℕ) → Low j ws → Low j us → Low j (ws ++ us)
  low_append [] us a b v i = b v i
  low_append (w ∷ ws) us a b v i =
      ⊎_elim (λ e. a v (Memᴰ.head e)) (low_append ws us (λ u m. a u (Memᴰ.tail m)) b v) (Memᴰ.cases_cons i)

  low_none : Low j []
  low_none w i = absurd (Memᴰ.not-nil i)

  low_one : (w : ℕ) → w < j.workers → Low j (w ∷ [])
  low_one w h v i = ⊎_elim (λ e. subst (λ (u : ℕ). u < j.workers) (sym e) h) (λ n. absurd (Memᴰ.not-nil n)) (Memᴰ.cases_cons i)

  pub low_all : (ws : List ℕ) → ((i : ℕ) → i < length ws → get_or ws i 0 < j.workers) → Low j ws
  low_all [] f = low_none
  low_all (w ∷ ws) f = low_append (w ∷ []) ws (low_one w (f 0 (omega arith))) (low_all ws (λ i l. f (suc i) (omega arith)))

  unless-low : (k : Check) (ws : List ℕ) → (Accepted ≡ k → Low j ws) → Low j (unless k ws)
  unfolding unless
  unless-low Accepted ws f = f refl
  unless-low (Err refusal) ws f = low_none

module _ (s : List ℕ) where
  -- what an accepted call says of its workers
  pub turn-worker : (t : List ℕ) (w : ℕ) → Accepted ≡ turn_check s t w → w < (job_of s).workers
  unfolding turn_check check_turn_worker job_of
  turn-worker t w e = not_below_lt _ _ (row-no _ _ _ (both _ _ (both _ _ (both _ _ e).1).1).0)

  pub run-workers : (t ws : List ℕ) → Accepted ≡ run_check s t ws → (i : ℕ) → i < length ws → get_or ws i 0 < (job_of s).workers
  unfolding run_check check_schedule job_of
  run-workers t ws e i l = not_below_lt _ _ (scan_all _ _ _ _ (both _ _ (both _ _ e).1).1 i l)

  -- one call
  turn_left : (k : Check) (t : List ℕ) (w : ℕ) → turn_table k s t w ≡ run_table (job_of s) t (unless k (w ∷ []))
  unfolding turn_table run_table unless
  turn_left Accepted t w = refl
  turn_left (Err refusal) t w = refl

  run-left : (k : Check) (t ws : List ℕ) → run_left k s t ws ≡ run_table (job_of s) t (unless k ws)
  unfolding run_left run_table unless
  run-left Accepted t ws = refl
  run-left (Err refusal) t ws = refl

  pub left-made : (t : List ℕ) (x : Call) → left s t x ≡ run_table (job_of s) t (made s t x)
  unfolding left made run_table
  left-made t (turning w) = turn_left (turn_check s t w) t w
  left-made t (running ws) = run-left (run_check s t ws) t ws
  left-made t (reading c) = refl

  pub made-low : (t : List ℕ) (x : Call) → Low (job_of s) (made s t x)
  unfolding made
  made-low t (turning w) = unless-low (job_of s) (turn_check s t w) (w ∷ []) (λ e. low_one (job_of s) w (turn-worker t w e))
  made-low t (running ws) = unless-low (job_of s) (run_check s t ws) ws (λ e. low_all (job_of s) ws (run-workers t ws e))
  made-low t (reading c) = low_none (job_of s)

  -- the list
  pub turns-low : (xs : List Call) (t : List ℕ) → Low (job_of s) (turns_of s t xs)
  unfolding turns_of
  turns-low [] t = low_none (job_of s)
  turns-low (x ∷ xs) t = low_append (job_of s) (made s t x) (turns_of s (left s t x) xs) (made-low t x) (turns-low xs (left s t x))

  pub after-turns : (xs : List Call) (t : List ℕ) → after s t xs ≡ run_table (job_of s) t (turns_of s t xs)
  unfolding after turns_of run_table
  after-turns [] t = refl
  after-turns (x ∷ xs) t =
      after-turns xs (left s t x) ∙ ap (λ (u : List ℕ). run_table (job_of s) u (turns_of s (left s t x) xs)) (left-made t x)
      ∙ sym (run_append (job_of s) (made s t x) (turns_of s (left s t x) xs) t)

  pub events-turns : (xs : List Call) (t : List ℕ) → events s t xs ≡ run_events (job_of s) t (turns_of s t xs)
  unfolding events turns_of run_events
  events-turns [] t = refl
  events-turns (x ∷ xs) t =
      ap (λ (es : List Event). run_events (job_of s) t (made s t x) ++ es)
      (events-turns xs (left s t x) ∙ ap (λ (u : List ℕ). run_events (job_of s) u (turns_of s (left s t x) xs)) (left-made t x))
      ∙ sym (events_append (job_of s) (made s t x) (turns_of s (left s t x) xs) t)
