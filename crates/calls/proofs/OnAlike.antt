-- Words past those used decide nothing, in any list of calls on two tables that agree on the words used. Assumes nothing.
--   by-check       what holds of every refusal, and of an accepted check
--   kinds-told     the kinds that a run's events tell
--   answers_same   the next call answers the same
--   made_same, left_agree   it makes the same turns, and leaves tables that agree
--   on_alike       so does the whole list
use Prim.Native.Nat.{ℕ, ◌<◌}
use mathlib.Core.Path.{◌≡◌, refl, sym, ◌∙◌, ap, ap₂}
use mathlib.Core.List.{List, [], ◌∷◌, ◌++◌, map, map-append}
use mathlib.Core.Logic.{◌⊎◌, inl, inr, ⊎_elim}
use Rattle.base.proofs.Compare.{not_below_lt}
use Rattle.job.specs.Format.{job_of}
use Rattle.job.specs.Job.{Job}
use Rattle.job.specs.Rows.{◌⨾◌}
use Rattle.job.specs.Checks.{check_job}
use Rattle.job.specs.Check.{Check, Accepted}
use Rattle.job.specs.declared.Refusal.{Refusal}
use Rattle.std.specs.Prelude.{Ok, Err}
use Rattle.job.proofs.Rows.{both, row-no}
use Rattle.table.specs.Ranges.{check_table, InRange}
use Rattle.table.specs.Reading.{reading_of}
use Rattle.table.proofs.Ranges.{ranges}
use Rattle.turn.specs.Turn.{turn, run_table, run_kinds}
use Rattle.turn.specs.declared.Kind.{Kind}
use Rattle.steps.specs.Agreeing.{Agree}
use Rattle.steps.proofs.Agreeing.{mark_same}
use Rattle.steps.proofs.SameTurns.{turn-alike, run-alike}
use Rattle.steps.proofs.SameChecks.{check_same}
use Rattle.calls.specs.Calls.{check_turn_worker, check_schedule, check_claim_read, turn_check, turn_answer, run_check, tally, run_tally, run_answer, read_check, read_answer, answered}
use Rattle.calls.specs.Lists.{Call, turning, running, reading, left, after, unless, made, turns_of, Event, run_events, events}
use Rattle.calls.specs.Alike.{SameAnswers, Alike}
use Rattle.calls.proofs.Histories.{low_all, turn-worker, run-workers, left-made, made-low}
use Rattle.calls.proofs.OnLists.{ok}

by-check : (P : Check → Type 0) → ((e : Refusal) → P (Err e)) → (k : Check) → (Accepted ≡ k → P Accepted) → P k
by-check P f Accepted g = g refl
by-check P f (Err e) g = f e

-- an answer by a check whose value is the same
answered_same : {A : Type 0} (k : Check) {x y : A} → (Accepted ≡ k → x ≡ y) → answered k x ≡ answered k y
unfolding answered
answered_same k {x} {y} f = by-check (λ (k : Check). answered k x ≡ answered k y) (λ e. refl) k (λ q. ap Ok (f q))

abbrev kinds_in : List Event → List Kind
kinds_in es = map (λ (e : Event). e.kind) es

kinds-told : (j : Job) (ws t : List ℕ) → kinds_in (run_events j t ws) ≡ run_kinds j t ws
unfolding run_events run_kinds
kinds-told j [] t = refl
kinds-told j (w ∷ ws) t = ap (λ (ks : List Kind). (turn j t w).kind ∷ ks) (kinds-told j ws (turn j t w).table)

module _ (s : List ℕ) (e : Accepted ≡ check_job s) {t u : List ℕ} (a : Agree (job_of s) t u) where
  -- a call's checks, of which only those of the table see it
  checks_same : (x : Check) → check_job s ⨾ check_table (job_of s) t ⨾ x ≡ check_job s ⨾ check_table (job_of s) u ⨾ x
  checks_same x = ap (λ (y : Check). check_job s ⨾ y ⨾ x) (check_same a)

  in-range : (x : Check) → Accepted ≡ check_job s ⨾ check_table (job_of s) t ⨾ x → InRange (job_of s) t
  in-range x q = (ranges (job_of s) t (both _ _ (both _ _ q).1).0).0

  claim-read : (c : ℕ) → Accepted ≡ read_check s t c → c < (job_of s).claims
  unfolding read_check check_claim_read job_of
  claim-read c q = not_below_lt _ _ (row-no _ _ _ (both _ _ (both _ _ (both _ _ q).1).1).0)

  -- what the next call answers
  turn-answers : (w : ℕ) → turn_answer (turn_check s t w) s t w ≡ turn_answer (turn_check s u w) s u w
  unfolding turn_check
  turn-answers w =
      answered_same (turn_check s t w) (λ q. (turn-alike (ok s e) a w (turn-worker s t w q) (in-range (check_turn_worker s w) q)).kind)
      ∙ ap (λ (k : Check). turn_answer k s u w) (checks_same (check_turn_worker s w))

  tallies_same : (ws : List ℕ) → run_tally (run_check s t ws) s t ws ≡ run_tally (run_check s u ws) s u ws
  unfolding run_check run_tally
  tallies_same ws =
      by-check (λ (k : Check). run_tally k s t ws ≡ run_tally k s u ws) (λ e. refl) (run_check s t ws)
      (λ q. ap tally (run-alike (ok s e) ws (in-range (check_schedule s ws) q) a (low_all (job_of s) ws (run-workers s t ws q))).0)
      ∙ ap (λ (k : Check). run_tally k s u ws) (checks_same (check_schedule s ws))

  run-answers : (ws : List ℕ) → run_answer s t ws ≡ run_answer s u ws
  unfolding run_check
  run-answers ws =
      answered_same (run_check s t ws) (λ q. ap tally (run-alike (ok s e) ws (in-range (check_schedule s ws) q) a (low_all (job_of s) ws (run-workers s t ws q))).0)
      ∙ ap (λ (k : Check). answered k (tally (run_kinds (job_of s) u ws))) (checks_same (check_schedule s ws))

  read-answers : (c : ℕ) → read_answer (read_check s t c) t c ≡ read_answer (read_check s u c) u c
  unfolding read_check
  read-answers c =
      answered_same (read_check s t c) (λ q. ap reading_of (mark_same a c (claim-read c q)))
      ∙ ap (λ (k : Check). read_answer k u c) (checks_same (check_claim_read s c))

  answers_same : SameAnswers s t u
  answers_same = record { turns = turn-answers; runs = run-answers; reads = read-answers; tallies = tallies_same }

  -- the turns that it makes
  made_same : (x : Call) → made s t x ≡ made s u x
  unfolding made turn_check run_check
  made_same (turning w) = ap (λ (k : Check). unless k (w ∷ [])) (checks_same (check_turn_worker s w))
  made_same (running ws) = ap (λ (k : Check). unless k ws) (checks_same (check_schedule s ws))
  made_same (reading c) = refl

  -- it makes none, or the table is in range
  none_or_range : (x : Call) → (made s t x ≡ []) ⊎ InRange (job_of s) t
  unfolding made unless turn_check run_check
  none_or_range (turning w) =
      by-check (λ (k : Check). (unless k (w ∷ []) ≡ []) ⊎ InRange (job_of s) t) (λ e. inl refl) (turn_check s t w) (λ q. inr (in-range (check_turn_worker s w) q))
  none_or_range (running ws) =
      by-check (λ (k : Check). (unless k ws ≡ []) ⊎ InRange (job_of s) t) (λ e. inl refl) (run_check s t ws) (λ q. inr (in-range (check_schedule s ws) q))
  none_or_range (reading c) = inl refl

  run-made : (x : Call) → (run_kinds (job_of s) t (made s t x) ≡ run_kinds (job_of s) u (made s t x)) × Agree (job_of s) (run_table (job_of s) t (made s t x)) (run_table (job_of s) u (made s t x))
  unfolding run_kinds run_table
  run-made x = ⊎_elim (λ z. rw z (refl, a)) (λ R. run-alike (ok s e) (made s t x) R a (made-low s t x)) (none_or_range x)

  left_agree : (x : Call) → Agree (job_of s) (left s t x) (left s u x)
  left_agree x = rw (left-made s t x, left-made s u x, ← made_same x) (run-made x).1

  kinds_same : (x : Call) → kinds_in (run_events (job_of s) t (made s t x)) ≡ kinds_in (run_events (job_of s) u (made s u x))
  kinds_same x =
      kinds-told (job_of s) (made s t x) t ∙ (run-made x).0 ∙ ap (run_kinds (job_of s) u) (made_same x) ∙ sym (kinds-told (job_of s) (made s u x) u)

pub on_alike : (s : List ℕ) → Accepted ≡ check_job s → (xs : List Call) {t u : List ℕ} → Agree (job_of s) t u → Alike s t u xs
unfolding after turns_of events
on_alike s e [] a = record { words = a; answers = answers_same s e a; turns = refl; kinds = refl }
on_alike s e (x ∷ xs) {t} {u} a =
    let n = on_alike s e xs (left_agree s e a x) in
    record {
      words = n.words;
      answers = n.answers;
      turns = ap₂ ◌++◌ (made_same s e a x) n.turns;
      kinds =
          map-append (λ (d : Event). d.kind) (run_events (job_of s) t (made s t x)) (events s (left s t x) xs)
          ∙ ap₂ ◌++◌ (kinds_same s e a x) n.kinds
          ∙ sym (map-append (λ (d : Event). d.kind) (run_events (job_of s) u (made s u x)) (events s (left s u x) xs));
    }
