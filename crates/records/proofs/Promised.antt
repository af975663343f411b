-- What records and replays promise of an accepted job, clause by clause. Assumes nothing.
--   refused-row     which row refused, and where
--   ends_in, before, runs, once, bytes, elsewhere   the clauses of OnRecord
--   unstarted       the clause of Answered
use Prim.Native.Nat.{ℕ, ◌*◌, ◌%◌, ◌≤◌}
use mathlib.Core.Path.{◌≡◌, refl, sym, ◌∙◌, ap, subst}
use mathlib.Core.Bool.{Bool, true, false}
use mathlib.Core.List.{List, [], ◌++◌}
use mathlib.Core.Logic.{by_cases}
use native.Mathlib.Omega.{arith}
use native.Mathlib.Decide.{ℕ_discrete}
use lib.ListN.{length, take, drop, replicate, length-append, length-drop}
use lib.Seq.{take_at, drop_at}
use Rattle.base.specs.Compare.{under}
use Rattle.job.specs.Job.{Job}
use Rattle.job.specs.Format.{job_of}
use Rattle.job.specs.Rows.{◌⨾◌, row}
use Rattle.job.specs.Checks.{check_job}
use Rattle.job.specs.Check.{Check, Accepted, Refused}
use Rattle.std.specs.Prelude.{Result, Ok, Err}
use Rattle.records.specs.declared.Stopped.{Stopped}
use Rattle.job.proofs.Rows.{halt}
use Rattle.job.proofs.Accepted.{well_formed}
use Rattle.table.specs.Start.{start_words}
use Rattle.turn.specs.Turn.{run_table, run_kinds}
use Rattle.turn.proofs.Jobs.{job_ok}
use Rattle.steps.specs.Agreeing.{Agree}
use Rattle.steps.proofs.Starting.{start-length, start-started, started_range}
use Rattle.steps.proofs.SameTurns.{run-alike, start_agree}
use Rattle.calls.specs.Calls.{Named, start_check, start_table, check_schedule, tally, run_tally, run_check, run_answer, run_left}
use Rattle.calls.specs.Lists.{after}
use Rattle.calls.specs.Promise.{Fresh}
use Rattle.calls.proofs.Histories.{low_all}
use Rattle.calls.proofs.Demands.{promise}
use Rattle.records.specs.Record.{record_of, pairs, workers_in, held}
use Rattle.records.specs.Answers.{check_buffer, record_check, record_table, record_tally, record_bytes, check_pairs, replay_rows, replay_check, replay_answer, replay_table, replay_tally}
use Rattle.records.specs.Laws.{started, Given, taken, Elsewhere}
use Rattle.records.proofs.Recorded.{record-length, record_same}
use Rattle.records.proofs.ByRows.{starts, even_rows, odd_rows, by-pairs, given_even, given-workers, replay-exactly}
use Rattle.records.proofs.Restarted.{start-again}

-- the number and the place of a refusal
unfoldable number_of : Check → ℕ
number_of Accepted = 0
number_of (Err refusal) = refusal.number

unfoldable place_of : Check → ℕ
place_of Accepted = 0
place_of (Err refusal) = refusal.place

refused-row : (b : Bool) (n p m k : ℕ) → row b n p ⨾ Accepted ≡ Refused m k → (m ≡ n) × (k ≡ p)
unfolding row ◌⨾◌ number_of place_of
refused-row true n p m k e = (sym (ap number_of e), sym (ap place_of e))
refused-row false n p m k e = let z : ◌≡◌ {A = ℕ} 0 1 = cc in absurd (omega arith)

-- what a replay's answer says of its check and of its tally
pub replayed-ok : (counts : List ℕ) (x : Check) {r : Result (List ℕ) Stopped} {ns : List ℕ} → r ≡ replay_answer x counts → r ≡ Ok ns → (Accepted ≡ x) × (ns ≡ counts)
unfolding replay_answer
replayed-ok counts Accepted a b = (refl, cc)
replayed-ok counts (Err refusal) a b = let z : ◌≡◌ {A = ℕ} 0 1 = cc in absurd (omega arith)

pub replayed-err : (counts : List ℕ) (x : Check) {r : Result (List ℕ) Stopped} {e : Stopped} → r ≡ replay_answer x counts → r ≡ Err e → (Err e.refusal ≡ x) × (e.tally ≡ counts)
unfolding replay_answer
replayed-err counts Accepted a b = let z : ◌≡◌ {A = ℕ} 0 1 = cc in absurd (omega arith)
replayed-err counts (Err refusal) {r} {e} a b =
    let q : record { refusal = refusal; tally = counts } ≡ e = cc in
    (ap (λ (y : Stopped). Err y.refusal) (sym q), ap (λ (y : Stopped). y.tally) (sym q))

-- refused by another number than 24, a replay isn't started
unstarted-by : (number place : ℕ) (s t r : List ℕ) (k : Check) → k ⨾ check_pairs (job_of s) (start_words (job_of s) t) r ≡ Refused number place → (number ≡ 24 → ⊥) → (replay_table k s t r ≡ t) × (replay_tally k s t r ≡ replicate 8 0)
unfolding ◌⨾◌ check_pairs replay_table replay_tally
unstarted-by number place s t r (Err refusal) e other = (refl, refl)
unstarted-by number place s t r Accepted e other = absurd (other (refused-row _ _ _ number place e).0)

pub unstarted : (number place : ℕ) (s t r : List ℕ) → replay_check s t r ≡ Refused number place → (number ≡ 24 → ⊥) → (replay_table (replay_rows s t r) s t r ≡ t) × (replay_tally (replay_rows s t r) s t r ≡ replicate 8 0)
unfolding replay_check
unstarted number place s t r e other = unstarted-by number place s t r (replay_rows s t r) e other

module _ (s : List ℕ) (e : Accepted ≡ check_job s) where
  abbrev j : Job
  j = job_of s

  module _ (t : List ℕ) (room : Fresh s t) where
    -- "and ends in the recorded run's table."
    pub ends_in : (r : List ℕ) (g : Given s t r) → (replay_table (replay_rows s t r) s t r ≡ record_table Accepted s t g.schedule) × (replay_tally (replay_rows s t r) s t r ≡ record_tally Accepted s t g.schedule)
    unfolding replay_table replay_tally record_table record_tally
    ends_in r g =
        let q = sym (even_rows s t (sym e) room r (given_even s t (sym e) room r g)) in
        let w = given-workers s t (sym e) room r g in
        (ap (λ (k : Check). replay_table k s t r) q ∙ ap (run_table j (started s t)) w, ap (λ (k : Check). replay_tally k s t r) q ∙ ap (λ (x : List ℕ). tally (run_kinds j (started s t) x)) w)

    -- a refusal by 24 is at the first pair that doesn't hold
    is_even : (r : List ℕ) (k : ℕ) → replay_check s t r ≡ Refused 24 k → length r % 2 ≡ 0
    unfolding replay_check number_of
    is_even r k a =
        by_cases (ℕ_discrete (length r % 2) 0) (λ n. n)
        (λ n. absurd (omega (arith, ap number_of (halt _ (check_pairs j (started s t) r) refl (odd_rows s t (sym e) room r n) ∙ a))))

    pub before : (r : List ℕ) (k : ℕ) → replay_check s t r ≡ Refused 24 k → (replay_table (replay_rows s t r) s t r ≡ run_table j (started s t) (take k (workers_in r))) × (replay_tally (replay_rows s t r) s t r ≡ tally (run_kinds j (started s t) (take k (workers_in r))))
    unfolding replay_table replay_tally check_pairs
    before r k a =
        let n = is_even r k a in
        let q = sym (even_rows s t (sym e) room r n) in
        let h = held j (started s t) r in
        let m = sym (refused-row (under h (pairs r)) 24 h 24 k (sym (by-pairs s t (sym e) room r n) ∙ a)).1 in
        (ap (λ (x : Check). replay_table x s t r) q ∙ ap (λ (x : ℕ). run_table j (started s t) (take x (workers_in r))) m, ap (λ (x : Check). replay_tally x s t r) q ∙ ap (λ (x : ℕ). tally (run_kinds j (started s t) (take x (workers_in r)))) m)

    pub runs : (ws : List ℕ) → Named s ws → (start_table (start_check s t) s t ≡ started s t) × (run_answer s (started s t) ws ≡ Ok (record_tally Accepted s t ws)) × (run_left (run_check s (started s t) ws) s (started s t) ws ≡ record_table Accepted s t ws) × (run_tally (run_check s (started s t) ws) s (started s t) ws ≡ record_tally Accepted s t ws)
    unfolding after record_tally record_table job_of
    runs ws f = let r = ((promise s e).taken t room []).runs ws f in ((((promise s e).starts t).long room).1, r.0, r.1, r.3)

    -- the table is started once
    check-once : start_check s (started s t) ≡ start_check s t
    check-once = sym (starts s (started s t) (sym e) (omega (arith, start-length j t room))) ∙ starts s t (sym e) room

    pub once :
        (ws buf : List ℕ)
        → (record_check s (started s t) ws buf ≡ record_check s t ws buf)
        × (record_table Accepted s (started s t) ws ≡ record_table Accepted s t ws)
        × (record_tally Accepted s (started s t) ws ≡ record_tally Accepted s t ws)
        × (record_bytes Accepted s (started s t) ws buf ≡ record_bytes Accepted s t ws buf)
    unfolding record_check record_table record_tally record_bytes
    once ws buf =
        let q = start-again j t in (
          ap (λ (k : Check). k ⨾ check_schedule s ws ⨾ check_buffer ws buf) check-once,
          ap (λ (x : List ℕ). run_table j x ws) q,
          ap (λ (x : List ℕ). tally (run_kinds j x ws)) q,
          ap (λ (x : List ℕ). record_of j x ws ++ drop (2 * length ws) buf) q,
        )

  pub bytes : (t ws buf : List ℕ) → 2 * length ws ≤ length buf → (take (2 * length ws) (record_bytes Accepted s t ws buf) ≡ record_of j (started s t) ws) × (drop (2 * length ws) (record_bytes Accepted s t ws buf) ≡ drop (2 * length ws) buf) × (length (record_bytes Accepted s t ws buf) ≡ length buf)
  unfolding record_bytes
  bytes t ws buf room =
      let n = record-length j ws (started s t) in (
        take_at (record_of j (started s t) ws) (drop (2 * length ws) buf) (2 * length ws) n,
        drop_at (record_of j (started s t) ws) (drop (2 * length ws) buf) (2 * length ws) n,
        omega (arith, length-append (record_of j (started s t) ws) (drop (2 * length ws) buf), length-drop (2 * length ws) buf, n),
      )

  pub elsewhere : (t u ws : List ℕ) → Fresh s t → Fresh s u → Named s ws → Elsewhere s t u ws
  unfolding record_table record_tally job_of
  elsewhere t u ws f g low =
      let ok = job_ok s (well_formed s e) in
      let n = run-alike ok ws (started_range (start-started j u g)) (start_agree j u t g f) (low_all j ws low) in
      let same = record_same j ws (started s t) (started s u) (sym n.0) in
      let x : Given s u (record_of j (started s t) ws) = record { schedule = ws; named = low; is = same } in
      let p = ends_in u g (record_of j (started s t) ws) x in
      record {
        log = same;
        accepted = (replay-exactly s u (record_of j (started s t) ws) Accepted).1 (taken (sym e) g x);
        tally = p.1 ∙ ap tally n.0;
        table = subst (λ (x : List ℕ). Agree j x (run_table j (started s t) ws)) (sym p.0) n.1;
      }
