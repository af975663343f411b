-- What the two calls give, by their checks. Assumes nothing.
--   record-good, started-ready   what accepted rows say; a started table is ready for turns
--   recorded_last, -stop, _then, -all   a recorded run, refused by its last rows or by its first ones, and where they pass
--   replayed_last, -stop, _as   the same of a replay
--   replayed_all, -false   a replay whose pairs all hold, and one with a false pair, whose turns are taken again from a new start
use Prim.Native.Nat.{ℕ, ◌*◌, ◌≤◌}
use mathlib.Core.Path.{◌≡◌, refl, sym, ◌∙◌, ap, ap₂, subst}
use mathlib.Core.List.{List, ◌++◌}
use native.Mathlib.Omega.{arith}
use lib.ListN.{length, take, drop, replicate}
use lib.Seq.{take_all}
use Rattle.base.proofs.Compare.{under-yes, under-no, under_le}
use Rattle.job.specs.Format.{job_of}
use Rattle.std.specs.Prelude.{Result, Ok, Err, IsErrAnd}
use Rattle.std.proofs.lemmas.Result.{err_from_is_err_and}
use Rattle.job.specs.Rows.{◌⨾◌, row}
use Rattle.job.specs.Check.{Check, Accepted}
use Rattle.job.specs.declared.Refusal.{Refusal}
use Rattle.job.proofs.Rows.{returned, both, row-no}
use Rattle.records.specs.declared.Stopped.{Stopped}
use Rattle.table.specs.Layout.{used}
use Rattle.table.specs.Newest.{NewestKept}
use Rattle.table.specs.Ranges.{InRange}
use Rattle.table.specs.Start.{start_words}
use Rattle.turn.specs.Turn.{run_table, run_kinds}
use Rattle.steps.proofs.Starting.{start-started, started_range, started-newests}
use Rattle.calls.specs.Calls.{answered, Named, check_schedule, tally}
use Rattle.calls.proofs.Answering.{schedule-low}
use Rattle.records.specs.Record.{record_of, pairs, workers_in, held}
use Rattle.records.specs.Answers.{check_buffer, record_table, record_tally, record_bytes, Recorded, check_pairs, replay_answer, replay_table, replay_tally, Replayed}
use Rattle.recording.specs.Following.{FollowedTo}
use Rattle.recording.specs.declared.Followed.{Followed}
use Rattle.records.proofs.Pairs.{workers-length}
use Rattle.records.proofs.Held.{held_most, front-pairs, front-workers, front-held}
use Rattle.records.proofs.Restarted.{start-again}

-- what accepted rows 11 and 25 say
pub record-good : (s ws buf : List ℕ) → Accepted ≡ check_schedule s ws ⨾ check_buffer ws buf → Named s ws × (2 * length ws ≤ length buf)
unfolding check_buffer
record-good s ws buf e = let p = both _ _ e in (schedule-low s ws p.0, under_le _ _ (row-no _ _ _ (both _ _ p.1).0))

-- a started table is ready for turns
pub started-ready : (s t : List ℕ) → used (job_of s) ≤ length t → {u : List ℕ} → u ≡ start_words (job_of s) t → InRange (job_of s) u × NewestKept (job_of s) u
started-ready s t room {u} e =
    let a = start-started (job_of s) t room in
    (subst (InRange (job_of s)) (sym e) (started_range a), subst (NewestKept (job_of s)) (sym e) (started-newests a))

module _ (s t ws buf : List ℕ) where
  pub recorded_last : (x : Check) {e : Refusal} → Err e ≡ x → {r : Result (List ℕ) Refusal} → IsErrAnd r (λ z. z ≡ e) → Recorded x s t ws buf r t buf
  unfolding answered record_table record_bytes
  recorded_last x q {r} h = rw (← q) (record { answer_is = returned r h; table_is = refl; bytes_are = refl })

  pub recorded-stop : (x y : Check) {e : Refusal} → Err e ≡ x → {r : Result (List ℕ) Refusal} → IsErrAnd r (λ z. z ≡ e) → Recorded (x ⨾ y) s t ws buf r t buf
  unfolding ◌⨾◌
  recorded-stop x y q h = recorded_last (x ⨾ y) (rw (← q) refl) h

  pub recorded_then : (x y : Check) → Accepted ≡ x → {r : Result (List ℕ) Refusal} {u b : List ℕ} → Recorded y s t ws buf r u b → Recorded (x ⨾ y) s t ws buf r u b
  unfolding ◌⨾◌
  recorded_then x y q m = rw (← q) m

  pub recorded-all :
      {u₀ : List ℕ} → u₀ ≡ start_words (job_of s) t → {counts u b : List ℕ} → counts ≡ tally (run_kinds (job_of s) u₀ ws) → u ≡ run_table (job_of s) u₀ ws
      → b ≡ record_of (job_of s) u₀ ws ++ drop (2 * length ws) buf → Recorded Accepted s t ws buf (Ok counts) u b
  unfolding answered record_tally record_table record_bytes
  recorded-all e a b d =
      record {
        answer_is = ap Ok (a ∙ ap (λ (x : List ℕ). tally (run_kinds (job_of s) x ws)) e);
        table_is = b ∙ ap (λ (x : List ℕ). run_table (job_of s) x ws) e;
        bytes_are = d ∙ ap (λ (x : List ℕ). record_of (job_of s) x ws ++ drop (2 * length ws) buf) e;
      }

  pub recorded_as : (x : Check) → Accepted ≡ x → {r : Result (List ℕ) Refusal} {u b : List ℕ} → Recorded Accepted s t ws buf r u b → Recorded x s t ws buf r u b
  recorded_as x e {r} {u} {b} m = subst (λ (k : Check). Recorded k s t ws buf r u b) e m

pub followed-few : {s t r : List ℕ} {x : Followed} {u : List ℕ} → FollowedTo s t r x u → 2 * x.held ≤ length r
followed-few {s} {t} {r} f = omega (arith, f.count, held_most (job_of s) r t)

module _ (s t r : List ℕ) where
  pub replayed_last : (x : Check) {e : Refusal} → Err e ≡ x → {a : Result (List ℕ) Stopped} → a ≡ Err (record { refusal = e; tally = replicate 8 0 }) → Replayed x s t r a t
  unfolding ◌⨾◌ replay_answer replay_tally replay_table
  replayed_last x q h = rw (← q) (record { answer_is = h; table_is = refl })

  -- where `?` hands a refusal on
  pub replayed-stop : (x y : Check) {e : Refusal} → Err e ≡ x → {a : Result (List ℕ) Stopped} → IsErrAnd a (λ z. z ≡ record { refusal = e; tally = replicate 8 0 }) → Replayed (x ⨾ y) s t r a t
  unfolding ◌⨾◌
  replayed-stop x y q {a} h = let p = err_from_is_err_and a h in replayed_last (x ⨾ y) (rw (← q) refl) (p.1 ∙ ap Err p.2)

  pub replayed_as : (x : Check) → Accepted ≡ x → {a : Result (List ℕ) Stopped} {u : List ℕ} → Replayed Accepted s t r a u → Replayed x s t r a u
  replayed_as x e {a} {u} m = subst (λ (k : Check). Replayed k s t r a u) e m

  -- the table, once it is started
  module _ {u₀ : List ℕ} (begun : u₀ ≡ start_words (job_of s) t) {x : Followed} {u : List ℕ} (f : FollowedTo s u₀ r x u) where
    holds : x.held ≡ held (job_of s) (start_words (job_of s) t) r
    holds = f.count ∙ ap (λ (v : List ℕ). held (job_of s) v r) begun

    pub replayed_all : x.held ≡ pairs r → Replayed Accepted s t r (Ok x.tally) u
    unfolding ◌⨾◌ row replay_answer replay_tally replay_table check_pairs
    replayed_all e =
        let p = f.all e in
        let all : workers_in r ≡ take (held (job_of s) (start_words (job_of s) t) r) (workers_in r) =
        sym (take_all (held (job_of s) (start_words (job_of s) t) r) (workers_in r) (omega (arith, holds, e, workers-length r))) in
        record {
          answer_is = rw (under-no (held (job_of s) (start_words (job_of s) t) r) (pairs r) (omega (arith, holds, e))) (ap Ok (p.1 ∙ ap₂ (λ (v ws : List ℕ). tally (run_kinds (job_of s) v ws)) begun all));
          table_is = p.0 ∙ ap₂ (λ (v ws : List ℕ). run_table (job_of s) v ws) begun all;
        }

    pub replayed-false :
        (x.held ≡ pairs r → ⊥) → {u₁ : List ℕ} → u₁ ≡ start_words (job_of s) u → {n : ℕ} → n ≡ 2 * x.held → {y : Followed} {v : List ℕ}
        → FollowedTo s u₁ (take n r) y v → Replayed Accepted s t r (Err (record { refusal = record { number = 24; place = x.held }; tally = y.tally })) v
    unfolding ◌⨾◌ row replay_answer replay_tally replay_table check_pairs
    replayed-false some {u₁} new {n} e {y} {v} g =
        let again : u₁ ≡ start_words (job_of s) t = new ∙ (f.again ∙ (ap (start_words (job_of s)) begun ∙ start-again (job_of s) t)) in
        let cut : take n r ≡ take (2 * held (job_of s) (start_words (job_of s) t) r) r = ap (λ (k : ℕ). take k r) (e ∙ ap (λ (k : ℕ). 2 * k) holds) in
        let most = held_most (job_of s) r (start_words (job_of s) t) in
        let count : y.held ≡ held (job_of s) (start_words (job_of s) t) r =
        g.count ∙ (ap₂ (λ (a b : List ℕ). held (job_of s) a b) again cut ∙ front-held (job_of s) r (start_words (job_of s) t) (held (job_of s) (start_words (job_of s) t) r) (omega arith)) in
        let all = g.all (count ∙ (sym (front-pairs (job_of s) r _ most) ∙ ap (λ (a : List ℕ). pairs a) (sym cut))) in
        let named : workers_in (take n r) ≡ take (held (job_of s) (start_words (job_of s) t) r) (workers_in r) = ap workers_in cut ∙ front-workers (job_of s) r (held (job_of s) (start_words (job_of s) t) r) in
        let tallies = all.1 ∙ ap₂ (λ (a ws : List ℕ). tally (run_kinds (job_of s) a ws)) again named in
        record {
          answer_is = rw (under-yes (held (job_of s) (start_words (job_of s) t) r) (pairs r) (omega (arith, most, holds, some))) (ap₂ (λ (k : ℕ) (ns : List ℕ). Err (record { refusal = record { number = 24; place = k }; tally = ns })) holds tallies);
          table_is = all.0 ∙ ap₂ (λ (a ws : List ℕ). run_table (job_of s) a ws) again named;
        }
