-- A list of calls that begins with a recorded run is a list that begins with the run, or one without it where it was refused. Assumes nothing.
--   taken-named    an accepted recorded run names workers of the job
--   first-listed   the clause `lists` of OnRecord
use Prim.Native.Nat.{ℕ}
use mathlib.Core.Path.{◌≡◌, refl, sym, ◌∙◌, ap, ap₂}
use mathlib.Core.List.{List, [], ◌∷◌, ◌++◌}
use Rattle.job.specs.Format.{job_of}
use Rattle.job.specs.Checks.{check_job}
use Rattle.job.specs.Check.{Check, Accepted}
use Rattle.std.specs.Prelude.{Err}
use Rattle.table.specs.Start.{start_words}
use Rattle.turn.specs.Turn.{run_table}
use Rattle.calls.specs.Calls.{Named, run_check, run_left}
use Rattle.calls.specs.Lists.{Call, running, left, after, unless, made, turns_of, run_events, events}
use Rattle.calls.specs.Promise.{Fresh}
use Rattle.calls.proofs.Answering.{answered-ok}
use Rattle.calls.proofs.Demands.{promise}
use Rattle.records.specs.Answers.{record_check, record_table}
use Rattle.records.specs.Lists.{listed, first, first_turns, OneOfLists}
use Rattle.records.specs.Laws.{RunAnswered, taken}
use Rattle.records.proofs.ByRows.{run-exactly}
use Rattle.records.proofs.Restarted.{start-again}

taken-named : {s t ws buf : List ℕ} → RunAnswered s t ws buf Accepted → Named s ws
taken-named (taken e f g l) = g

module _ (s : List ℕ) (e : Accepted ≡ check_job s) (t ws buf : List ℕ) (room : Fresh s t) where
  abbrev t₀ : List ℕ
  t₀ = start_words (job_of s) t

  -- the run of the same schedule on the started table
  module _ (a : Accepted ≡ record_check s t₀ ws buf) where
    run-taken : (run_check s t₀ ws ≡ Accepted) × (run_left (run_check s t₀ ws) s t₀ ws ≡ run_table (job_of s) t₀ ws)
    unfolding after job_of
    run-taken =
        let r = ((promise s e).taken t room []).runs ws (taken-named ((run-exactly s t₀ ws buf Accepted).0 (sym a))) in
        (sym (answered-ok _ (run_check s t₀ ws) refl r.0).0, r.1)

    left_same : record_table Accepted s t₀ ws ≡ left s t₀ (running ws)
    unfolding record_table left
    left_same = ap (λ (x : List ℕ). run_table (job_of s) x ws) (start-again (job_of s) t) ∙ sym run-taken.1

    made_same : ws ≡ made s t₀ (running ws)
    unfolding made unless
    made_same = ap (λ (k : Check). unless k ws) (sym run-taken.0)

  -- a list, by what it begins with
  begins : (xs calls : List Call) {l m : List ℕ} → first s t₀ ws buf ≡ l → first_turns s t₀ ws buf ≡ m → after s l xs ≡ after s t₀ calls → m ++ turns_of s l xs ≡ turns_of s t₀ calls → run_events (job_of s) t₀ m ++ events s l xs ≡ events s t₀ calls → OneOfLists s t ws buf xs calls
  begins xs calls l m a b c =
      record {
        table = ap (λ (x : List ℕ). after s x xs) l ∙ a;
        turns = ap₂ (λ (x y : List ℕ). x ++ turns_of s y xs) m l ∙ b;
        history = ap₂ (λ (x y : List ℕ). run_events (job_of s) t₀ x ++ events s y xs) m l ∙ c;
      }

  by-check : (xs : List Call) (k : Check) → k ≡ record_check s t₀ ws buf → OneOfLists s t ws buf xs (listed k ws xs)
  unfolding listed unless after turns_of events record_table run_events
  by-check xs Accepted a =
      begins xs (running ws ∷ xs) (ap (λ (k : Check). record_table k s t₀ ws) (sym a) ∙ left_same a) (ap (λ (k : Check). unless k ws) (sym a) ∙ made_same a) refl refl refl
  by-check xs (Err refusal) a =
      begins xs xs (ap (λ (k : Check). record_table k s t₀ ws) (sym a)) (ap (λ (k : Check). unless k ws) (sym a)) refl refl refl

  pub first-listed : (xs : List Call) → OneOfLists s t ws buf xs (listed (record_check s t₀ ws buf) ws xs)
  first-listed xs = by-check xs (record_check s t₀ ws buf) refl
