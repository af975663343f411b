-- Demands 2 and 3 on whole lists of calls, of every accepted job. Assumes nothing.
--   as-extended   the mark that completion gives, by the job extended for its missing records
--   row-newest, turn-accepted   which third words row 10 accepts, and that a turn leaves such
--   turn_beyond   a turn leaves the words past those used
--   promise s e   every clause of Promise
use mathlib.Core.Path.{◌≡◌, ap, subst⁻¹}
use mathlib.Core.Logic.{◌↔◌}
use mathlib.Core.List.{List}
use Prim.Native.Nat.{ℕ, ◌<◌, ◌≤◌}
use native.Mathlib.Omega.{arith}
use Rattle.base.proofs.Span.{length-span}
use Rattle.job.specs.Job.{Job}
use Rattle.job.specs.Format.{job_of}
use Rattle.job.specs.Checks.{check_job}
use Rattle.job.specs.Check.{Accepted}
use Rattle.job.proofs.Accepted.{well_formed}
use Rattle.semantics.specs.Model.{known_of}
use Rattle.semantics.specs.Missing.{Extension}
use Rattle.semantics.proofs.Known.{known_past}
use Rattle.semantics.proofs.Missing.{missing_of}
use Rattle.semantics.proofs.Textbook.{textbook_of}
use lib.ListN.{length, get_or}
use Rattle.table.specs.Layout.{used, mark, kept, value_of, mark_of, values}
use Rattle.table.specs.Newest.{NewestOf, Owns}
use Rattle.table.specs.Ranges.{check_table, InRange}
use Rattle.table.proofs.NewestOf.{sought_of, sought_is}
use Rattle.table.proofs.Ranges.{ranges, accepts}
use Rattle.turn.specs.Turn.{completed_mark, turn}
use Rattle.turn.proofs.Jobs.{JobOk, job_ok}
use Rattle.turn.proofs.Range.{turn_in_range, turn-kept}
use Rattle.turn.proofs.Lengths.{turn-length}
use Rattle.steps.proofs.Past.{turn-past}
use Rattle.steps.proofs.SameTurns.{start_agree}
use Rattle.calls.specs.Promise.{from, extended_mark, Promise}
use Rattle.calls.proofs.Taken.{starts, taken}
use Rattle.calls.proofs.OnLists.{answer_is, on-accepted, on-verdicts, on_values, on-stays, on-holds, on_quiet, on-changes, on_rounds}
use Rattle.calls.proofs.Named.{on-claims}
use Rattle.calls.proofs.RulesBehind.{on-literals}
use Rattle.calls.proofs.Opening.{on-opened}
use Rattle.calls.proofs.OnAlike.{on_alike}
use Rattle.calls.proofs.Alone.{alone-accepted, alone-answers, on-answers}

as-extended : (j : Job) → Extension j → (t : List ℕ) (c : ℕ) → c < j.claims → completed_mark j t c ≡ extended_mark j t c
unfolding completed_mark values
as-extended j x t c l =
    ap mark_of (x.exchanged (known_of (values j t)) (λ d h. known_past (values j t) d (omega (arith, h, length-span (λ d. value_of (mark t d)) 0 j.claims))) c l)

row-newest : (j : Job) (t : List ℕ) → InRange j t → (Accepted ≡ check_table j t) ↔ ((w : ℕ) → w < j.workers → NewestOf t (Owns j.claims t w) (kept j t w))
row-newest j t r =
    (λ a w l. subst⁻¹ (NewestOf t (Owns j.claims t w)) ((ranges j t a).1.is w l) (sought_of j.claims t w), λ f. accepts j t (r, record { is = λ w l. sought_is j.claims t w (f w l) }))

turn-accepted : {j : Job} → JobOk j → (t : List ℕ) (w : ℕ) → w < j.workers → Accepted ≡ check_table j t → Accepted ≡ check_table j (turn j t w).table
turn-accepted {j} ok t w l a = let r = (ranges j t a).0 in accepts j (turn j t w).table (turn_in_range ok r l, turn-kept ok r l)

turn_beyond : {j : Job} → JobOk j → (t : List ℕ) (w : ℕ) → w < j.workers → Accepted ≡ check_table j t → (length (turn j t w).table ≡ length t) × ((i : ℕ) → used j ≤ i → get_or (turn j t w).table i 0 ≡ get_or t i 0)
turn_beyond {j} ok t w l a = (turn-length j t w, turn-past j ok t (ranges j t a).0 w l)

pub promise : (s : List ℕ) → Accepted ≡ check_job s → Promise s
promise s e =
    record {
      verdicts = λ t f xs c. on-verdicts s e t f xs c;
      values = on_values s e;
      claims = λ t f xs. on-claims s e t f xs;
      literals = λ t f xs. on-literals s e t f xs;
      opened = λ t f xs. on-opened s e t f xs;
      starts = λ t. starts s t e;
      taken = λ t f xs. taken s (from s t xs) e (on-accepted s e t f xs);
      accepted = λ t f xs. on-accepted s e t f xs;
      newest = row-newest (job_of s);
      kept = turn-accepted (job_ok s (well_formed s e));
      past = turn_beyond (job_ok s (well_formed s e));
      alike = λ t u a xs. on_alike s e xs a;
      starts_alike = start_agree (job_of s);
      stays = λ t f xs w c. on-stays s e t f xs w c;
      answers = on-answers s e;
      alone_accepted = alone-accepted s e;
      alone_answers = alone-answers s e;
      right = λ t f xs w k h l y. answer_is s e t f xs w k h y;
      holds = λ t f xs w k h l y. on-holds s e t f xs w k h y;
      quiet = λ t f xs. on_quiet s e t f xs;
      changes = λ t f xs w. on-changes s e t f xs w;
      rounds = λ t f xs r. on_rounds s e t f xs r;
      missing = missing_of s (well_formed s e);
      textbook = textbook_of s (well_formed s e);
      completion = as-extended (job_of s) (missing_of s (well_formed s e)).extension;
    }
