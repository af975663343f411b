-- Demands 2 and 3 on one list of calls, from a table freshly started: verdicts, values, answers, quiet and rounds. Assumes nothing.
--   times_are     a worker's turns of kind answered are as many as its word says
--   answer_is     the answer of an answered question is its claim's verdict
--   on-accepted, on-verdicts, on_values, on-holds, on_quiet, on_rounds   the clauses of Promise of these names
use mathlib.Core.Path.{◌≡◌, sym, ◌∙◌, ap, subst}
use mathlib.Core.Logic.{◌↔◌, by_cases}
use mathlib.Core.List.{List}
use Prim.Native.Nat.{ℕ, ◌<◌}
use native.Mathlib.Omega.{arith}
use native.Mathlib.Decide.{ℕ_discrete}
use lib.ListN.{length, get_or}
use Rattle.job.specs.Format.{job_of}
use Rattle.job.specs.Encoding.{Valid}
use Rattle.job.specs.Checks.{check_job}
use Rattle.job.specs.Check.{Accepted}
use Rattle.job.proofs.Accepted.{well_formed}
use Rattle.job.proofs.Valid.{well_formed-valid}
use Rattle.semantics.specs.Model.{byte_of}
use Rattle.table.specs.Questions.{asked_by, question_claim}
use Rattle.table.specs.Layout as W
use Rattle.table.specs.Ranges.{check_table}
use Rattle.table.specs.Start.{start_words}
use Rattle.table.specs.Reading.{reading_of, reading_value}
use Rattle.table.proofs.Ranges.{accepts}
use Rattle.waiting.specs.Runs.{Rounds}
use Rattle.turn.specs.Turn.{kind_number, turn, run_table}
use Rattle.calls.specs.Lists.{Call, turns_of, Event, run_events, times, IsAnswered, answer_at, answer_of, AllAnswered, Complete}
use Rattle.calls.specs.Promise.{Fresh, from, history, bound}
use Rattle.turn.specs.declared.Kind.TheVariants.{Idle}
use Rattle.turn.proofs.Jobs.{JobOk, valid_ok}
use Rattle.steps.proofs.Verdicts.{verdict_in}
use Rattle.steps.proofs.Changes.{turn-changes}
use Rattle.steps.proofs.Kept.{complete-stays}
use Rattle.steps.proofs.Starting.{Started, start-started, answered-zero}
use Rattle.steps.proofs.Runs.{Made, made-start, made-run}
use Rattle.steps.proofs.OnTurns as P
use Rattle.steps.proofs.Bounds.{bound_is}
use Rattle.calls.proofs.Histories.{turns-low, after-turns, events-turns}
use Rattle.calls.proofs.Answers.{kind_idle, complete-mark, value-of, times_grow, answer-run}

module _ (s : List ℕ) (e : Accepted ≡ check_job s) where
  pub valid : Valid (job_of s)
  valid = well_formed-valid s (well_formed s e)

  pub ok : JobOk (job_of s)
  ok = valid_ok (job_of s) valid

  module _ (t : List ℕ) (room : Fresh s t) (xs : List Call) where
    abbrev start : List ℕ
    start = start_words (job_of s) t

    abbrev ws : List ℕ
    ws = turns_of s (start_words (job_of s) t) xs

    pub started : Started (job_of s) start
    started = start-started (job_of s) t room

    pub made_after : Made (job_of s) (from s t xs)
    made_after =
        subst (Made (job_of s)) (sym (after-turns s xs start)) (made-run (job_of s) ok ws start (made-start started) (turns-low s xs start))

    count-after : (w : ℕ) → W.answered (job_of s) (from s t xs) w ≡ W.answered (job_of s) (run_table (job_of s) start ws) w
    count-after w = ap (λ (u : List ℕ). W.answered (job_of s) u w) (after-turns s xs start)

    pub times_are : (w : ℕ) → w < (job_of s).workers → times (history s t xs) w ≡ W.answered (job_of s) (from s t xs) w
    times_are w h =
        ap (λ (es : List Event). times es w) (events-turns s xs start)
        ∙ omega
        (arith, times_grow (job_of s) ok ws start (made-start started) (turns-low s xs start) w h, answered-zero started w h, count-after w)

    pub all_words : AllAnswered (job_of s) (history s t xs) → (w : ℕ) → w < (job_of s).workers → W.answered (job_of s) (from s t xs) w ≡ length (asked_by (job_of s) w)
    all_words a w h = omega (arith, a w h, times_are w h, made_after.range.answers w h)

    pub words_all : ((w : ℕ) → w < (job_of s).workers → W.answered (job_of s) (from s t xs) w ≡ length (asked_by (job_of s) w)) → AllAnswered (job_of s) (history s t xs)
    words_all a w h = omega (arith, a w h, times_are w h)

    pub answer_is : (w k : ℕ) → w < (job_of s).workers → IsAnswered (history s t xs) w k → answer_of (job_of s) (history s t xs) w k ≡ byte_of (verdict_in (job_of s) (question_claim (job_of s) w k))
    answer_is w k h l =
        let c = question_claim (job_of s) w k in
        let z = answered-zero started w h in
        ap (λ (es : List Event). answer_at es w k c) (events-turns s xs start)
        ∙ ap (λ (m : ℕ). answer_at (run_events (job_of s) start ws) w m c) (omega (arith, z))
        ∙ answer-run (job_of s) ok ws start (made-start started) (turns-low s xs start) w k h (omega (arith, z)) (omega (arith, times_are w h, count-after w))

    -- the clauses
    pub on-accepted : Accepted ≡ check_table (job_of s) (from s t xs)
    on-accepted = accepts (job_of s) (from s t xs) (made_after.range, made_after.newests)

    pub on-verdicts : (c : ℕ) → c < (job_of s).claims → Complete (from s t xs) c → reading_value (reading_of (W.mark (from s t xs) c)) ≡ byte_of (verdict_in (job_of s) c)
    on-verdicts c h d = value-of ok made_after c h (complete-mark ok made_after c h d)

    pub mark_is : (c : ℕ) → c < (job_of s).claims → Complete (from s t xs) c → W.mark (from s t xs) c ≡ W.mark_of (verdict_in (job_of s) c)
    mark_is c h d = made_after.verdicts.marks c h (complete-mark ok made_after c h d)

    pub on-stays : (w c : ℕ) → w < (job_of s).workers → c < (job_of s).claims → Complete (from s t xs) c → W.mark (turn (job_of s) (from s t xs) w).table c ≡ W.mark (from s t xs) c
    on-stays w c l h d = complete-stays (job_of s) ok (from s t xs) made_after.range w l made_after.verdicts c h (complete-mark ok made_after c h d)

    pub on-holds : (w k : ℕ) → w < (job_of s).workers → IsAnswered (history s t xs) w k → get_or (from s t xs) (W.answer_word (job_of s) (get_or (asked_by (job_of s) w) k 0)) 0 ≡ answer_of (job_of s) (history s t xs) w k
    on-holds w k h l = made_after.verdicts.words w k h (omega (arith, times_are w h)) ∙ sym (answer_is w k h l)

    idle-by : (w : ℕ) → w < (job_of s).workers → (turn (job_of s) (from s t xs) w).table ≡ from s t xs → (turn (job_of s) (from s t xs) w).kind ≡ Idle
    idle-by w h f =
        by_cases (ℕ_discrete (kind_number (turn (job_of s) (from s t xs) w).kind) 0) (kind_idle (turn (job_of s) (from s t xs) w).kind)
        (λ n. absurd ((turn-changes (job_of s) ok (from s t xs) made_after.range w h made_after.newests).acts (λ q. n (ap kind_number q)) f))

    pub on_quiet : AllAnswered (job_of s) (history s t xs) ↔ ((w : ℕ) → w < (job_of s).workers → (turn (job_of s) (from s t xs) w).table ≡ from s t xs)
    on_quiet =
        (λ a w h. (P.answered_idle (job_of s) ok (from s t xs) made_after (all_words a) w h).1, λ f. words_all (P.idle-answered (job_of s) ok (from s t xs) made_after (λ w h. idle-by w h (f w h))))

    pub on-changes : (w : ℕ) → w < (job_of s).workers → ((turn (job_of s) (from s t xs) w).kind ≡ Idle) ↔ ((turn (job_of s) (from s t xs) w).table ≡ from s t xs)
    on-changes w h = ((turn-changes (job_of s) ok (from s t xs) made_after.range w h made_after.newests).idle, idle-by w h)

    pub on_rounds : Rounds (job_of s).workers (bound (job_of s)) ws → AllAnswered (job_of s) (history s t xs)
    on_rounds r =
        words_all
        (λ w h.
        count-after w
        ∙ P.rounds (job_of s) ok start started ws (turns-low s xs start) (subst (λ (n : ℕ). Rounds (job_of s).workers n ws) (sym (bound_is (job_of s) valid)) r) w h)

  pub on_values : (t u : List ℕ) → Fresh s t → Fresh s u → (xs ys : List Call) (c : ℕ) → c < (job_of s).claims → Complete (from s t xs) c → Complete (from s u ys) c → reading_of (W.mark (from s t xs) c) ≡ reading_of (W.mark (from s u ys) c)
  on_values t u a b xs ys c h d g = ap reading_of (mark_is t a xs c h d ∙ sym (mark_is u b ys c h g))
