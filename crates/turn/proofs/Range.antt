-- A turn leaves a table in range with right third words, whatever table in range it is made on: a run checks its table once. Assumes nothing.
use mathlib.Core.Path.{◌≡◌, sym, ◌∙◌}
use mathlib.Core.Logic.{inl, inr, ⊎_elim}
use mathlib.Core.Bool.{not}
use mathlib.Core.List.{List}
use Prim.Native.Nat.{ℕ, zero, suc, ◌+◌, ◌≤◌, ◌<◌}
use native.Mathlib.Omega.{arith}
use lib.ListN.{length}
use Rattle.base.proofs.Lists.{keep_in}
use Rattle.job.specs.Job.{Job}
use Rattle.semantics.specs.Model.{program_of, Verdict, True, False, Undefined, verdict, byte_of, exchange, known_of}
use Rattle.table.specs.Questions.{asked_by}
use Rattle.table.specs.Layout as W
use Rattle.table.specs.Newest.{with_newest, NewestKept}
use Rattle.table.specs.Ranges.{InRange}
use Rattle.table.proofs.Keeping.{with-kept}
use Rattle.turn.specs.Turn.{Turned, lits, reached, completed_mark, mark_all, base_turn, turn}
use Rattle.turn.proofs.Tests.{not_eq}
use Rattle.turn.proofs.Jobs.{JobOk, lits-length}
use Rattle.turn.proofs.Places.{place-low}
use Rattle.job.proofs.RuleEnds.{end_most}
use Rattle.turn.proofs.Leading.{in-low}
use Rattle.turn.proofs.Cases.{AtLeft, literal, moved, skipped, taken, asked, Case, wakes, sleeps, rests, answers, opens-asked, waits_asked, completes, sticks, passes, skips, opens, takes, waits, turn-case}
use Rattle.turn.proofs.Words as X
use Rattle.turn.proofs.RangeStores.{Fits, store_range, marks_range, open_range}

pub byte_range : (v : Verdict) → (1 ≤ byte_of v) × (byte_of v ≤ 3)
byte_range True = (omega arith, omega arith)
byte_range False = (omega arith, omega arith)
byte_range Undefined = (omega arith, omega arith)

-- a completed claim's mark
pub mark_range : (j : Job) (t : List ℕ) (c : ℕ) → (W.true_mark ≤ completed_mark j t c) × (completed_mark j t c ≤ W.undefined_mark)
unfolding completed_mark
mark_range j t c =
    let b = byte_range (verdict (exchange (known_of (W.values j t)) (program_of j)) c) in
    (omega (arith, b.0), omega (arith, b.1))

module _ {j : Job} {t : List ℕ} {w : ℕ} (small : w < j.workers) where
  await-fits : {v : ℕ} → v ≤ j.claims → Fits j t (W.awaited_word j w) v
  await-fits l =
      record {
        from = omega arith;
        below = omega arith;
        mark = λ c h e. absurd (omega arith);
        cursor = λ c h e. absurd (omega arith);
        number = λ c h e. omega arith;
        awaits = λ u h e. l;
        answers = λ u h e. absurd (omega arith);
        values = λ i h e. absurd (omega arith);
      }

  answered-fits : {v : ℕ} → v ≤ length (asked_by j w) → Fits j t (W.answered_word j w) v
  answered-fits {v} l =
      record {
        from = omega arith;
        below = omega arith;
        mark = λ c h e. absurd (omega arith);
        cursor = λ c h e. absurd (omega arith);
        number = λ c h e. omega arith;
        awaits = λ u h e. absurd (omega arith);
        answers = λ u h e. let q : w ≡ u = omega arith in rw (← q) l;
        values = λ i h e. absurd (omega arith);
      }

answer-fits : {j : Job} {t : List ℕ} {k v : ℕ} → k < length j.questions → v ≤ 3 → Fits j t (W.answer_word j k) v
answer-fits low l =
    record {
      from = omega arith;
      below = omega arith;
      mark = λ c h e. absurd (omega arith);
      cursor = λ c h e. absurd (omega arith);
      number = λ c h e. omega arith;
      awaits = λ u h e. absurd (omega arith);
      answers = λ u h e. absurd (omega arith);
      values = λ i h e. l;
    }

cursor-fits : {j : Job} {t : List ℕ} {c v : ℕ} → c < j.claims → (W.mark t c ≡ 0 → ⊥) → v ≤ length (lits j c) → Fits j t (W.cursor_word c) v
cursor-fits {j} {t} {c} {v} low n l =
    record {
      from = omega arith;
      below = omega arith;
      mark = λ x h e. absurd (omega arith);
      cursor = λ x h e. let q : c ≡ x = omega arith in (rw (← q) n, rw (← q) (omega (arith, lits-length j c)));
      number = λ x h e. omega arith;
      awaits = λ u h e. absurd (omega arith);
      answers = λ u h e. absurd (omega arith);
      values = λ i h e. absurd (omega arith);
    }

module _ {j : Job} (J : JobOk j) {t : List ℕ} (R : InRange j t) {w : ℕ} (small : w < j.workers) where
  -- c, which has a literal left
  module _ {n c : ℕ} (at : AtLeft j t w n c) where
    pub c-low : c < j.claims
    c-low = in-low j J t c at.at.low at.inside

    pub c-room : W.cursor t c < length (lits j c)
    c-room = let k = at.left in omega (arith, (R.claim c c-low).read, lits-length j c)

    pub b-low : literal j t c < j.claims
    b-low = J.literal c (W.cursor t c) c-room

    pub moved_range : InRange j (moved t c)
    moved_range = store_range R (cursor-fits c-low (λ e. omega (arith, at.its)) (omega (arith, c-room)))

    skipped_range : InRange j (skipped j t c)
    skipped_range =
        store_range R
        (cursor-fits c-low (λ e. omega (arith, at.its))
        (omega (arith, end_most c j.rules (W.cursor t c) (omega (arith, c-room, lits-length j c)), lits-length j c)))

    took_range : InRange j (mark_all (λ d. w + 1) (taken j t c) (moved t c))
    took_range =
        marks_range (λ d. w + 1) (taken j t c) (moved t c) moved_range
        (λ d i.
        let k = keep_in (λ d. not (W.fresh t d)) d (reached j (moved t c) c) i in
        (in-low j J (moved t c) d c-low k.0, λ e. not_eq (W.mark t d) 0 k.1 (sym (X.cursor-mark j t c (W.cursor t c + 1) d) ∙ e)))
        (λ d. (λ e. omega arith, inl (omega arith)))

  answer-low : W.true_mark ≤ W.mark t (asked j t w) → W.answered j t w < length (asked_by j w) → W.value_of (W.mark t (asked j t w)) ≤ 3
  answer-low d m =
      ⊎_elim (λ a. omega (arith, J.few)) (λ a. omega (arith, a.1)) (R.claim (asked j t w) (J.question w (W.answered j t w) m)).mark_in

  case_range : (r : Turned) → Case j t w r → InRange j r.table
  case_range r (wakes a b) = store_range R (await-fits small (omega arith))
  case_range r (sleeps a b) = R
  case_range r (rests a b c) = R
  case_range r (answers a b) =
      store_range (store_range R (answer-fits (place-low j w (W.answered j t w) a.more) (answer-low b a.more))) (answered-fits small (omega (arith, a.more)))
  case_range r (opens-asked a b) = open_range R small (J.question w (W.answered j t w) a.more) b
  case_range r (waits_asked a b c) = store_range R (await-fits small (omega (arith, J.question w (W.answered j t w) a.more)))
  case_range r (completes {n = n} a b) =
      marks_range (completed_mark j t) (reached j t n) t R (λ d i. (in-low j J t d a.low i, λ e. omega (arith, (b d i).0)))
      (λ d. (λ e. omega (arith, (mark_range j t d).0), inr (mark_range j t d)))
  case_range r (sticks a b c) = R
  case_range r (passes a b f) = moved_range a
  case_range r (skips a b) = skipped_range a
  case_range r (opens {c = c} a b f) = open_range (moved_range a) small (b-low a) (X.cursor-mark j t c (W.cursor t c + 1) (literal j t c) ∙ b)
  case_range r (takes a b m f) = took_range a
  case_range r (waits a b m f) = store_range (moved_range a) (await-fits small (omega (arith, b-low a)))

-- and so does `with_newest`, which makes its third words right
newest-fits : {j : Job} {t : List ℕ} {w v : ℕ} → w < j.workers → Fits j t (W.newest_word j w) v
newest-fits small =
    record {
      from = omega arith;
      below = omega arith;
      mark = λ c h e. absurd (omega arith);
      cursor = λ c h e. absurd (omega arith);
      number = λ c h e. omega arith;
      awaits = λ u h e. absurd (omega arith);
      answers = λ u h e. absurd (omega arith);
      values = λ i h e. absurd (omega arith);
    }

with_range : {j : Job} {t : List ℕ} (n : ℕ) → n ≤ j.workers → InRange j t → InRange j (with_newest j.claims n t)
unfolding with_newest
with_range zero l R = R
with_range (suc w) l R = store_range (with_range w (omega arith) R) (newest-fits (omega arith))

module _ {j : Job} {t : List ℕ} {w : ℕ} (J : JobOk j) (R : InRange j t) (small : w < j.workers) where
  pub base_range : InRange j (base_turn j t w).table
  base_range = case_range J R small (base_turn j t w) (turn-case j t w)

  pub turn_in_range : InRange j (turn j t w).table
  unfolding turn
  turn_in_range = with_range j.workers (omega arith) base_range

  pub turn-kept : NewestKept j (turn j t w).table
  unfolding turn
  turn-kept = with-kept j (base_turn j t w).table (omega (arith, base_range.room))
