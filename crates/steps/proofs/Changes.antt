-- "A turn changes something exactly when its kind isn't idle." Assumes nothing.
--   Changes j t w   the turn of w on t
use mathlib.Core.Path.{◌≡◌, refl, sym, ◌∙◌, ap}
use mathlib.Core.List.{List}
use Prim.Native.Nat.{ℕ, ◌+◌, ◌<◌}
use native.Mathlib.Omega.{arith}
use lib.ListN.{get_or, set, length-set}
use Rattle.job.specs.Job.{Job}
use Rattle.table.specs.Layout as W
use Rattle.table.specs.Newest.{with_newest, NewestKept}
use Rattle.table.specs.Ranges.{InRange}
use Rattle.table.proofs.Keeping.{with-other, with_same}
use Rattle.turn.specs.Turn.{kind_number, Turned, reached, completed_mark, mark_all, base_turn, turn, skip_end}
use Rattle.turn.specs.declared.Kind.{Kind}
use Rattle.turn.specs.declared.Kind.TheVariants.{Idle}
use Rattle.turn.proofs.Jobs.{JobOk, lits-length}
use Rattle.job.proofs.RuleEnds.{end_more}
use Rattle.turn.proofs.Reached.{reached-start}
use Rattle.turn.proofs.Cases.{AtLeft, literal, moved, taken, asked, Case, wakes, sleeps, rests, answers, opens-asked, waits_asked, completes, sticks, passes, skips, opens, takes, waits, turn-case}
use Rattle.turn.proofs.Words as X
use Rattle.turn.proofs.Range.{mark_range, c-low, c-room, b-low}
use Rattle.steps.proofs.Takeover.{taken_in}

pub record Changes (j : Job) (t : List ℕ) (w : ℕ) : Type 0 where
  pub idle : (turn j t w).kind ≡ Idle → (turn j t w).table ≡ t
  pub acts : ((turn j t w).kind ≡ Idle → ⊥) → (turn j t w).table ≡ t → ⊥

-- a word that isn't a third one, and has changed
record Differs (j : Job) (t t' : List ℕ) : Type 0 where
  word : ℕ
  other : (w : ℕ) → w < j.workers → word ≡ W.newest_word j w → ⊥
  differs : get_or t' word 0 ≡ get_or t word 0 → ⊥

record Result (j : Job) (t : List ℕ) (r : Turned) : Type 0 where
  still : r.kind ≡ Idle → r.table ≡ t
  moves : (r.kind ≡ Idle → ⊥) → Differs j t r.table

-- an idle turn keeps the table
idles : {j : Job} {t : List ℕ} → Result j t (record { kind = Idle; table = t })
idles = record { still = λ e. refl; moves = λ n. absurd (n refl) }

-- a turn of another kind changes some word
changed : {j : Job} {t t' : List ℕ} {k : Kind} → (k ≡ Idle → ⊥) → (i : ℕ) → ((w : ℕ) → w < j.workers → i ≡ W.newest_word j w → ⊥) → (get_or t' i 0 ≡ get_or t i 0 → ⊥) → Result j t (record { kind = k; table = t' })
changed n i o d = record { still = λ e. absurd (n e); moves = λ m. record { word = i; other = o; differs = d } }

module _ (j : Job) (J : JobOk j) (t : List ℕ) (R : InRange j t) (w : ℕ) (small : w < j.workers) where
  -- c's cursor, in any table in which c has passed its literal
  cursor-up : {n c : ℕ} → AtLeft j t w n c → (t' : List ℕ) → W.cursor t' c ≡ W.cursor (moved t c) c → W.cursor t' c ≡ W.cursor t c → ⊥
  cursor-up {c = c} at t' e d =
      omega (arith, X.same t (W.cursor_word c) (W.cursor t c + 1) (omega (arith, R.room, c-low J R small at)))

  case_result : (r : Turned) → Case j t w r → Result j t r
  case_result r (wakes a b) =
      changed (λ e. omega (arith, ap kind_number e)) (W.awaited_word j w) (λ u h e. omega arith)
      (λ e. a (sym e ∙ X.same t (W.awaited_word j w) 0 (omega (arith, R.room))))
  case_result r (sleeps a b) = idles
  case_result r (rests a b c) = idles
  case_result r (answers a b) =
      changed (λ e. omega (arith, ap kind_number e)) (W.answered_word j w) (λ u h e. omega arith)
      (λ e. omega (arith, X.stored-answered j t w small (omega (arith, R.room))))
  case_result r (opens-asked a b) =
      let q = asked j t w in
      changed (λ e. omega (arith, ap kind_number e)) (W.mark_word q) (λ u h e. omega (arith, J.question w (W.answered j t w) a.more))
      (λ e. omega (arith, X.open-mark t w q (omega (arith, R.room, J.question w (W.answered j t w) a.more))))
  case_result r (waits_asked a b c) =
      changed (λ e. omega (arith, ap kind_number e)) (W.awaited_word j w) (λ u h e. omega arith)
      (λ e. omega (arith, a.free, X.same t (W.awaited_word j w) (asked j t w + 1) (omega (arith, R.room))))
  case_result r (completes {n = n} a b) =
      changed (λ e. omega (arith, ap kind_number e)) (W.mark_word n) (λ u h e. omega (arith, a.low))
      (λ e.
      omega
      (arith, J.few, a.its, (mark_range j t n).0, X.marks_in (completed_mark j t) (reached j t n) t n (omega (arith, R.room, a.low)) (reached-start j t n a.low)))
  case_result r (sticks a b c) = idles
  case_result r (passes {c = c} a b f) = changed (λ e. omega (arith, ap kind_number e)) (W.cursor_word c) (λ u h e. omega (arith, c-low J R small a)) (cursor-up a (moved t c) refl)
  case_result r (skips {c = c} a b) =
      changed (λ e. omega (arith, ap kind_number e)) (W.cursor_word c) (λ u h e. omega (arith, c-low J R small a))
      (λ e.
      omega
      (arith, X.same t (W.cursor_word c) (skip_end j t c) (omega (arith, R.room, c-low J R small a)), end_more c j.rules (W.cursor t c) (omega (arith, c-room J R small a, lits-length j c))))
  case_result r (opens {c = c} a b f) =
      changed (λ e. omega (arith, ap kind_number e)) (W.mark_word (literal j t c)) (λ u h e. omega (arith, b-low J R small a))
      (λ e.
      omega
      (arith, X.open-mark (moved t c) w (literal j t c) (omega (arith, R.room, b-low J R small a, length-set t (W.cursor_word c) (W.cursor t c + 1)))))
  case_result r (takes {c = c} a b m f) =
      changed (λ e. omega (arith, ap kind_number e)) (W.cursor_word c) (λ u h e. omega (arith, c-low J R small a))
      (cursor-up a (mark_all (λ d. w + 1) (taken j t c) (moved t c))
      (X.marks-cursor j (λ d. w + 1) (taken j t c) (moved t c) (λ d i. (taken_in j J t R w small a d i).low) c))
  case_result r (waits {c = c} a b m f) =
      changed (λ e. omega (arith, ap kind_number e)) (W.cursor_word c) (λ u h e. omega (arith, c-low J R small a))
      (cursor-up a (set (moved t c) (W.awaited_word j w) (literal j t c + 1))
      (X.await-cursor j (moved t c) w (literal j t c + 1) c (c-low J R small a)))

  pub turn-changes : NewestKept j t → Changes j t w
  unfolding turn
  turn-changes k =
      let r = case_result (base_turn j t w) (turn-case j t w) in
      let u = (base_turn j t w).table in
      record {
        idle = λ e. ap (with_newest j.claims j.workers) (r.still e) ∙ with_same j k;
        acts = λ n e.
            let d = r.moves n in
            d.differs (sym (with-other j.claims u j.workers d.word d.other) ∙ ap (λ (x : List ℕ). get_or x d.word 0) e);
      }
