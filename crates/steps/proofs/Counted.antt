-- A worker's answered questions are counted by its turns of kind answered. Assumes nothing.
--   Counted j t w r   the turn r of w counts a question of w where it is of kind answered, and no other
use mathlib.Core.Path.{◌≡◌, refl, ◌∙◌, ap}
use mathlib.Core.List.{List}
use Prim.Native.Nat.{ℕ, ◌+◌, ◌<◌}
use native.Mathlib.Omega.{arith}
use Rattle.job.specs.Job.{Job}
use Rattle.table.specs.Layout as W
use Rattle.table.specs.Ranges.{InRange}
use Rattle.table.proofs.Keeping.{with-answered}
use Rattle.turn.specs.Turn.{kind_number, Turned, reached, completed_mark, base_turn, turn, skip_end}
use Rattle.turn.specs.declared.Kind.{Kind}
use Rattle.turn.specs.declared.Kind.TheVariants.{Answered}
use Rattle.turn.proofs.Jobs.{JobOk}
use Rattle.turn.proofs.Leading.{in-low}
use Rattle.turn.proofs.Cases.{literal, moved, taken, asked, Case, wakes, sleeps, rests, answers, opens-asked, waits_asked, completes, sticks, passes, skips, opens, takes, waits, turn-case}
use Rattle.turn.proofs.Words as X
use Rattle.turn.proofs.Range.{c-low, b-low}
use Rattle.steps.proofs.Takeover.{taken_in}

pub record Counted (j : Job) (t : List ℕ) (w : ℕ) (r : Turned) : Type 0 where
  pub more : r.kind ≡ Answered → W.answered j r.table w ≡ W.answered j t w + 1
  pub same : (r.kind ≡ Answered → ⊥) → W.answered j r.table w ≡ W.answered j t w
  pub others : (u : ℕ) → u < j.workers → (u ≡ w → ⊥) → W.answered j r.table u ≡ W.answered j t u

module _ (j : Job) (J : JobOk j) (t : List ℕ) (R : InRange j t) (w : ℕ) (small : w < j.workers) where
  -- a turn of another kind
  none : (k : Kind) (t' : List ℕ) → (k ≡ Answered → ⊥) → ((u : ℕ) → W.answered j t' u ≡ W.answered j t u) → Counted j t w (record { kind = k; table = t' })
  none k t' n f = record { more = λ e. absurd (n e); same = λ m. f w; others = λ u h m. f u }

  case-counted : (r : Turned) → Case j t w r → Counted j t w r
  case-counted r (wakes a b) = none _ _ (λ e. omega (arith, ap kind_number e)) (X.await-answered j t w 0)
  case-counted r (sleeps a b) = none _ t (λ e. omega (arith, ap kind_number e)) (λ u. refl)
  case-counted r (rests a b c) = none _ t (λ e. omega (arith, ap kind_number e)) (λ u. refl)
  case-counted r (answers a b) =
      record {
        more = λ e. X.stored-answered j t w small (omega (arith, R.room));
        same = λ n. absurd (n refl);
        others = λ u h m. X.stored-word j t w small (W.answered_word j u) (omega arith) (λ e. m (omega arith));
      }
  case-counted r (opens-asked a b) =
      none _ _ (λ e. omega (arith, ap kind_number e)) (X.open-answered t w (asked j t w) j (J.question w (W.answered j t w) a.more))
  case-counted r (waits_asked a b c) = none _ _ (λ e. omega (arith, ap kind_number e)) (X.await-answered j t w (asked j t w + 1))
  case-counted r (completes {n = n} a b) =
      none _ _ (λ e. omega (arith, ap kind_number e)) (X.marks-answered j (completed_mark j t) (reached j t n) t (λ c i. in-low j J t c a.low i))
  case-counted r (sticks a b c) = none _ t (λ e. omega (arith, ap kind_number e)) (λ u. refl)
  case-counted r (passes {c = c} a b f) = none _ _ (λ e. omega (arith, ap kind_number e)) (X.cursor-answered j t c (W.cursor t c + 1) (c-low J R small a))
  case-counted r (skips {c = c} a b) =
      none _ _ (λ e. omega (arith, ap kind_number e)) (X.cursor-answered j t c (skip_end j t c) (c-low J R small a))
  case-counted r (opens {c = c} a b f) =
      none _ _ (λ e. omega (arith, ap kind_number e))
      (λ u.
      X.open-answered (moved t c) w (literal j t c) j (b-low J R small a) u ∙ X.cursor-answered j t c (W.cursor t c + 1) (c-low J R small a) u)
  case-counted r (takes {c = c} a b m f) =
      none _ _ (λ e. omega (arith, ap kind_number e))
      (λ u.
      X.marks-answered j (λ d. w + 1) (taken j t c) (moved t c) (λ d i. (taken_in j J t R w small a d i).low) u
      ∙ X.cursor-answered j t c (W.cursor t c + 1) (c-low J R small a) u)
  case-counted r (waits {c = c} a b m f) =
      none _ _ (λ e. omega (arith, ap kind_number e))
      (λ u. X.await-answered j (moved t c) w (literal j t c + 1) u ∙ X.cursor-answered j t c (W.cursor t c + 1) (c-low J R small a) u)

  pub turn-counted : Counted j t w (turn j t w)
  unfolding turn
  turn-counted =
      let r = case-counted (base_turn j t w) (turn-case j t w) in
      let k = with-answered j.claims (base_turn j t w).table j.workers in
      record { more = λ e. k w ∙ r.more e; same = λ n. k w ∙ r.same n; others = λ u h n. k u ∙ r.others u h n }
