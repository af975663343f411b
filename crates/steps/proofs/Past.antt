-- "Words past those used never change." Assumes nothing.
use mathlib.Core.Path.{◌≡◌, refl, ◌∙◌}
use mathlib.Core.List.{List}
use Prim.Native.Nat.{ℕ, ◌+◌, ◌≤◌, ◌<◌}
use native.Mathlib.Omega.{arith}
use lib.ListN.{get_or, set}
use Rattle.base.proofs.Lists.{In}
use Rattle.job.specs.Job.{Job}
use Rattle.table.specs.Layout as W
use Rattle.table.specs.Ranges.{InRange}
use Rattle.table.proofs.Keeping.{with-past}
use Rattle.turn.specs.Turn.{Turned, reached, completed_mark, open_claim, mark_all, base_turn, turn, skip_end}
use Rattle.turn.proofs.Places.{place-low}
use Rattle.turn.proofs.Jobs.{JobOk}
use Rattle.turn.proofs.Leading.{in-low}
use Rattle.turn.proofs.Cases.{literal, moved, taken, asked, Case, wakes, sleeps, rests, answers, opens-asked, waits_asked, completes, sticks, passes, skips, opens, takes, waits, turn-case}
use Rattle.turn.proofs.Words as X
use Rattle.turn.proofs.Range.{c-low, b-low}
use Rattle.steps.proofs.Takeover.{taken_in}

module _ (j : Job) (J : JobOk j) (t : List ℕ) (R : InRange j t) (w : ℕ) (small : w < j.workers) where
  -- stores past which a word stands
  module _ (i : ℕ) (l : W.used j ≤ i) where
    open-past : (u : List ℕ) (b : ℕ) → b < j.claims → get_or (open_claim u w b) i 0 ≡ get_or u i 0
    open-past u b h = X.open-other u w b i (λ e. omega arith) (λ e. omega arith) (λ e. omega arith) (λ e. omega arith)

    await-past : (u : List ℕ) (v : ℕ) → get_or (set u (W.awaited_word j w) v) i 0 ≡ get_or u i 0
    await-past u v = X.other u (W.awaited_word j w) v i (λ e. omega arith)

    moved-past : (c : ℕ) → c < j.claims → get_or (moved t c) i 0 ≡ get_or t i 0
    moved-past c h = X.other t (W.cursor_word c) (W.cursor t c + 1) i (λ e. omega arith)

    marks-past : (f : ℕ → ℕ) (cs u : List ℕ) → ((c : ℕ) → In c cs → c < j.claims) → get_or (mark_all f cs u) i 0 ≡ get_or u i 0
    marks-past f cs u h = X.marks-other f cs u i (λ c k e. omega (arith, h c k))

    case-past : (r : Turned) → Case j t w r → get_or r.table i 0 ≡ get_or t i 0
    case-past r (wakes a b) = await-past t 0
    case-past r (sleeps a b) = refl
    case-past r (rests a b c) = refl
    case-past r (answers a b) = X.stored_other j t w i (λ e. omega (arith, place-low j w (W.answered j t w) a.more)) (λ e. omega arith)
    case-past r (opens-asked a b) = open-past t (asked j t w) (J.question w (W.answered j t w) a.more)
    case-past r (waits_asked a b c) = await-past t (asked j t w + 1)
    case-past r (completes {n = n} a b) = marks-past (completed_mark j t) (reached j t n) t (λ c k. in-low j J t c a.low k)
    case-past r (sticks a b c) = refl
    case-past r (passes {c = c} a b f) = moved-past c (c-low J R small a)
    case-past r (skips {c = c} a b) = let h = c-low J R small a in X.other t (W.cursor_word c) (skip_end j t c) i (λ e. omega arith)
    case-past r (opens {c = c} a b f) = open-past (moved t c) (literal j t c) (b-low J R small a) ∙ moved-past c (c-low J R small a)
    case-past r (takes {c = c} a b m f) =
        marks-past (λ d. w + 1) (taken j t c) (moved t c) (λ d k. (taken_in j J t R w small a d k).low) ∙ moved-past c (c-low J R small a)
    case-past r (waits {c = c} a b m f) = await-past (moved t c) (literal j t c + 1) ∙ moved-past c (c-low J R small a)

  pub turn-past : (i : ℕ) → W.used j ≤ i → get_or (turn j t w).table i 0 ≡ get_or t i 0
  unfolding turn
  turn-past i l = with-past j.claims (base_turn j t w).table j.workers i (omega arith) ∙ case-past i l (base_turn j t w) (turn-case j t w)
