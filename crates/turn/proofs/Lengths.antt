-- A turn leaves the table as long as it was. Assumes nothing.
use mathlib.Core.Path.{◌≡◌, refl, ◌∙◌}
use mathlib.Core.List.{List, [], ◌∷◌}
use Prim.Native.Nat.{ℕ, ◌+◌}
use lib.ListN.{length, get_or, set, length-set}
use Rattle.job.specs.Job.{Job}
use Rattle.table.specs.Questions.{asked_by}
use Rattle.table.specs.Layout as W
use Rattle.table.proofs.Keeping.{with-length}
use Rattle.turn.specs.Turn.{Turned, reached, completed_mark, open_claim, mark_all, base_turn, turn, skip_end}
use Rattle.turn.proofs.Cases.{literal, moved, taken, asked, Case, wakes, sleeps, rests, answers, opens-asked, waits_asked, completes, sticks, passes, skips, opens, takes, waits, turn-case}

pub open-length : (t : List ℕ) (w c : ℕ) → length (open_claim t w c) ≡ length t
unfolding open_claim
open-length t w c =
    length-set (set (set (set t W.opened_word (W.opened t + 1)) (W.mark_word c) (w + 1)) (W.cursor_word c) 0) (W.number_word c) (W.opened t + 1)
    ∙ length-set (set (set t W.opened_word (W.opened t + 1)) (W.mark_word c) (w + 1)) (W.cursor_word c) 0
    ∙ length-set (set t W.opened_word (W.opened t + 1)) (W.mark_word c) (w + 1)
    ∙ length-set t W.opened_word (W.opened t + 1)

pub mark-length : (f : ℕ → ℕ) (cs t : List ℕ) → length (mark_all f cs t) ≡ length t
unfolding mark_all
mark-length f [] t = refl
mark-length f (c ∷ cs) t = mark-length f cs (set t (W.mark_word c) (f c)) ∙ length-set t (W.mark_word c) (f c)

module _ (j : Job) (t : List ℕ) (w : ℕ) where
  moved_length : (c : ℕ) → length (moved t c) ≡ length t
  moved_length c = length-set t (W.cursor_word c) (W.cursor t c + 1)

  case-length : (r : Turned) → Case j t w r → length r.table ≡ length t
  case-length r (wakes a b) = length-set t (W.awaited_word j w) 0
  case-length r (sleeps a b) = refl
  case-length r (rests a b c) = refl
  case-length r (answers a b) =
      let k = get_or (asked_by j w) (W.answered j t w) 0 in
      let v = W.value_of (W.mark t (asked j t w)) in
      length-set (set t (W.answer_word j k) v) (W.answered_word j w) (W.answered j t w + 1) ∙ length-set t (W.answer_word j k) v
  case-length r (opens-asked a b) = open-length t w (asked j t w)
  case-length r (waits_asked a b c) = length-set t (W.awaited_word j w) (asked j t w + 1)
  case-length r (completes {n = n} a b) = mark-length (completed_mark j t) (reached j t n) t
  case-length r (sticks a b c) = refl
  case-length r (passes {c = c} a b f) = moved_length c
  case-length r (skips {c = c} a b) = length-set t (W.cursor_word c) (skip_end j t c)
  case-length r (opens {c = c} a b f) = open-length (moved t c) w (literal j t c) ∙ moved_length c
  case-length r (takes {c = c} a b m f) = mark-length (λ d. w + 1) (taken j t c) (moved t c) ∙ moved_length c
  case-length r (waits {c = c} a b m f) = length-set (moved t c) (W.awaited_word j w) (literal j t c + 1) ∙ moved_length c

  pub turn-length : length (turn j t w).table ≡ length t
  unfolding turn
  turn-length = with-length j.claims (base_turn j t w).table j.workers ∙ case-length (base_turn j t w) (turn-case j t w)
