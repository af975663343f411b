-- A table as starting leaves it is in range with right third words, shows the abstract theory's start, and no verdict yet. Assumes nothing.
--   Started j t   the header, then zeros
use mathlib.Core.Path.{◌≡◌, sym, ◌∙◌, ap}
use mathlib.Core.Logic.{inl, by_cases}
use mathlib.Core.Bool.{false, not}
use mathlib.Core.List.{List}
use Prim.Native.Nat.{ℕ, ◌≤◌, ◌<◌}
use native.Mathlib.Omega.{arith}
use native.Mathlib.Decide.{dec_lt}
use borrow.Author.Tests.{eq-eqb}
use lib.ListN.{length, get_or}
use Rattle.base.proofs.Sets.{count-empty}
use Rattle.base.proofs.Counts.{count_same}
use Rattle.job.specs.Job.{Job}
use Rattle.table.specs.Questions.{asked_by}
use Rattle.table.specs.Layout as W
use Rattle.table.specs.Newest.{NewestKept, none}
use Rattle.table.specs.Ranges.{marked, InRange}
use Rattle.table.specs.Start.{start_words}
use Rattle.table.proofs.Started as S
use Rattle.table.proofs.NewestOf.{sought_is}
use Rattle.waiting.specs.Steps.{Start}
use Rattle.turn.proofs.Places.{place-low}
use Rattle.steps.proofs.View.{low, low_in, low_out, view}
use Rattle.steps.proofs.Verdicts.{Verdicts}

pub record Started (j : Job) (t : List ℕ) : Type 0 where
  pub room : W.used j ≤ length t
  pub header_is : (i : ℕ) → i < W.fixed_words → get_or t i 0 ≡ get_or (W.header j) i 0
  pub zeros : (i : ℕ) → W.fixed_words ≤ i → i < W.used j → get_or t i 0 ≡ 0

-- what starting writes
module _ (j : Job) (t : List ℕ) (room : W.used j ≤ length t) where
  pub start-length : length (start_words j t) ≡ length t
  start-length = S.start-length j t room

  pub start-started : Started j (start_words j t)
  start-started = record { room = omega (arith, start-length); header_is = S.start-header j t; zeros = S.start-zero j t }

module _ {j : Job} {t : List ℕ} (s : Started j t) where
  mark-zero : (c : ℕ) → c < j.claims → W.mark t c ≡ 0
  mark-zero c h = s.zeros (W.mark_word c) (omega arith) (omega arith)

  cursor-zero : (c : ℕ) → c < j.claims → W.cursor t c ≡ 0
  cursor-zero c h = s.zeros (W.cursor_word c) (omega arith) (omega arith)

  number-zero : (c : ℕ) → c < j.claims → W.number t c ≡ 0
  number-zero c h = s.zeros (W.number_word c) (omega arith) (omega arith)

  awaited-zero : (w : ℕ) → w < j.workers → W.awaited j t w ≡ 0
  awaited-zero w h = s.zeros (W.awaited_word j w) (omega arith) (omega arith)

  pub answered-zero : (w : ℕ) → w < j.workers → W.answered j t w ≡ 0
  answered-zero w h = s.zeros (W.answered_word j w) (omega arith) (omega arith)

  none-marked : marked j t ≡ 0
  unfolding marked
  none-marked =
      count_same (λ c. false) (λ c. not (W.fresh t c)) j.claims (λ c h. ap not (eq-eqb (W.mark t c) 0 (mark-zero c h)))
      ∙ count-empty (λ c. false) (λ c t. t) j.claims

  pub started_range : InRange j t
  started_range =
      record {
        room = s.room;
        header_is = s.header_is;
        opened_is = s.zeros W.opened_word (omega arith) (omega arith) ∙ sym none-marked;
        claim = λ c h.
            let m = mark-zero c h in
            let r = cursor-zero c h in
            let n = number-zero c h in
            record {
              mark_in = inl (omega arith);
              unread = λ e. r;
              read = omega arith;
              unnumbered = λ e. n;
              numbered = λ f. absurd (f m);
              number_most = omega arith;
            };
        awaits = λ w h. omega (arith, awaited-zero w h);
        answers = λ w h. omega (arith, answered-zero w h);
        values = λ k h. omega (arith, s.zeros (W.answer_word j k) (omega arith) (omega arith));
      }

  -- nobody owns a claim
  pub started-newests : NewestKept j t
  started-newests =
      record {
        is = λ w h.
            sought_is j.claims t w (none (s.zeros (W.newest_word j w) (omega arith) (omega arith)) (λ c o. omega (arith, o.1, mark-zero c o.0)));
      }

  zero-low : {n i v : ℕ} → (i < n → v ≡ 0) → low n i v ≡ 0
  zero-low {n} {i} {v} f = by_cases (dec_lt i n) (λ h. low_in v h ∙ f h) (λ h. low_out v h)

  pub started_view : Start (view j t)
  started_view =
      record {
        marks = λ c. zero-low (mark-zero c);
        numbers = λ c. zero-low (number-zero c);
        awaits = λ w. zero-low (awaited-zero w);
        none = λ {x = x} p. omega (arith, p.before, cursor-zero x p.claim);
      }

  pub started-verdicts : Verdicts j t
  started-verdicts =
      record {
        marks = λ c h d. absurd (omega (arith, mark-zero c h));
        met = λ w i h l. absurd (omega (arith, answered-zero w h));
        words = λ w i h l. absurd (omega (arith, answered-zero w h));
        blank = λ w i h l b. let p = place-low j w i b in s.zeros (W.answer_word j (get_or (asked_by j w) i 0)) (omega arith) (omega arith);
      }
