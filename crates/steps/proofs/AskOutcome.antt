-- Turns of a worker that awaits a claim, or that owns nothing and turns to its questions. Assumes nothing.
use mathlib.Core.Path.{◌≡◌, refl, sym, ◌∙◌, ap}
use mathlib.Core.Logic.{by_cases}
use mathlib.Core.List.{List}
use Prim.Native.Nat.{ℕ, ◌+◌, ◌-◌, ◌≤◌, ◌<◌}
use native.Mathlib.Omega.{arith}
use native.Mathlib.Decide.{ℕ_discrete}
use lib.ListN.{length, set}
use Rattle.job.specs.Job.{Job}
use Rattle.table.specs.Questions.{asked_by}
use Rattle.table.specs.Layout as W
use Rattle.table.specs.Ranges.{InRange}
use Rattle.waiting.specs.State.{Own}
use Rattle.waiting.specs.Steps as S
use Rattle.turn.specs.Turn.{kind_number, open_claim}
use Rattle.turn.specs.declared.Kind.TheVariants.{Idle, Woke, Opened, Waits, Answered}
use Rattle.turn.proofs.Jobs.{JobOk}
use Rattle.steps.proofs.View.{low_in, low_cong, ask_at, ask_at_in, ask_at_out, view}
use Rattle.steps.proofs.View as Q
use Rattle.turn.proofs.Cases.{AtQuestion, asked, stored}
use Rattle.turn.proofs.Words as X
use Rattle.turn.proofs.Behind.{same}
use Rattle.steps.proofs.Outcomes.{Outcome, idle, acts, done_of, of_done, of-own, open-alike}

module _ (j : Job) (J : JobOk j) (t : List ℕ) (R : InRange j t) (w : ℕ) (small : w < j.workers) where
  abbrev a : ℕ
  a = W.awaited j t w

  -- w awaits a claim
  module _ (n : a ≡ 0 → ⊥) where
    pub wakes_outcome : W.true_mark ≤ W.mark t (a - 1) → Outcome j t w (record { kind = Woke; table = set t (W.awaited_word j w) 0 })
    wakes_outcome d =
        acts (λ e. omega (arith, ap kind_number e))
        (S.woke
        (record {
          claim = a - 1;
          awaited = omega (arith, low_in a small);
          over = done_of j t (omega (arith, R.awaits w small)) d;
          free = low_in _ small ∙ X.same t (W.awaited_word j w) 0 (omega (arith, R.room));
          awaits = λ u m. low_cong _ _ (λ l. X.await-others j t w 0 u m);
          asks = λ u. low_cong _ _ (λ l. ap (ask_at j u) (X.await-answered j t w 0 u));
          answers = λ u. low_cong _ _ (λ l. X.await-answered j t w 0 u);
          claims = Q.claims (X.await-mark j t w 0) (X.await-number j t w 0) (X.await-opened j t w 0);
          literals = Q.stays J (λ c l. same (X.await-mark j t w 0 c l)) (X.await-cursor j t w 0);
        }))

    pub sleeps_outcome : W.mark t (a - 1) < W.true_mark → Outcome j t w (record { kind = Idle; table = t })
    sleeps_outcome d = idle refl refl go
      where
        busy : (view j t).awaited w ≡ 0 → ⊥
        busy e = n (sym (low_in a small) ∙ e)

        go : S.Ready (view j t) w → ⊥
        go (S.wakes {d = c} b o) =
            let z : a - 1 ≡ c = omega (arith, b, low_in a small) in
            let m : W.mark t c < W.true_mark = rw z at d in
            omega (arith, (of_done j t o).1)
        go (S.answers k o) = busy k.free
        go (S.opens k o) = busy k.free
        go (S.awaits k o) = busy k.free
        go (S.completes k f) = busy k.free
        go (S.passes k) = busy k.at.free

  pub rests_outcome : a ≡ 0 → ((x : ℕ) → x < j.claims → W.mark t x ≡ w + 1 → ⊥) → length (asked_by j w) ≤ W.answered j t w → Outcome j t w (record { kind = Idle; table = t })
  rests_outcome free nothing h = idle refl refl go
    where
      none : (x : ℕ) → Own (view j t) w x → ⊥
      none x o = let p = of-own j t o in nothing x p.0 p.1

      z : (view j t).asks w ≡ 0
      z = low_in _ small ∙ ask_at_out j w (W.answered j t w) (λ l. omega arith)

      go : S.Ready (view j t) w → ⊥
      go (S.wakes b o) = omega (arith, b, low_in a small)
      go (S.answers k o) = omega (arith, k.asks, z)
      go (S.opens k o) = omega (arith, k.asks, z)
      go (S.awaits k o) = omega (arith, k.asks, z)
      go (S.completes k f) = none _ k.newest.its
      go (S.passes k) = none _ k.its

  -- w owns nothing, and has a question left
  module _ (at : AtQuestion j t w) where
    abbrev q : ℕ
    q = asked j t w

    q-low : q < j.claims
    q-low = J.question w (W.answered j t w) at.more

    at-question : S.AtQuestion (view j t) w q
    at-question =
        record {
          free = low_in a small ∙ at.free;
          none = λ {x = x} o. let p = of-own j t o in at.nothing x p.0 p.1;
          asks = low_in _ small ∙ ask_at_in j w (W.answered j t w) at.more;
        }

    pub answers_outcome : W.true_mark ≤ W.mark t q → Outcome j t w (record { kind = Answered; table = stored j t w })
    answers_outcome d =
        acts (λ e. omega (arith, ap kind_number e))
        (S.answered {q = q}
        (record {
          at = at-question;
          over = done_of j t q-low d;
          answer = low_in _ small ∙ X.stored-answered j t w small (omega (arith, R.room)) ∙ omega (arith, low_in (W.answered j t w) small);
          answers = λ u m. low_cong _ _ (λ l. others u l m);
          asks = λ u m. low_cong _ _ (λ l. ap (ask_at j u) (others u l m));
          awaits = λ u. low_cong _ _ (λ l. X.stored-word j t w small (W.awaited_word j u) (omega arith) (λ e. omega arith));
          claims =
              Q.claims (λ c l. X.stored-word j t w small (W.mark_word c) (omega arith) (λ e. omega arith))
              (λ c l. X.stored-word j t w small (W.number_word c) (omega arith) (λ e. omega arith)) (X.stored-word j t w small W.opened_word (omega arith) (λ e. omega arith));
          literals =
              Q.stays J (λ c l. same (X.stored-word j t w small (W.mark_word c) (omega arith) (λ e. omega arith)))
              (λ c l. X.stored-word j t w small (W.cursor_word c) (omega arith) (λ e. omega arith));
        }))
      where
        others : (u : ℕ) → u < j.workers → (u ≡ w → ⊥) → W.answered j (stored j t w) u ≡ W.answered j t u
        others u l m = X.stored-word j t w small (W.answered_word j u) (omega arith) (λ e. m (omega arith))

    pub opens_outcome : W.mark t q ≡ 0 → Outcome j t w (record { kind = Opened; table = open_claim t w q })
    opens_outcome z =
        let l : W.number_word q < length t = omega (arith, R.room, q-low) in
        acts (λ e. omega (arith, ap kind_number e))
        (S.opened-asked {q = q}
        (record {
          at = at-question;
          opens = Q.opens q-low z (X.open-mark t w q l) (X.open-marks t w q) (X.open-opened t w q l) (X.open-number t w q l) (X.open-numbers t w q);
          workers = Q.workers (λ u m. X.open-awaited t w q j q-low u) (λ u m. X.open-answered t w q j q-low u);
          literals =
              Q.stays J (open-alike j J t w small q l z)
              (λ c m. by_cases (ℕ_discrete c q) (λ e. rw e (X.open-cursor t w q l ∙ sym ((R.claim q q-low).unread z))) (X.open-cursors t w q c));
        }))

    pub waits_outcome : (W.mark t q ≡ 0 → ⊥) → W.mark t q < W.true_mark → Outcome j t w (record { kind = Waits; table = set t (W.awaited_word j w) (q + 1) })
    waits_outcome z m =
        let v = low_in (W.mark t q) q-low in
        acts (λ e. omega (arith, ap kind_number e))
        (S.waits_asked {q = q}
        (record {
          at = at-question;
          holder = W.mark t q - 1;
          held = record { mine = omega arith; still = omega arith };
          claims = Q.claims (X.await-mark j t w (q + 1)) (X.await-number j t w (q + 1)) (X.await-opened j t w (q + 1));
          awaits =
              Q.awaits small (X.same t (W.awaited_word j w) (q + 1) (omega (arith, R.room))) (X.await-others j t w (q + 1)) (X.await-answered j t w (q + 1));
          literals = Q.stays J (λ c l. same (X.await-mark j t w (q + 1) c l)) (X.await-cursor j t w (q + 1));
        }))
