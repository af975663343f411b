-- Turns in which a claim passes a literal: of a claim complete or its own, of a fresh one, or of another's that is then awaited;
-- or skips the rest of its rule. Assumes nothing.
use mathlib.Core.Path.{◌≡◌, refl, sym, ◌∙◌, ap, subst}
use mathlib.Core.Logic.{◌⊎◌, inl, inr, by_cases}
use mathlib.Core.Bool.{not}
use mathlib.Core.List.{List}
use Prim.Native.Nat.{ℕ, ◌+◌, ◌-◌, ◌≤◌, ◌<◌}
use native.Mathlib.Omega.{arith}
use native.Mathlib.Decide.{ℕ_discrete}
use lib.ListN.{length, set, length-set}
use lib.Dec.{T, T_not}
use Rattle.job.specs.Job.{Job}
use Rattle.table.specs.Layout as W
use Rattle.table.specs.Ranges.{InRange}
use Rattle.waiting.specs.State.{Own}
use Rattle.waiting.specs.Steps as S
use Rattle.turn.specs.Turn.{kind_number, open_claim, meets, skip_end}
use Rattle.turn.specs.declared.Kind.TheVariants.{Opened, Waits, Passed}
use Rattle.turn.proofs.Jobs.{JobOk, lits-length}
use Rattle.steps.proofs.View.{low_in, next_at_in, Alikes, view}
use Rattle.steps.proofs.View as Q
use Rattle.job.proofs.RuleEnds.{end_more}
use Rattle.turn.proofs.Behind.{Alike, same, Behind, behind_rest}
use Rattle.steps.proofs.Edges.{reach_in, in_reach}
use Rattle.turn.proofs.Cases.{AtLeft, Others, literal, moved, skipped, Clear}
use Rattle.turn.proofs.Words as X
use Rattle.turn.proofs.Range.{c-low, c-room, b-low}
use Rattle.steps.proofs.Meets.{within-meets}
use Rattle.steps.proofs.Outcomes.{Outcome, acts, done_of, of-own, full-next, open-alike, own_of, newest_view}

module _ (j : Job) (J : JobOk j) (t : List ℕ) (R : InRange j t) (w : ℕ) (small : w < j.workers) {n c : ℕ} (at : AtLeft j t w n c) where
  abbrev b : ℕ
  b = literal j t c

  abbrev v : ℕ
  v = W.cursor t c + 1

  low : c < j.claims
  low = c-low J R small at

  b_is-low : b < j.claims
  b_is-low = b-low J R small at

  pub at_literal : S.AtLiteral (view j t) w c b
  at_literal =
      record {
        top = n;
        at = record { free = low_in (W.awaited j t w) small ∙ at.at.free; newest = newest_view j J t small at.at };
        its = own_of j J t small low at.its;
        path = in_reach j J t at.at.low at.inside;
        next = low_in _ low ∙ next_at_in j c (W.cursor t c) (c-room J R small at);
        last = λ {x = x} o p l.
            let g = of-own j t o in
            omega (arith, low_in (W.number t x) g.0, low_in (W.number t c) low, at.last x (reach_in j J t at.at.low p) g.1 (λ f. omega (arith, full-next j t x f)));
      }

  pub moved-long : length (moved t c) ≡ length t
  moved-long = length-set t (W.cursor_word c) v

  -- any table with the cursors of the one in which c has passed its literal, in which nothing is completed
  pub moved_passes : Clear j t c → (t' : List ℕ) → Alikes j t t' → ((x : ℕ) → x < j.claims → W.cursor t' x ≡ W.cursor (moved t c) x) → S.Passes (view j t) (view j t') c b
  moved_passes free t' m f =
      Q.passes J m low (λ x m l. f x l ∙ X.cursor-others j t c v x m) (c-room J R small at) refl free
      (f c low ∙ X.same t (W.cursor_word c) v (omega (arith, R.room, low)) ∙ omega arith)

  pub moved-alike : Alikes j t (moved t c)
  moved-alike x l = same (X.cursor-mark j t c v x)

  pub moved-claims : S.Claims (view j t) (view j (moved t c))
  moved-claims = Q.claims (λ x l. X.cursor-mark j t c v x) (λ x l. X.cursor-number j t c v x) (X.cursor-opened j t c v)

  -- c skips the rest of its rule
  module _ (back : Behind j t c (W.cursor t c)) where
    abbrev e : ℕ
    e = skip_end j t c

    end-up : W.cursor (skipped j t c) c ≡ skip_end j t c
    end-up = X.same t (W.cursor_word c) e (omega (arith, R.room, low))

    pub skips_outcome : Outcome j t w (record { kind = Passed; table = skipped j t c })
    skips_outcome =
        acts (λ e. omega (arith, ap kind_number e))
        (S.skipped {b = b}
        (record {
          at = at_literal;
          claims = Q.claims (λ x l. X.cursor-mark j t c e x) (λ x l. X.cursor-number j t c e x) (X.cursor-opened j t c e);
          workers = Q.workers (λ u l. X.cursor-awaited j t c e low u) (λ u l. X.cursor-answered j t c e low u);
          literals =
              Q.skips J (λ x l. same (X.cursor-mark j t c e x)) low (λ x m l. X.cursor-others j t c e x m)
              (omega (arith, end-up, end_more c j.rules (W.cursor t c) (omega (arith, c-room J R small at, lits-length j c))))
              (λ k g h. behind_rest g (omega (arith, end-up)) back);
        }))

  pub passes_outcome : (W.true_mark ≤ W.mark t b) ⊎ (W.mark t b ≡ w + 1) → Clear j t c → Outcome j t w (record { kind = Passed; table = moved t c })
  passes_outcome p free =
      acts (λ e. omega (arith, ap kind_number e))
      (S.passed {b = b}
      (record {
        at = at_literal;
        to = to p;
        claims = moved-claims;
        workers = Q.workers (λ u l. X.cursor-awaited j t c v low u) (λ u l. X.cursor-answered j t c v low u);
        literals = moved_passes free (moved t c) moved-alike (λ x l. refl);
      }))
    where
      to : (W.true_mark ≤ W.mark t b) ⊎ (W.mark t b ≡ w + 1) → S.PassedTo (view j t) w b
      to (inl d) = S.complete (done_of j t b_is-low d)
      to (inr o) = S.PassedTo.own (own_of j J t small b_is-low o)

  pub opens_outcome : W.mark t b ≡ 0 → Clear j t c → Outcome j t w (record { kind = Opened; table = open_claim (moved t c) w b })
  opens_outcome z free =
      acts (λ e. omega (arith, ap kind_number e))
      (S.opened {b = b}
      (record {
        at = at_literal;
        opens =
            Q.opens b_is-low z (X.open-mark u w b long) (λ x n. X.open-marks u w b x n ∙ X.cursor-mark j t c v x)
            (X.open-opened u w b long ∙ omega (arith, X.cursor-opened j t c v)) (X.open-number u w b long ∙ omega (arith, X.cursor-opened j t c v))
            (λ x n. X.open-numbers u w b x n ∙ X.cursor-number j t c v x);
        workers =
            Q.workers (λ y m. X.open-awaited u w b j b_is-low y ∙ X.cursor-awaited j t c v low y)
            (λ y m. X.open-answered u w b j b_is-low y ∙ X.cursor-answered j t c v low y);
        literals = moved_passes free (open_claim u w b) alike (λ x m. by_cases (ℕ_discrete x b) (λ e. rw e same-cursor) (X.open-cursors u w b x));
      }))
    where
      u : List ℕ
      u = moved t c

      long : W.number_word b < length (moved t c)
      long = omega (arith, R.room, b_is-low, moved-long)

      alike : Alikes j t (open_claim (moved t c) w b)
      alike x l =
          subst (λ (m : ℕ). Alike m (W.mark (open_claim (moved t c) w b) x)) (X.cursor-mark j t c v x)
          (open-alike j J (moved t c) w small b long (X.cursor-mark j t c v b ∙ z) x l)

      -- b is fresh, so it isn't c, and its cursor was 0
      same-cursor : W.cursor (open_claim (moved t c) w b) b ≡ W.cursor (moved t c) b
      same-cursor =
          X.open-cursor (moved t c) w b long ∙ sym ((R.claim b b_is-low).unread z)
          ∙ sym (X.cursor-others j t c v b (λ e. omega (arith, at.its, ap (W.mark t) e)))

  -- b is another's
  module _ (o : Others t w b) where
    pub held : Own (view j t) (W.mark t b - 1) b
    held =
        let z = o.opened in
        let y = low_in (W.mark t b) b_is-low in
        record { mine = omega arith; still = omega (arith, o.still) }

    pub other-holder : W.mark t b - 1 ≡ w → ⊥
    other-holder e =
        let z = o.opened in
        let y = o.other in
        omega arith

    pub waits_outcome : T (not (meets j.workers j t w (W.mark t b - 1))) → Clear j t c → Outcome j t w (record { kind = Waits; table = set (moved t c) (W.awaited_word j w) (b + 1) })
    waits_outcome g free =
        acts (λ e. omega (arith, ap kind_number e))
        (S.waits {b = b}
        (record {
          at = at_literal;
          holder = W.mark t b - 1;
          held = held;
          other = other-holder;
          misses = λ p. T_not (meets j.workers j t w (W.mark t b - 1)) g (within-meets j t R w p);
          claims =
              Q.claims (λ x l. X.await-mark j (moved t c) w (b + 1) x l ∙ X.cursor-mark j t c v x)
              (λ x l. X.await-number j (moved t c) w (b + 1) x l ∙ X.cursor-number j t c v x) (X.await-opened j (moved t c) w (b + 1) ∙ X.cursor-opened j t c v);
          awaits =
              Q.awaits small (X.same (moved t c) (W.awaited_word j w) (b + 1) (omega (arith, R.room, moved-long)))
              (λ u n. X.await-others j (moved t c) w (b + 1) u n ∙ X.cursor-awaited j t c v low u)
              (λ u. X.await-answered j (moved t c) w (b + 1) u ∙ X.cursor-answered j t c v low u);
          literals =
              moved_passes free (set (moved t c) (W.awaited_word j w) (b + 1)) (λ x l. same (X.await-mark j (moved t c) w (b + 1) x l ∙ X.cursor-mark j t c v x))
              (X.await-cursor j (moved t c) w (b + 1));
        }))
