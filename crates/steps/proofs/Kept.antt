-- A turn keeps verdicts, and leaves complete claims as they are. Assumes nothing.
use mathlib.Core.Path.{◌≡◌, refl, sym, ◌∙◌, ap, ap₂, subst}
use mathlib.Core.Logic.{◌⊎◌, inl, inr, by_cases}
use mathlib.Core.List.{List}
use Prim.Native.Nat.{ℕ, ◌+◌, ◌≤◌, ◌<◌}
use native.Mathlib.Omega.{arith}
use native.Mathlib.Decide.{ℕ_discrete, dec_le}
use lib.ListN.{length, get_or}
use Rattle.job.specs.Job.{Job}
use Rattle.semantics.specs.Model.{byte_of}
use Rattle.table.specs.Questions.{asked_by, claim_asked, question_claim}
use Rattle.table.specs.Layout as W
use Rattle.table.specs.Ranges.{InRange}
use Rattle.table.proofs.Keeping.{with-mark}
use Rattle.turn.specs.Turn.{Turned, reached, completed_mark, base_turn, turn, skip_end}
use Rattle.turn.proofs.Places.{place-low, place-once}
use Rattle.turn.proofs.Jobs.{JobOk}
use Rattle.turn.proofs.Leading.{in-low}
use Rattle.turn.proofs.Cases.{AtQuestion, literal, moved, taken, asked, stored, Case, wakes, sleeps, rests, answers, opens-asked, waits_asked, completes, sticks, passes, skips, opens, takes, waits, turn-case}
use Rattle.turn.proofs.Words as X
use Rattle.turn.proofs.Range.{c-low, b-low, base_range}
use Rattle.steps.proofs.PassOutcome.{moved-long}
use Rattle.steps.proofs.Takeover.{taken_in}
use Rattle.steps.proofs.Verdicts.{verdict_in, answer_to, Verdicts, completed-right}
use Rattle.steps.proofs.Steady.{Steady, steady_trans, await_steady, moved_steady, cursor_steady, with_steady, open_steady, all_steady}

module _ (j : Job) (J : JobOk j) (t : List ℕ) (R : InRange j t) where
  pub steady_keeps : (t' : List ℕ) → Steady j t t' → Verdicts j t → Verdicts j t'
  steady_keeps t' k G =
      record {
        marks = λ c h d.
            by_cases (dec_le W.true_mark (W.mark t c)) (λ l. k.kept c h l ∙ G.marks c h l) (λ l. k.new c h (omega arith) d);
        met = λ w i h l.
            let m : i < W.answered j t w = omega (arith, k.counts w) in
            let d = G.met w i h m in
            omega (arith, k.kept (question_claim j w i) (J.question w i (omega (arith, R.answers w h))) d);
        words = λ w i h l.
            let m : i < W.answered j t w = omega (arith, k.counts w) in
            k.answers (get_or (asked_by j w) i 0) ∙ G.words w i h m;
        blank = λ w i h l b. k.answers (get_or (asked_by j w) i 0) ∙ G.blank w i h (omega (arith, k.counts w)) b;
      }

  module _ (w : ℕ) (small : w < j.workers) (G : Verdicts j t) where
    -- an answered question is one answered before, or the one answered now
    which : AtQuestion j t w → (u i : ℕ) → u < j.workers → i < W.answered j (stored j t w) u → (i < W.answered j t u) ⊎ ((u ≡ w) × (i ≡ W.answered j t w))
    which a u i h l =
        by_cases (ℕ_discrete u w)
        (λ e.
        let c = ap (W.answered j (stored j t w)) e ∙ X.stored-answered j t w small (omega (arith, R.room)) in
        let o = ap (W.answered j t) e in
        by_cases (ℕ_discrete i (W.answered j t w)) (λ q. inr (e, q)) (λ n. inl (omega arith)))
        (λ n. inl (omega (arith, X.stored-word j t w small (W.answered_word j u) (omega arith) (λ e. n (omega arith)))))

    stored-verdicts : AtQuestion j t w → W.true_mark ≤ W.mark t (asked j t w) → Verdicts j (stored j t w)
    unfolding question_claim
    stored-verdicts a d =
        record {
          marks = λ c h m. let e = mark_same c h in e ∙ G.marks c h (omega arith);
          met = λ u i h l. met u i h (which a u i h l);
          words = λ u i h l. word u i h (which a u i h l) (ℕ_discrete (get_or (asked_by j u) i 0) place);
          blank = blank;
        }
      where
        place : ℕ
        place = get_or (asked_by j w) (W.answered j t w) 0

        q-low : asked j t w < j.claims
        q-low = J.question w (W.answered j t w) a.more

        mark_same : (c : ℕ) → c < j.claims → W.mark (stored j t w) c ≡ W.mark t c
        mark_same c h = X.stored-word j t w small (W.mark_word c) (omega arith) (λ e. omega arith)

        met : (u i : ℕ) → u < j.workers → (i < W.answered j t u) ⊎ ((u ≡ w) × (i ≡ W.answered j t w)) → W.true_mark ≤ W.mark (stored j t w) (question_claim j u i)
        met u i h (inl l) =
            omega (arith, G.met u i h l, mark_same (question_claim j u i) (J.question u i (omega (arith, R.answers u h))))
        met u i h (inr e) =
            let c : question_claim j u i ≡ asked j t w = ap₂ (question_claim j) e.0 e.1 in
            omega (arith, ap (W.mark (stored j t w)) c, mark_same (asked j t w) q-low)

        -- the word of a question is its claim's, whoever asks
        value : byte_of (verdict_in j (asked j t w)) ≡ W.value_of (W.mark t (asked j t w))
        value = omega (arith, G.marks (asked j t w) q-low d)

        same-claim : (u i : ℕ) → get_or (asked_by j u) i 0 ≡ get_or (asked_by j w) (W.answered j t w) 0 → question_claim j u i ≡ asked j t w
        same-claim u i e = ap (claim_asked j.questions) e

        word : (u i : ℕ) → u < j.workers → (i < W.answered j t u) ⊎ ((u ≡ w) × (i ≡ W.answered j t w)) → Dec (get_or (asked_by j u) i 0 ≡ place) → answer_to j (stored j t w) u i ≡ byte_of (verdict_in j (question_claim j u i))
        word u i h o (yes e) =
            ap (λ (k : ℕ). get_or (stored j t w) (W.answer_word j k) 0) e
            ∙ X.stored-value j t w small (omega (arith, R.room, place-low j w (W.answered j t w) a.more)) ∙ sym value
            ∙ ap (λ (c : ℕ). byte_of (verdict_in j c)) (sym (same-claim u i e))
        word u i h (inl l) (no n) =
            X.stored_other j t w (W.answer_word j (get_or (asked_by j u) i 0)) (λ e. n (omega arith)) (λ e. omega arith) ∙ G.words u i h l
        word u i h (inr e) (no n) = absurd (n (ap₂ (λ (u i : ℕ). get_or (asked_by j u) i 0) e.0 e.1))

        before : (u : ℕ) {i : ℕ} → u < j.workers → W.answered j (stored j t w) u ≤ i → W.answered j t u ≤ i
        before u h l =
            by_cases (ℕ_discrete u w)
            (λ e.
            omega
            (arith, ap (W.answered j t) e, ap (W.answered j (stored j t w)) e, X.stored-answered j t w small (omega (arith, R.room))))
            (λ n. omega (arith, X.stored-word j t w small (W.answered_word j u) (omega arith) (λ e. n (omega arith))))

        -- a question still open is not the one answered now
        blank : (u i : ℕ) → u < j.workers → W.answered j (stored j t w) u ≤ i → i < length (asked_by j u) → answer_to j (stored j t w) u i ≡ 0
        blank u i h l b =
            by_cases (ℕ_discrete (get_or (asked_by j u) i 0) place)
            (λ e.
            let o = place-once j u w i (W.answered j t w) b a.more e in
            absurd (omega (arith, o.1, ap (W.answered j (stored j t w)) o.0, X.stored-answered j t w small (omega (arith, R.room)))))
            (λ n.
            X.stored_other j t w (W.answer_word j (get_or (asked_by j u) i 0)) (λ e. n (omega arith)) (λ e. omega arith)
            ∙ G.blank u i h (before u h l) b)

    -- what a turn is to verdicts: steady, or an answer
    data Effect (t' : List ℕ) : Type 0 where
      steady : Steady j t t' → Effect t'
      answered : AtQuestion j t w → W.true_mark ≤ W.mark t (asked j t w) → t' ≡ stored j t w → Effect t'

    still : Effect t
    still = steady (record { kept = λ c h d. refl; new = λ c h m d. absurd (omega arith); counts = λ w. refl; answers = λ k. refl })

    effect : (r : Turned) → Case j t w r → Effect r.table
    effect r (wakes a b) = steady (await_steady t w 0 small)
    effect r (sleeps a b) = still
    effect r (rests a b c) = still
    effect r (answers a b) = answered a b refl
    effect r (opens-asked a b) =
        let low = J.question w (W.answered j t w) a.more in
        steady (open_steady t w (asked j t w) (omega (arith, J.few)) low (omega (arith, R.room)) b)
    effect r (waits_asked a b c) = steady (await_steady t w (asked j t w + 1) small)
    effect r (completes {n = n} a b) =
        steady
        (all_steady (completed_mark j t) (reached j t n) t
        (λ c i. (in-low j J t c a.low i, omega (arith, (b c i).0, J.few))) (λ c l. completed-right G c) (omega (arith, R.room)))
    effect r (sticks a b c) = still
    effect r (passes {c = c} a b f) = steady (moved_steady t c (c-low J R small a))
    effect r (skips {c = c} a b) = steady (cursor_steady t c (skip_end j t c) (c-low J R small a))
    effect r (opens {c = c} a b f) =
        let l = b-low J R small a in
        steady
        (steady_trans (moved_steady t c (c-low J R small a))
        (open_steady (moved t c) w (literal j t c) (omega (arith, J.few)) l (omega (arith, R.room, moved-long j J t R w small a)) (X.cursor-mark j t c (W.cursor t c + 1) (literal j t c) ∙ b)))
    effect r (takes {c = c} a b m f) =
        steady
        (steady_trans (moved_steady t c (c-low J R small a))
        (all_steady (λ d. w + 1) (taken j t c) (moved t c)
        (λ d i.
        let k = taken_in j J t R w small a d i in
        (k.low, omega (arith, k.still, X.cursor-mark j t c (W.cursor t c + 1) d)))
        (λ d l. absurd (omega (arith, J.few))) (omega (arith, R.room, moved-long j J t R w small a))))
    effect r (waits {c = c} a b m f) =
        steady (steady_trans (moved_steady t c (c-low J R small a)) (await_steady (moved t c) w (literal j t c + 1) small))

    base-verdicts : Verdicts j (base_turn j t w).table
    base-verdicts = go (effect (base_turn j t w) (turn-case j t w))
      where
        go : {t' : List ℕ} → Effect t' → Verdicts j t'
        go {t'} (steady k) = steady_keeps t' k G
        go (answered a d e) = subst (Verdicts j) (sym e) (stored-verdicts a d)

    -- a complete claim stays as it is
    pub complete-stays : (c : ℕ) → c < j.claims → W.true_mark ≤ W.mark t c → W.mark (turn j t w).table c ≡ W.mark t c
    unfolding turn
    complete-stays c h d =
        with-mark j.claims (base_turn j t w).table j.workers c h ∙ go (base_turn j t w).table (effect (base_turn j t w) (turn-case j t w))
      where
        go : (t' : List ℕ) → Effect t' → W.mark t' c ≡ W.mark t c
        go t' (steady k) = k.kept c h d
        go t' (answered a m e) =
            ap (λ (u : List ℕ). W.mark u c) e ∙ X.stored-word j t w small (W.mark_word c) (omega arith) (λ e. omega arith)

module _ (j : Job) (J : JobOk j) (t : List ℕ) (R : InRange j t) (w : ℕ) (small : w < j.workers) (G : Verdicts j t) where
  pub verdicts-kept : Verdicts j (turn j t w).table
  unfolding turn
  verdicts-kept =
      steady_keeps j J (base_turn j t w).table (base_range J R small) (turn j t w).table (with_steady (base_turn j t w).table) (base-verdicts j J t R w small G)
