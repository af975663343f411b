-- Demand 3 on the turns: rounds, quiet, and which claims are complete. Assumes nothing.
--   LitAt j x y         y is the claim of a literal of a rule of x;    led-job j   the job by its literals and questions
--   rounds              after as many rounds as the bound says, all is answered
--   answered_idle, idle-answered   all is answered exactly when no worker's turn changes anything
--   only-led            a claim that isn't fresh is one that a question names or leads to
--   none_open           when all is answered, it is complete
--   else-behind         a literal of a complete claim is complete, or stands behind a complete false one
use mathlib.Core.Path.{◌≡◌, refl, sym, ◌∙◌, ap, subst}
use mathlib.Core.Logic.{by_cases}
use mathlib.Core.List.Memᴰ
use mathlib.Core.List.{List, [], ◌∷◌}
use Prim.Native.Nat.{ℕ, zero, suc, ◌≤◌, ◌<◌}
use native.Mathlib.Omega.{arith}
use native.Mathlib.Decide.{dec_lt}
use native.Mathlib.Nat.{suc_inj}
use lib.ListN.{length, get_or}
use Rattle.job.specs.Job.{Job}
use Rattle.table.specs.Questions.{asked_by, question_claim}
use Rattle.table.specs.Layout as W
use Rattle.waiting.specs.State.{Done, owning}
use Rattle.waiting.specs.Steps.{Mover}
use Rattle.waiting.specs.Runs.{bound, Rounds}
use Rattle.waiting.specs.Led as L
use Rattle.waiting.proofs.Basics.{owner, has-question}
use Rattle.waiting.proofs.Rounds.{rounds-answer, step-ready}
use Rattle.waiting.proofs.Progress.{progress, rest}
use Rattle.waiting.proofs.Led.{known-keeps, known_start}
use Rattle.turn.specs.Turn.{lits, turn, run_table}
use Rattle.turn.specs.declared.Kind.TheVariants.{Idle}
use Rattle.turn.proofs.Jobs.{JobOk}
use Rattle.steps.proofs.View.{low_in, low_pos, next_at, next_at_in, next_at_out, ask_at, ask_at_in, ask_at_out, view}
use Rattle.turn.proofs.Behind.{Behind, behind?}
use Rattle.steps.proofs.Outcomes.{Outcome, idle, acts, done_of, of_done, next-full}
use Rattle.steps.proofs.Starting.{Started, started_view}
use Rattle.steps.proofs.Runs.{sizes, Made, made-start, finite, asks_left, ranged, outcome, made-turn, Low, made-run, run_of}

pub record LitAt (j : Job) (x y : ℕ) : Type 0 where
  pub at : ℕ
  pub real : at < length (lits j x)
  pub is : get_or (lits j x) at 0 ≡ y
  pub claim : x < j.claims

abbrev pub led-job : Job → L.Job
led-job j = record { workers = j.workers; total = λ w. length (asked_by j w); question = question_claim j; Lit = LitAt j }

-- no question left, in the words and in the state
module _ (j : Job) (t : List ℕ) (w : ℕ) (h : w < j.workers) where
  pub ask_over : (view j t).asks w ≡ 0 → length (asked_by j w) ≤ W.answered j t w
  ask_over e =
      by_cases (dec_lt (W.answered j t w) (length (asked_by j w)))
      (λ l. absurd (omega (arith, e, low_in (ask_at j w (W.answered j t w)) h, ask_at_in j w (W.answered j t w) l))) (λ l. omega arith)

  pub over_ask : length (asked_by j w) ≤ W.answered j t w → (view j t).asks w ≡ 0
  over_ask l = low_in (ask_at j w (W.answered j t w)) h ∙ ask_at_out j w (W.answered j t w) (λ m. omega arith)

module _ (j : Job) (J : JobOk j) where
  pub rounds : (t : List ℕ) → Started j t → (ws : List ℕ) → Low j ws → Rounds j.workers (bound (sizes j)) ws → (w : ℕ) → w < j.workers → W.answered j (run_table j t ws) w ≡ length (asked_by j w)
  rounds t s ws l r w h =
      let M = made-start s in
      let u = run_table j t ws in
      let z = rounds-answer J.few (started_view s) (ranged j J t M.range) (run_of j J ws t M l) r w h in
      omega (arith, ask_over j u w h z, (made-run j J ws t M l).range.answers w h)

  -- quiet
  module _ (t : List ℕ) (M : Made j t) where
    pub answered_idle : ((w : ℕ) → w < j.workers → W.answered j t w ≡ length (asked_by j w)) → (w : ℕ) → w < j.workers → ((turn j t w).kind ≡ Idle) × ((turn j t w).table ≡ t)
    answered_idle z w h = go (outcome j J t M w h)
      where
        go : Outcome j t w (turn j t w) → ((turn j t w).kind ≡ Idle) × ((turn j t w).table ≡ t)
        go (idle k e n) = (k, e)
        go (acts k s) = absurd (rest M.inv (finite j J t) (over_ask j t w h (omega (arith, z w h))) (step-ready s))

    pub idle-answered : ((w : ℕ) → w < j.workers → (turn j t w).kind ≡ Idle) → (w : ℕ) → w < j.workers → W.answered j t w ≡ length (asked_by j w)
    idle-answered f w h = omega (arith, ask_over j t w h (go ((view j t).asks w) refl), M.range.answers w h)
      where
        moves : (m : Mover (view j t) j.workers) → Outcome j t m.who (turn j t m.who) → ⊥
        moves m (idle k e n) = n m.ready
        moves m (acts k s) = k (f m.who m.small)

        go : (a : ℕ) → (view j t).asks w ≡ a → (view j t).asks w ≡ 0
        go zero e = e
        go (suc q) e = let m = progress M.inv (finite j J t) h e in absurd (moves m (outcome j J t M m.who m.small))

  -- claims
  shows : (t : List ℕ) → L.Shows (led-job j) (view j t)
  shows t =
      record {
        next = λ {x = x} e. next x e;
        asks = λ {w = w} e. asks w e;
      }
    where
      next : (x : ℕ) {y : ℕ} → (view j t).next x ≡ suc y → LitAt j x y
      next x {y} e =
          let p = low_pos {n = j.claims} {i = x} {v = next_at j x (W.cursor t x)} (omega (arith, e)) in
          by_cases (dec_lt (W.cursor t x) (length (lits j x)))
          (λ l. record { at = W.cursor t x; real = l; is = suc_inj (sym (next_at_in j x (W.cursor t x) l) ∙ sym p.1 ∙ e); claim = p.0 })
          (λ l. absurd (omega (arith, p.1, e, next_at_out j x (W.cursor t x) l)))

      asks : (w : ℕ) {q : ℕ} → (view j t).asks w ≡ suc q → (w < j.workers) × ((view j t).answered w < length (asked_by j w)) × (question_claim j w ((view j t).answered w) ≡ q)
      asks w {q} e =
          let p = asks_left j J t w e in
          let v = low_in (W.answered j t w) p.0 in (
            p.0,
            omega (arith, v, p.1),
            ap (question_claim j w) v
                ∙ suc_inj (sym (ask_at_in j w (W.answered j t w) p.1) ∙ sym (low_in (ask_at j w (W.answered j t w)) p.0) ∙ e),
          )

  -- a complete claim has passed all its literals, so each leads, and its claim is complete, or stands behind
  pub else-behind : (t : List ℕ) → Made j t → (c : ℕ) → c < j.claims → W.true_mark ≤ W.mark t c → (k : ℕ) → k < length (lits j c) → (W.true_mark ≤ W.mark t (get_or (lits j c) k 0) → ⊥) → Behind j t c k
  else-behind t M c h d k l n = go (behind? j t c k)
    where
      over : Done (view j t) c
      over = done_of j t h d

      go : Dec (Behind j t c k) → Behind j t c k
      go (yes b) = b
      go (no f) =
          absurd
          (n
          (of_done j t
          (M.inv.closed
          (record { at = k; before = omega (arith, next-full j t c M.range h (M.inv.full over)); real = l; is = refl; claim = h; clear = f })
          over)).1)

  known-turn : (t : List ℕ) → Made j t → (w : ℕ) → w < j.workers → L.Known (led-job j) (view j t) → L.Known (led-job j) (view j (turn j t w).table)
  known-turn t M w h k = go (outcome j J t M w h)
    where
      go : Outcome j t w (turn j t w) → L.Known (led-job j) (view j (turn j t w).table)
      go (idle z e n) = subst (λ u. L.Known (led-job j) (view j u)) (sym e) k
      go (acts z s) = known-keeps (shows t) k s

  known-run : (ws t : List ℕ) → Made j t → Low j ws → L.Known (led-job j) (view j t) → L.Known (led-job j) (view j (run_table j t ws))
  unfolding run_table
  known-run [] t M l k = k
  known-run (w ∷ ws) t M l k =
      let h = l w (Memᴰ.head refl) in
      known-run ws (turn j t w).table (made-turn j J t M w h) (λ u i. l u (Memᴰ.tail i)) (known-turn t M w h k)

  module _ (t : List ℕ) (s : Started j t) (ws : List ℕ) (l : Low j ws) where
    abbrev u : List ℕ
    u = run_table j t ws

    M : Made j u
    M = made-run j J ws t (made-start s) l

    known : L.Known (led-job j) (view j u)
    known = known-run ws t (made-start s) l (known_start (started_view s))

    pub only-led : (c : ℕ) → c < j.claims → 0 < W.mark u c → L.Led (led-job j) c
    only-led c h d = known.named (omega (arith, low_in (W.mark u c) h))

    -- when all is answered nobody owns anything
    pub none_open : ((w : ℕ) → w < j.workers → W.answered j u w ≡ length (asked_by j w)) → (c : ℕ) → c < j.claims → 0 < W.mark u c → W.true_mark ≤ W.mark u c
    none_open z c h d =
        by_cases (dec_lt (W.mark u c) W.true_mark)
        (λ l.
        let e = low_in (W.mark u c) h in
        let o = owner {s = view j u} {x = c} (omega arith) (omega arith) in
        let q = has-question (M.inv.asked (owning o.1)) in
        let w = M.inv.workers o.1 in
        absurd (omega (arith, q.1, over_ask j u o.0 w (omega (arith, z o.0 w)))))
        (λ l. omega arith)
