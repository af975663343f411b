-- Turns one after the other: what holds of every table that turns made from a start, and how they are a run of the abstract theory. Assumes nothing.
--   Made j t   t is in range with right third words, its view has the invariants, and its marks and answers are verdicts
--   Low j ws   the workers ws are the job's
use mathlib.Core.Path.{◌≡◌, refl, sym, subst}
use mathlib.Core.Logic.{by_cases}
use mathlib.Core.List.{List, [], ◌∷◌, Memᴰ}
use Prim.Native.Nat.{ℕ, suc, ◌≤◌, ◌<◌}
use native.Mathlib.Omega.{arith}
use native.Mathlib.Decide.{ℕ_discrete, dec_lt}
use lib.ListN.{length}
use Rattle.base.specs.Lists.{is_in}
use Rattle.base.specs.Graph.{Reach, here, step}
use Rattle.base.proofs.Choose.{t?}
use Rattle.base.proofs.Lists.{In}
use Rattle.job.specs.Job.{Job}
use Rattle.table.specs.Questions.{asked_by}
use Rattle.table.specs.Layout as W
use Rattle.table.specs.Newest.{NewestKept}
use Rattle.table.specs.Ranges.{InRange}
use Rattle.waiting.specs.State.{Edge, Inv}
use Rattle.waiting.specs.Steps.{Finite}
use Rattle.waiting.specs.Runs.{Sizes, Ranged, Run, stop, moved, idled}
use Rattle.waiting.proofs.Keeps.{keeps, start-holds}
use Rattle.turn.specs.Turn.{lits, reached, turn, run_table}
use Rattle.turn.proofs.Jobs.{JobOk, lits-length}
use Rattle.steps.proofs.View.{low, low_in, low_out, low_pos, ask_at, ask_at_out, view}
use Rattle.steps.proofs.Edges.{reach_in, in_reach}
use Rattle.turn.proofs.Range.{turn_in_range, turn-kept}
use Rattle.steps.proofs.Outcomes.{Outcome, idle, acts}
use Rattle.steps.proofs.Turns.{turn_outcome}
use Rattle.steps.proofs.Verdicts.{Verdicts}
use Rattle.steps.proofs.Kept.{verdicts-kept}
use Rattle.steps.proofs.Starting.{Started, started_range, started-newests, started_view, started-verdicts}

abbrev pub sizes : Job → Sizes
sizes j = record { A = j.claims; T = j.workers; size = λ c. length (lits j c); total = λ w. length (asked_by j w) }

pub record Made (j : Job) (t : List ℕ) : Type 0 where
  pub range : InRange j t
  pub newests : NewestKept j t
  pub inv : Inv (view j t) j.workers
  pub verdicts : Verdicts j t

pub made-start : {j : Job} {t : List ℕ} → Started j t → Made j t
made-start {j} s = record { range = started_range s; newests = started-newests s; inv = start-holds j.workers (started_view s); verdicts = started-verdicts s }

low_most : {n i : ℕ} (v m : ℕ) → (i < n → v ≤ m) → low n i v ≤ m
low_most {n} {i} v m f =
    by_cases (dec_lt i n) (λ h. omega (arith, low_in v h, f h)) (λ h. omega (arith, low_out {n = n} {i = i} v h))

module _ (j : Job) (J : JobOk j) (t : List ℕ) where
  pub finite : Finite (view j t) j.claims
  finite = record { below = λ {c = c} l. (low_pos {n = j.claims} {i = c} {v = W.mark t c} l).0; reach? = λ x y. reach? x y (dec_lt x j.claims) }
    where
      far : {x y : ℕ} → (x < j.claims → ⊥) → Reach (Edge (view j t)) x y → x ≡ y
      far n here = refl
      far n (step e p) = absurd (n e.passed.claim)

      near : (x y : ℕ) → x < j.claims → Dec (In y (reached j t x)) → Dec (Reach (Edge (view j t)) x y)
      near x y h (yes i) = yes (in_reach j J t h i)
      near x y h (no n) = no (λ p. n (reach_in j J t h p))

      apart : (x y : ℕ) → (x < j.claims → ⊥) → Dec (x ≡ y) → Dec (Reach (Edge (view j t)) x y)
      apart x y n (yes e) = yes (rw e here)
      apart x y n (no m) = no (λ p. m (far n p))

      reach? : (x y : ℕ) → Dec (x < j.claims) → Dec (Reach (Edge (view j t)) x y)
      reach? x y (yes h) = near x y h (t? (is_in y (reached j t x)))
      reach? x y (no n) = apart x y n (ℕ_discrete x y)

  -- a question left is one of w's
  pub asks_left : (w : ℕ) {q : ℕ} → (view j t).asks w ≡ suc q → (w < j.workers) × (W.answered j t w < length (asked_by j w))
  asks_left w e =
      let p = low_pos {n = j.workers} {i = w} {v = ask_at j w (W.answered j t w)} (omega (arith, e)) in
      by_cases (dec_lt (W.answered j t w) (length (asked_by j w))) (λ l. (p.0, l)) (λ l. absurd (omega (arith, p.1, e, ask_at_out j w (W.answered j t w) l)))

  pub ranged : InRange j t → Ranged (sizes j) (view j t)
  ranged R =
      record {
        finite = finite;
        cursors = λ c. low_most (W.cursor t c) (length (lits j c)) (λ h. omega (arith, (R.claim c h).read, lits-length j c));
        answers = λ w. low_most (W.answered j t w) (length (asked_by j w)) (R.answers w);
        open-question = λ {w = w} e. let p = asks_left w e in omega (arith, p.1, low_in (W.answered j t w) p.0);
      }

  pub outcome : Made j t → (w : ℕ) → w < j.workers → Outcome j t w (turn j t w)
  outcome M w h = turn_outcome j J t M.range w h M.newests M.inv

  pub made-turn : Made j t → (w : ℕ) → w < j.workers → Made j (turn j t w).table
  made-turn M w h =
      record {
        range = turn_in_range J M.range h;
        newests = turn-kept J M.range h;
        inv = inv (outcome M w h);
        verdicts = verdicts-kept j J t M.range w h M.verdicts;
      }
    where
      inv : Outcome j t w (turn j t w) → Inv (view j (turn j t w).table) j.workers
      inv (idle k e n) = subst (λ (u : List ℕ). Inv (view j u) j.workers) (sym e) M.inv
      inv (acts k s) = keeps h J.few M.inv s

abbrev pub Low : Job → List ℕ → Type 0
Low j ws = (w : ℕ) → Memᴰ w ws → w < j.workers

module _ (j : Job) (J : JobOk j) where
  pub made-run : (ws t : List ℕ) → Made j t → Low j ws → Made j (run_table j t ws)
  unfolding run_table
  made-run [] t M l = M
  made-run (w ∷ ws) t M l =
      made-run ws (turn j t w).table (made-turn j J t M w (l w (Memᴰ.head refl))) (λ u i. l u (Memᴰ.tail i))

  pub run_of : (ws t : List ℕ) → Made j t → Low j ws → Run (sizes j) (view j t) ws (view j (run_table j t ws))
  unfolding run_table
  run_of [] t M l = stop
  run_of (w ∷ ws) t M l =
      go (run_of ws (turn j t w).table (made-turn j J t M w h) (λ u i. l u (Memᴰ.tail i))) (outcome j J t M w h)
    where
      h : w < j.workers
      h = l w (Memᴰ.head refl)

      go : Run (sizes j) (view j (turn j t w).table) ws (view j (run_table j (turn j t w).table ws)) → Outcome j t w (turn j t w) → Run (sizes j) (view j t) (w ∷ ws) (view j (run_table j (turn j t w).table ws))
      go r (idle k e n) = idled h n (subst (λ u. Run (sizes j) (view j u) ws (view j (run_table j (turn j t w).table ws))) e r)
      go r (acts k s) = moved h s (ranged j J (turn j t w).table (made-turn j J t M w h).range) r
