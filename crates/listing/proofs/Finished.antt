-- The finishing turns answer all: they stop where all is answered, or are 2L + A + 3Q rounds. Assumes nothing.
--   cycle j n w         n turns from worker w on, over and over
--   stopped             the finishing turns stop because all is answered, or are all those of the cycle
--   cycle_rounds        k * T turns from worker 0 on are k rounds
--   low_finish          the finishing turns are of the job's workers; finish-length   they are no more than allowed
--   finish-alike        they go by the words used alone
--   all_is, all-each    all is answered by the words, as a test and by worker
--   finished            after the turns ws from a fresh start, the finishing turns answer all; finished_in   the same, ws by its members
use Prim.Native.Nat.{ℕ, zero, suc, ◌+◌, ◌*◌, ◌<◌, ◌≤◌}
use mathlib.Core.Path.{◌≡◌, refl, sym, ◌∙◌, ap, subst}
use mathlib.Core.Bool.{Bool, true, false}
use mathlib.Core.Logic.{◌⊎◌, inl, inr, ⊎_elim}
use mathlib.Core.List.Memᴰ
use mathlib.Core.List.{List, [], ◌∷◌, ◌++◌, append_assoc}
use native.Mathlib.Omega.{arith}
use native.Mathlib.Nat.{suc-mul, eq-or-lt_of_le}
use borrow.Author.Tests.{eq-eqb, ne_eqb, le-leb, leb-true}
use lib.Dec.{leb}
use lib.ListN.{length}
use Rattle.base.specs.Choose.{pick}
use Rattle.base.specs.Span.{span}
use Rattle.base.specs.Lists.{upto, every}
use Rattle.base.proofs.Bools.{is, is_true}
use Rattle.base.proofs.Lists.{in-upto, upto_in, every_in, in-every}
use Rattle.base.proofs.Members.{span_at}
use Rattle.job.specs.Job.{Job}
use Rattle.job.specs.Format.{job_of}
use Rattle.job.specs.Checks.{check_job}
use Rattle.job.specs.Check.{Accepted}
use Rattle.table.specs.Questions.{asked_by}
use Rattle.table.specs.Layout.{answered}
use Rattle.table.specs.Start.{start_words}
use Rattle.waiting.specs.Runs.{Rounds, none, round}
use Rattle.table.specs.Ranges.{InRange}
use Rattle.turn.specs.Turn.{turn, run_table}
use Rattle.turn.proofs.Jobs.{JobOk}
use Rattle.turn.proofs.Range.{turn_in_range}
use Rattle.steps.specs.Agreeing.{Agree}
use Rattle.steps.proofs.Agreeing.{pick_two, every_same, answered_same}
use Rattle.steps.proofs.SameTurns.{turn-alike}
use Rattle.calls.specs.Promise.{Fresh, bound}
use Rattle.steps.proofs.Starting.{start-started}
use Rattle.steps.proofs.Runs.{Low}
use Rattle.steps.proofs.OnTurns.{rounds}
use Rattle.steps.proofs.Bounds.{bound_is}
use Rattle.calls.proofs.OnLists.{valid, ok}
use Rattle.calls.proofs.Histories.{run_append, low_append, low_all}
use Rattle.listing.specs.Finish.{answered_all, next_worker, finish_turns, most, Finished}
use Rattle.listing.proofs.Finishing.{done}

-- all is answered, by worker
module _ (j : Job) (t : List ℕ) where
  pub all_is : ((w : ℕ) → w < j.workers → length (asked_by j w) ≤ answered j t w) → answered_all j t ≡ true
  unfolding answered_all
  all_is f =
      is_true (every (done j t) (upto j.workers))
      (in-every (done j t) (upto j.workers)
      (λ w i. is (done j t w) (le-leb (length (asked_by j w)) (answered j t w) (f w (upto_in w j.workers i)))))

  pub all-each : answered_all j t ≡ true → (w : ℕ) → w < j.workers → length (asked_by j w) ≤ answered j t w
  unfolding answered_all
  all-each e w h =
      leb-true (length (asked_by j w)) (answered j t w)
      (is_true (done j t w) (every_in (done j t) (upto j.workers) (is (every (done j t) (upto j.workers)) e) w (in-upto w j.workers h)))

module _ (j : Job) where
  unfoldable cycle : ℕ → ℕ → List ℕ
  cycle zero w = []
  cycle (suc n) w = w ∷ cycle n (next_worker j w)

  stopped : (n : ℕ) (t : List ℕ) (w : ℕ) → (answered_all j (run_table j t (finish_turns n j t w)) ≡ true) ⊎ (finish_turns n j t w ≡ cycle n w)
  unfolding finish_turns run_table cycle pick
  stopped zero t w = inr refl
  stopped (suc n) t w = go (stopped n (turn j t w).table (next_worker j w)) (answered_all j t) refl
    where
      rest : List ℕ
      rest = finish_turns n j (turn j t w).table (next_worker j w)

      go : (answered_all j (run_table j (turn j t w).table rest) ≡ true) ⊎ (rest ≡ cycle n (next_worker j w)) → (b : Bool) → answered_all j t ≡ b → (answered_all j (run_table j t (pick b [] (w ∷ rest))) ≡ true) ⊎ (pick b [] (w ∷ rest) ≡ w ∷ cycle n (next_worker j w))
      go ih true e = inl e
      go (inl h) false e = inl h
      go (inr h) false e = inr (ap (λ (x : List ℕ). w ∷ x) h)

  -- a cycle goes through the workers from w on, and starts again
  wraps : (w : ℕ) → w + 1 ≡ j.workers → next_worker j w ≡ 0
  unfolding next_worker pick
  wraps w e = rw (eq-eqb (w + 1) j.workers e)

  climbs : (w : ℕ) → suc w < j.workers → next_worker j w ≡ suc w
  unfolding next_worker pick
  climbs w h = let n : w + 1 ≡ j.workers → ⊥ = λ e. omega arith in rw (ne_eqb (w + 1) j.workers n) (omega arith)

  one-round : (m n w : ℕ) → w + suc m ≡ j.workers → cycle (suc m + n) w ≡ span (λ k. k) w (suc m) ++ cycle n 0
  unfolding cycle span
  one-round zero n w e =
      let f : suc zero + n ≡ suc n = omega arith in
      ap (λ (k : ℕ). cycle k w) f ∙ ap (λ (v : ℕ). w ∷ cycle n v) (wraps w (omega arith))
  one-round (suc m) n w e =
      let f : suc (suc m) + n ≡ suc (suc m + n) = omega arith in
      ap (λ (k : ℕ). cycle k w) f
      ∙ (ap (λ (v : ℕ). w ∷ cycle (suc m + n) v) (climbs w (omega arith)) ∙ ap (λ (x : List ℕ). w ∷ x) (one-round m n (suc w) (omega arith)))

  whole-round : (n : ℕ) → 1 ≤ j.workers → cycle (j.workers + n) 0 ≡ upto j.workers ++ cycle n 0
  whole-round n h = go j.workers refl
    where
      go : (m : ℕ) → m ≡ j.workers → cycle (m + n) 0 ≡ upto m ++ cycle n 0
      go zero e = absurd (omega arith)
      go (suc m) e = one-round m n 0 (omega arith)

  cycle_rounds : 1 ≤ j.workers → (k : ℕ) → Rounds j.workers k (cycle (k * j.workers) 0)
  cycle_rounds h zero = none
  cycle_rounds h (suc k) =
      let e : suc k * j.workers ≡ j.workers + k * j.workers = omega (arith, suc-mul k j.workers) in
      subst (Rounds j.workers (suc k)) (sym (ap (λ (n : ℕ). cycle n 0) e ∙ whole-round (k * j.workers) h))
      (round (upto j.workers) (λ w l. span_at (λ k. k) 0 j.workers w (omega arith) (omega arith)) (cycle_rounds h k))

  next_low : (w : ℕ) → w < j.workers → next_worker j w < j.workers
  next_low w h = ⊎_elim (λ e. omega (arith, wraps w (omega arith))) (λ l. omega (arith, climbs w l)) (eq-or-lt_of_le h)

  pub low_finish : (n : ℕ) (t : List ℕ) (w : ℕ) → w < j.workers → Low j (finish_turns n j t w)
  unfolding finish_turns pick
  low_finish zero t w h = λ v i. absurd (Memᴰ.not-nil i)
  low_finish (suc n) t w h = go (answered_all j t) (low_finish n (turn j t w).table (next_worker j w) (next_low w h))
    where
      rest : List ℕ
      rest = finish_turns n j (turn j t w).table (next_worker j w)

      go : (b : Bool) → Low j rest → Low j (pick b [] (w ∷ rest))
      go true l v i = absurd (Memᴰ.not-nil i)
      go false l v i = ⊎_elim (λ e. omega (arith, e)) (l v) (Memᴰ.cases_cons i)

  pub finish-length : (n : ℕ) (t : List ℕ) (w : ℕ) → length (finish_turns n j t w) ≤ n
  unfolding finish_turns pick
  finish-length zero t w = omega arith
  finish-length (suc n) t w = go (answered_all j t) (finish-length n (turn j t w).table (next_worker j w))
    where
      rest : List ℕ
      rest = finish_turns n j (turn j t w).table (next_worker j w)

      go : (b : Bool) → length rest ≤ n → length (pick b [] (w ∷ rest)) ≤ suc n
      go true h = omega arith
      go false h = omega arith

  all_alike : {t u : List ℕ} → Agree j t u → answered_all j t ≡ answered_all j u
  unfolding answered_all
  all_alike a = every_same _ _ (upto j.workers) (λ w i. ap (leb (length (asked_by j w))) (answered_same a w (upto_in w j.workers i)))

  pub finish-alike : JobOk j → (n : ℕ) (w : ℕ) → w < j.workers → {t u : List ℕ} → InRange j t → Agree j t u → finish_turns n j t w ≡ finish_turns n j u w
  unfolding finish_turns
  finish-alike J zero w h R a = refl
  finish-alike J (suc n) w h {t} {u} R a =
      rw (← all_alike a)
      (pick_two (λ (x y : List ℕ). x ≡ y) (answered_all j t) (λ q. refl)
      (λ q. ap (λ (x : List ℕ). w ∷ x) (finish-alike J n (next_worker j w) (next_low w h) (turn_in_range J R h) (turn-alike J a w h R).table)))

-- turns before the rounds make the first round longer
after-turns : {T k : ℕ} (ws us : List ℕ) → Rounds T k us → Rounds T k (ws ++ us)
after-turns ws us none = none
after-turns {T} ws us (round {k} r {ws = vs} f rest) =
    subst (Rounds T (suc k)) (append_assoc ws r vs) (round (ws ++ r) (λ w l. Memᴰ.append_right ws (f w l)) rest)

module _ (s : List ℕ) (e : Accepted ≡ check_job s) (t : List ℕ) (room : Fresh s t) (ws : List ℕ) where
  abbrev start : List ℕ
  start = start_words (job_of s) t

  abbrev turned : List ℕ
  turned = run_table (job_of s) (start_words (job_of s) t) ws

  abbrev last : List ℕ
  last = finish_turns (most (job_of s)) (job_of s) (run_table (job_of s) (start_words (job_of s) t) ws) 0

  by_rounds : Low (job_of s) ws → last ≡ cycle (job_of s) (most (job_of s)) 0 → answered_all (job_of s) (run_table (job_of s) start (ws ++ last)) ≡ true
  by_rounds low q =
      let some : 1 ≤ (job_of s).workers = (valid s e).workers_least in
      let r : Rounds (job_of s).workers (bound (job_of s)) (ws ++ last) = after-turns ws last (subst (Rounds (job_of s).workers (bound (job_of s))) (sym q) (cycle_rounds (job_of s) some (bound (job_of s)))) in
      let l : Low (job_of s) (ws ++ last) = low_append (job_of s) ws last low (low_finish (job_of s) (most (job_of s)) turned 0 some) in
      all_is (job_of s) (run_table (job_of s) start (ws ++ last))
      (λ w h.
      omega (arith, rounds (job_of s) (ok s e) start (start-started (job_of s) t room) (ws ++ last) l (subst (λ (n : ℕ). Rounds (job_of s).workers n (ws ++ last)) (sym (bound_is (job_of s) (valid s e))) r) w h))

  answers_all : Low (job_of s) ws → answered_all (job_of s) (run_table (job_of s) start (ws ++ last)) ≡ true
  answers_all low =
      ⊎_elim (λ h. ap (answered_all (job_of s)) (run_append (job_of s) ws last start) ∙ h) (by_rounds low) (stopped (job_of s) (most (job_of s)) turned 0)

pub finished_in : (s : List ℕ) → Accepted ≡ check_job s → (t : List ℕ) → Fresh s t → (ws : List ℕ) → Low (job_of s) ws → answered_all (job_of s) (run_table (job_of s) (start_words (job_of s) t) (ws ++ finish_turns (most (job_of s)) (job_of s) (run_table (job_of s) (start_words (job_of s) t) ws) 0)) ≡ true
finished_in = answers_all

pub finished : (s : List ℕ) → Accepted ≡ check_job s → Finished s
finished s e t room ws low = finished_in s e t room ws (low_all (job_of s) ws low)
