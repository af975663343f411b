-- Which answer a recorded run and a replay give, by the rows: each case of specs/Laws gives its answer, and one of them always holds. Assumes nothing.
--   starts          rows 1 to 9 accept
--   run-exactly     the clause `runs` of Answered
--   even_rows, odd_rows, by-pairs   a replay's rows before any turn, and what is left of the check then: how many pairs hold
--   given-workers   the turns that a record gives
--   false_at        the pair after those that hold
--   replay-exactly  the clause `replays` of Answered
use Prim.Native.Nat.{ℕ, ◌+◌, ◌*◌, ◌/◌, ◌%◌, ◌≤◌, ◌<◌}
use mathlib.Core.Path.{◌≡◌, refl, sym, ◌∙◌, ap, subst}
use mathlib.Core.Bool.{true, false}
use mathlib.Core.List.{List}
use mathlib.Core.Logic.{◌↔◌, ◌⊎◌, inl, inr, by_cases, ⊎_elim}
use native.Mathlib.Omega.{arith}
use native.Mathlib.Decide.{ℕ_discrete, dec_lt}
use borrow.Author.Tests.{leb-true}
use lib.ListN.{length, get_or, take}
use lib.Seq.{take_all, length-take-le, get_or-take}
use Rattle.base.specs.Compare.{not_below}
use Rattle.base.proofs.Compare.{under-yes, under-no, not_below-yes, not_below-no, not_below_lt, differs-yes, differs-no}
use Rattle.base.proofs.Search.{First, first_of}
use Rattle.base.proofs.Search as Search
use Rattle.job.specs.Job.{Job}
use Rattle.job.specs.Format.{workers, job_of}
use Rattle.job.specs.Checks.{check_job}
use Rattle.job.specs.Check.{Check, Accepted, Refused}
use Rattle.std.specs.Prelude.{Err}
use Rattle.job.proofs.Rows.{pass, stop, go, halt, scan_none, scan_at}
use Rattle.table.specs.Layout.{used}
use Rattle.turn.specs.Turn.{kind_number, turn, run_table}
use Rattle.calls.specs.Calls.{start_check, check_schedule}
use Rattle.calls.specs.Promise.{Fresh}
use Rattle.calls.proofs.Taken as Calls
use Rattle.records.specs.Record.{record_of, pairs, workers_in, held}
use Rattle.records.specs.Answers.{check_buffer, record_check, check_odd, check_pairs, replay_rows, replay_check}
use Rattle.records.specs.Laws.{started, Given, FalseAt, RunAnswered, ReplayAnswered}
use Rattle.records.specs.Laws as Laws
use Rattle.records.proofs.Recorded.{record-length, record-workers}
use Rattle.records.proofs.Pairs.{workers-length, gives-yes, gives-past, gives_other}
use Rattle.records.proofs.Held.{gives_at, held-front, held-false, held_at, record-held}

past : (x y : ℕ) → not_below x y ≡ true → y ≤ x
unfolding not_below
past x y e = leb-true y x e

-- a check c answers exactly what P says, if P says nothing else, and something
exactly-by : (P : Check → Type 0) (c : Check) → ((x : Check) → P x → x ≡ c) → (x : Check) × P x → (y : Check) → (c ≡ y) ↔ P y
exactly-by P c of g y = (λ e. subst P (of g.0 g.1 ∙ e) g.1, λ p. sym (of y p))

-- rows 1 to 9
module _ (s t : List ℕ) where
  first_stops : {n p : ℕ} → check_job s ≡ Refused n p → Refused n p ≡ start_check s t
  unfolding start_check
  first_stops e = halt _ _ refl (sym e)

  short-stops : check_job s ≡ Accepted → length t < used (job_of s) → Refused 9 (used (job_of s)) ≡ start_check s t
  short-stops e l = sym ((Calls.starts s t (sym e)).short l).0

  pub starts : check_job s ≡ Accepted → Fresh s t → Accepted ≡ start_check s t
  starts e l = sym ((Calls.starts s t (sym e)).long l).0

-- a recorded run
module _ (s t ws buf : List ℕ) where
  run_of : {x : Check} → RunAnswered s t ws buf x → x ≡ record_check s t ws buf
  unfolding record_check check_schedule check_buffer
  run_of (Laws.first n p e) = halt _ _ refl (first_stops s t e)
  run_of (Laws.short e l) = halt _ _ refl (short-stops s t e l)
  run_of (Laws.no_worker e f i l b g) =
      go _ _ refl (starts s t e f) (halt _ _ refl (scan_at _ _ i _ _ l (λ k q. not_below-no _ _ (g k q)) (not_below-yes _ _ b)))
  run_of (Laws.no_room e f g l) =
      go _ _ refl (starts s t e f) (go _ _ refl (scan_none _ _ _ _ (λ i h. not_below-no _ _ (g i h))) (stop _ _ _ _ (under-yes _ _ l)))
  run_of (Laws.taken e f g l) =
      go _ _ refl (starts s t e f) (go _ _ refl (scan_none _ _ _ _ (λ i h. not_below-no _ _ (g i h))) (pass _ _ _ _ (under-no _ _ l) refl))

  by-schedule : check_job s ≡ Accepted → Fresh s t → First (λ i. not_below (get_or ws i 0) (workers s)) (length ws) → (x : Check) × RunAnswered s t ws buf x
  by-schedule e f (Search.first i l before bad) = (Refused 11 i, Laws.no_worker e f i l (past _ _ bad) (λ k h. not_below_lt _ _ (before k h)))
  by-schedule e f (Search.none g) =
      by_cases (dec_lt (length buf) (2 * length ws)) (λ l. (Refused 25 (2 * length ws), Laws.no_room e f (λ i h. not_below_lt _ _ (g i h)) l))
      (λ l. (Accepted, Laws.taken e f (λ i h. not_below_lt _ _ (g i h)) (omega arith)))

  run-given : (c : Check) → check_job s ≡ c → (x : Check) × RunAnswered s t ws buf x
  run-given (Err refusal) e = (Err refusal, Laws.first refusal.number refusal.place e)
  run-given Accepted e =
      by_cases (dec_lt (length t) (used (job_of s))) (λ l. (Refused 9 (used (job_of s)), Laws.short e l)) (λ l. by-schedule e (omega arith) (first_of _ (length ws)))

  pub run-exactly : (x : Check) → (record_check s t ws buf ≡ x) ↔ RunAnswered s t ws buf x
  run-exactly = exactly-by (RunAnswered s t ws buf) (record_check s t ws buf) (λ x. run_of) (run-given (check_job s) refl)

-- a replay, past rows 1 to 9
module _ (s t : List ℕ) (e : check_job s ≡ Accepted) (room : Fresh s t) where
  abbrev j : Job
  j = job_of s

  -- how many pairs hold
  abbrev pub h : List ℕ → ℕ
  h r = held (job_of s) (started s t) r

  pub even_rows : (r : List ℕ) → length r % 2 ≡ 0 → Accepted ≡ replay_rows s t r
  unfolding replay_rows check_odd
  even_rows r n = go _ _ refl (starts s t e room) (pass _ _ _ _ (differs-no _ _ n) refl)

  pub odd_rows : (r : List ℕ) → (length r % 2 ≡ 0 → ⊥) → Refused 23 (length r) ≡ replay_rows s t r
  unfolding replay_rows check_odd
  odd_rows r n = go _ _ refl (starts s t e room) (stop _ _ _ _ (differs-yes _ _ n))

  pub by-pairs : (r : List ℕ) → length r % 2 ≡ 0 → replay_check s t r ≡ check_pairs j (started s t) r
  unfolding replay_check
  by-pairs r n = sym (go _ _ refl (even_rows r n) refl)

  -- a record that turns give
  module _ (r : List ℕ) (g : Given s t r) where
    pub given_even : length r % 2 ≡ 0
    given_even = omega (arith, ap length g.is, record-length j g.schedule (started s t))

    given-held : h r ≡ length g.schedule
    unfolding job_of
    given-held = ap (λ (x : List ℕ). held j (started s t) x) g.is ∙ record-held j g.schedule (started s t) g.named

    pub given-workers : take (h r) (workers_in r) ≡ g.schedule
    given-workers =
        let w : workers_in r ≡ g.schedule = ap workers_in g.is ∙ record-workers j g.schedule (started s t) in
        take_all (h r) (workers_in r) (omega (arith, given-held, ap length w)) ∙ w

    given-accepted : Accepted ≡ replay_check s t r
    unfolding check_pairs
    given-accepted =
        pass _ _ _ _ (under-no (h r) (pairs r) (omega (arith, given-held, ap length g.is, record-length j g.schedule (started s t)))) refl
        ∙ sym (by-pairs r given_even)

  all-given : (r : List ℕ) → length r % 2 ≡ 0 → pairs r ≤ h r → Given s t r
  unfolding job_of
  all-given r n all =
      let f = held-front j r (started s t) (pairs r) all in
      let w : take (pairs r) (workers_in r) ≡ workers_in r = take_all (pairs r) (workers_in r) (omega (arith, workers-length r)) in
      record {
        schedule = workers_in r;
        named = λ i l. f.low i (omega (arith, workers-length r));
        is = sym (take_all (2 * pairs r) r (omega arith)) ∙ (f.is ∙ ap (record_of j (started s t)) w);
      }

  -- pair k
  module _ (r : List ℕ) (k : ℕ) (here : k < pairs r) where
    low-front : length (take k (workers_in r)) ≡ k
    low-front = length-take-le k (workers_in r) (omega (arith, workers-length r))

    abbrev w : ℕ
    w = get_or r (2 * k) 0

    abbrev v : ℕ
    v = get_or r (2 * k + 1) 0

    abbrev u : List ℕ
    u = run_table (job_of s) (started s t) (take k (workers_in r))

    is_false : gives_at j (started s t) r k ≡ false → (workers s ≤ w) ⊎ (v ≡ kind_number (turn j u w).kind → ⊥)
    unfolding job_of
    is_false g =
        by_cases (dec_lt w (workers s)) (λ l. inr (λ q. let y : true ≡ false = sym (gives-yes j u w v l q) ∙ g in let z : ◌≡◌ {A = ℕ} 0 1 = cc in absurd (omega arith))) (λ l. inl (omega arith))

    of-false : (workers s ≤ w) ⊎ (v ≡ kind_number (turn j u w).kind → ⊥) → gives_at j (started s t) r k ≡ false
    unfolding job_of
    of-false f = by_cases (dec_lt w (workers s)) (λ l. ⊎_elim (λ p. gives-past j u w v p) (λ p. gives_other j u w v l p) f) (λ l. gives-past j u w v (omega arith))

    pub false_at : k ≡ h r → FalseAt s t r k
    unfolding job_of
    false_at q =
        let f = held-front j r (started s t) k (omega arith) in
        record {
          there = omega arith;
          named = λ i l. subst (λ (x : ℕ). x < workers s) (sym (get_or-take k (workers_in r) i 0 (omega (arith, low-front)))) (f.low i (omega (arith, low-front)));
          before = f.is;
          false = is_false (held-false j r (started s t) k q here);
        }

    held-from : FalseAt s t r k → h r ≡ k
    unfolding job_of
    held-from f =
        held_at j r (started s t) k here
        (record { low = λ i l. subst (λ (x : ℕ). x < workers s) (get_or-take k (workers_in r) i 0 l) (f.named i (omega (arith, low-front))); is = f.before })
        (of-false f.false)

  false_refused : (r : List ℕ) (n k : ℕ) → length r ≡ 2 * n → FalseAt s t r k → Refused 24 k ≡ replay_check s t r
  unfolding check_pairs
  false_refused r n k m f =
      let p = held-from r k (omega (arith, f.there)) f in
      ap (Refused 24) (sym p) ∙ (stop _ _ _ _ (under-yes _ _ (omega (arith, p, f.there))) ∙ sym (by-pairs r (omega arith)))

module _ (s t r : List ℕ) where
  replay_of : {x : Check} → ReplayAnswered s t r x → x ≡ replay_check s t r
  unfolding replay_check replay_rows
  replay_of (Laws.first n p e) = halt _ _ refl (halt _ _ refl (first_stops s t e))
  replay_of (Laws.short e l) = halt _ _ refl (halt _ _ refl (short-stops s t e l))
  replay_of (Laws.odd e f n m) = halt _ _ refl (odd_rows s t e f r (λ z. omega arith))
  replay_of (Laws.false_pair e f n m k x) = false_refused s t e f r n k m x
  replay_of (Laws.taken e f g) = given-accepted s t e f r g

  by_length : check_job s ≡ Accepted → Fresh s t → (x : Check) × ReplayAnswered s t r x
  by_length e f =
      by_cases (ℕ_discrete (length r % 2) 0)
      (λ n.
      by_cases (dec_lt (held (job_of s) (started s t) r) (pairs r))
      (λ l. (Refused 24 _, Laws.false_pair e f (pairs r) (omega arith) (held (job_of s) (started s t) r) (false_at s t e f r (held (job_of s) (started s t) r) l refl)))
      (λ l. (Accepted, Laws.taken e f (all-given s t e f r n (omega arith)))))
      (λ n. (Refused 23 (length r), Laws.odd e f (length r / 2) (omega arith)))

  replay-given : (c : Check) → check_job s ≡ c → (x : Check) × ReplayAnswered s t r x
  replay-given (Err refusal) e = (Err refusal, Laws.first refusal.number refusal.place e)
  replay-given Accepted e =
      by_cases (dec_lt (length t) (used (job_of s))) (λ l. (Refused 9 (used (job_of s)), Laws.short e l)) (λ l. by_length e (omega arith))

  pub replay-exactly : (x : Check) → (replay_check s t r ≡ x) ↔ ReplayAnswered s t r x
  replay-exactly = exactly-by (ReplayAnswered s t r) (replay_check s t r) (λ x. replay_of) (replay-given (check_job s) refl)
