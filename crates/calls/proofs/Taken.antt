-- What each call gives on a table that rows 9 and 10 accept. Assumes nothing.
--   tallied       the tally of some turns counts their kinds
--   starts        starting, by the table's length
--   taken         the calls on a table of an accepted job
use Prim.Native.Nat.{ℕ, ◌+◌, ◌<◌}
use mathlib.Core.Path.{◌≡◌, refl, sym, ◌∙◌, ap}
use mathlib.Core.List.{List, [], ◌∷◌}
use mathlib.Core.Logic.{by_cases}
use native.Mathlib.Omega.{arith}
use native.Mathlib.Decide.{ℕ_discrete}
use borrow.Author.Tests.{eq-eqb, ne_eqb}
use lib.Dec.{eqb}
use lib.ListN.{length, get_or, set, replicate, length-set}
use lib.Seq.{get_or-set_same, get_or-set_other}
use Rattle.base.specs.Choose.{pick}
use Rattle.base.proofs.Choose.{pick_true, pick-false}
use Rattle.base.proofs.Compare.{under-yes, under-no, not_below-yes, not_below-no}
use Rattle.job.specs.Format.{job_of}
use Rattle.job.specs.Rows.{◌⨾◌}
use Rattle.job.specs.Checks.{check_job}
use Rattle.job.specs.Check.{Check}
use Rattle.job.specs.Check.{Accepted, Refused}
use Rattle.job.proofs.Rows.{pass, stop, go, scan_none, scan_at}
use Rattle.table.specs.Layout.{used}
use Rattle.table.specs.Ranges.{check_room, check_table}
use Rattle.table.proofs.Sizes.{zeros_at}
use Rattle.turn.specs.Turn.{kind_number, run_kinds}
use Rattle.turn.specs.declared.Kind.{Kind}
use Rattle.turn.specs.declared.Kind.TheVariants.{Idle, Woke, Opened, Waits, Took, Passed, Completed, Answered}
use Rattle.calls.specs.Calls.{answered, check_turn_worker, check_schedule, check_claim_read, start_check, start_table, turn_check, turn_answer, turn_table, counted, tally, run_tally, run_check, run_left, read_check, read_answer}
use Rattle.calls.specs.Taken.{how_many, Tallied, Started, Taken}

number-low : (k : Kind) → kind_number k < 8
number-low Idle = omega arith
number-low Woke = omega arith
number-low Opened = omega arith
number-low Waits = omega arith
number-low Took = omega arith
number-low Passed = omega arith
number-low Completed = omega arith
number-low Answered = omega arith

counted-length : (ns : List ℕ) (ks : List Kind) → length (counted ns ks) ≡ length ns
unfolding counted
counted-length ns [] = refl
counted-length ns (k ∷ ks) = counted-length (set ns (kind_number k) (get_or ns (kind_number k) 0 + 1)) ks ∙ length-set ns (kind_number k) (get_or ns (kind_number k) 0 + 1)

counted-each : (ns : List ℕ) (ks : List Kind) (n : ℕ) → length ns ≡ 8 → n < 8 → get_or (counted ns ks) n 0 ≡ get_or ns n 0 + how_many n ks
unfolding counted how_many
counted-each ns [] n e l = omega arith
counted-each ns (k ∷ ks) n e l =
    let a = kind_number k in
    let ns' = set ns a (get_or ns a 0 + 1) in
    let r = counted-each ns' ks n (length-set ns a (get_or ns a 0 + 1) ∙ e) l in
    by_cases (ℕ_discrete a n)
    (λ q.
    let one : ◌≡◌ {A = ℕ} (pick (eqb a n) 1 0) 1 = pick_true (eqb a n) 1 0 (eq-eqb a n q) in
    let here : get_or ns' n 0 ≡ get_or ns n 0 + 1 = rw q (get_or-set_same ns n (get_or ns n 0 + 1) 0 (omega arith)) in
    omega (arith, r, one, here))
    (λ q.
    let none : ◌≡◌ {A = ℕ} (pick (eqb a n) 1 0) 0 = pick-false (eqb a n) 1 0 (ne_eqb a n q) in
    let here : get_or ns' n 0 ≡ get_or ns n 0 = get_or-set_other ns a n (get_or ns a 0 + 1) 0 (λ p. q (sym p)) in
    omega (arith, r, none, here))

pub tallied : (ks : List Kind) → Tallied ks
unfolding tally
tallied ks =
    record {
      eight = counted-length (replicate 8 0) ks;
      counts = λ n l. omega (arith, counted-each (replicate 8 0) ks n refl l, zeros_at 8 n);
    }

-- once the job and the table are accepted, the last check answers
module _ (s t : List ℕ) (e : Accepted ≡ check_job s) where
  pub starts : Started s t
  unfolding start_check start_table check_room
  starts =
      record {
        long = λ l. let q : start_check s t ≡ Accepted = sym (go _ _ refl e (pass _ _ _ _ (under-no _ _ l) refl)) in (q, ap (λ (x : Check). start_table x s t) q);
        short = λ l. let q : start_check s t ≡ Refused 9 (used (job_of s)) = sym (go _ _ refl e (stop _ _ _ _ (under-yes _ _ l))) in (q, ap (λ (x : Check). start_table x s t) q);
      }

  module _ (f : Accepted ≡ check_table (job_of s) t) where
    last : (x : Check) {r : Check} → r ≡ x → check_job s ⨾ check_table (job_of s) t ⨾ x ≡ r
    last x q = sym (go _ _ refl e (go _ _ refl f q))

    pub taken : Taken s t
    unfolding answered turn_check turn_table check_turn_worker run_check run_tally run_left check_schedule read_check check_claim_read job_of
    taken =
        record {
          turns = λ w l. let q = last (check_turn_worker s w) (pass _ _ _ _ (not_below-no _ _ l) refl) in (ap (λ (x : Check). turn_answer x s t w) q, ap (λ (x : Check). turn_table x s t w) q);
          no_turn = λ w l. let q = last (check_turn_worker s w) (stop _ _ _ _ (not_below-yes _ _ l)) in (ap (λ (x : Check). turn_answer x s t w) q, ap (λ (x : Check). turn_table x s t w) q);
          runs = λ ws l. let q = last (check_schedule s ws) (scan_none _ _ _ _ (λ i h. not_below-no _ _ (l i h))) in (ap (λ (x : Check). answered x (tally (run_kinds (job_of s) t ws))) q, ap (λ (x : Check). run_left x s t ws) q, tallied _, ap (λ (x : Check). run_tally x s t ws) q);
          no_run = λ ws i h b l. let q = last (check_schedule s ws) (scan_at _ _ i _ _ h (λ k m. not_below-no _ _ (l k m)) (not_below-yes _ _ b)) in (ap (λ (x : Check). answered x (tally (run_kinds (job_of s) t ws))) q, ap (λ (x : Check). run_left x s t ws) q, ap (λ (x : Check). run_tally x s t ws) q);
          reads = λ c l. ap (λ (x : Check). read_answer x t c) (last (check_claim_read s c) (pass _ _ _ _ (not_below-no _ _ l) refl));
          no_read = λ c l. ap (λ (x : Check). read_answer x t c) (last (check_claim_read s c) (stop _ _ _ _ (not_below-yes _ _ l)));
        }
