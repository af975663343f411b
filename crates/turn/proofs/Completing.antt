-- The turn of a worker whose newest claim n has a literal left, and what the turns of any worker with an open claim go by. Assumes nothing.
--   to_pass          the claims among which the definition chooses
--   free_left, left-free, ..   the tests of the code, of the definition and of specs/KeptSet say the same
--   to-pass, of_pass what is chosen among
--   passes           one of them has a literal left: the turn is that of the newest
--   first_passes     where n has a literal left, it is n that passes it: no other of w's claims is newer
use Prim.Native.Nat.{ℕ, ◌+◌, ◌-◌, ◌≤◌, ◌<◌}
use mathlib.Core.Path.{◌≡◌, sym, ◌∙◌, ap, subst, subst⁻¹}
use mathlib.Core.Bool.{false, not, ◌&&◌, false≢true}
use mathlib.Core.List.{List}
use mathlib.Core.Logic.{by_cases}
use native.Mathlib.Omega.{arith}
use native.Mathlib.Decide.{ℕ_discrete}
use borrow.Author.Tests.{eq-eqb, ne_eqb, eqb-true, not-true}
use lib.Dec.{T}
use lib.ListN.{length}
use Rattle.base.specs.Lists.{keep, every}
use Rattle.base.proofs.Bools.{is, is_true, is_false, and_in, and_both, and_right}
use Rattle.base.proofs.Choose.{pick-false}
use Rattle.base.proofs.Lists.{In, in-keep, keep_in, every_in}
use Rattle.job.specs.Job.{Job}
use Rattle.job.specs.Format.{claims, job_of}
use Rattle.table.specs.Layout.{mark, cursor, owned}
use Rattle.table.specs.Newest.{newest, sought, Older, NewestOf, none, some, Owns}
use Rattle.table.proofs.NewestOf.{newest_one, newest_of, sought_of}
use Rattle.table.proofs.Sizes.{sizes}
use Rattle.turn.specs.Turn.{Turned, lits, reached, all_passed, pass_turn, work_turn, keeping}
use Rattle.turn.specs.Ready.{Ready, Made, passed_in}
use Rattle.turn.specs.KeptSet.{Left, free}
use Rattle.turn.specs.declared.Kind.{Kind}
use Rattle.turn.proofs.Cursors.{passed_same}
use Rattle.turn.proofs.Jobs.{JobOk, job_ok, lits-length}
use Rattle.turn.proofs.Leading.{in-low}
use Rattle.turn.proofs.Reached.{reached-start}

-- what the definition looks for
abbrev pub to_pass : Job → List ℕ → ℕ → ℕ → List ℕ
to_pass j t w n = keep (λ d. owned t w d && not (all_passed j t d)) (reached j t n)

module _ (s index t : List ℕ) (r : Ready s index t) (w : ℕ) where
  abbrev j : Job
  j = job_of s

  pub J : JobOk (job_of s)
  J = job_ok s r.job

  pub within : (d : ℕ) → d < claims s → cursor t d ≤ length (lits (job_of s) d)
  within d l = omega (arith, lits-length (job_of s) d, (r.table.claim d (omega (arith, (sizes s).claims_are))).read)

  -- the tests of the code and of the definition
  passed_is : (d : ℕ) → d < claims s → passed_in index t d ≡ all_passed (job_of s) t d
  passed_is d l = passed_same s index r.job r.indexed d l t (within d l)

  left-some : (d : ℕ) → d < claims s → all_passed (job_of s) t d ≡ false → cursor t d < length (lits (job_of s) d)
  unfolding all_passed
  left-some d l e =
      by_cases (ℕ_discrete (cursor t d) (length (lits (job_of s) d))) (λ q. absurd (false≢true (sym e ∙ eq-eqb _ _ q))) (λ n. omega (arith, within d l))

  pub some_left : (d : ℕ) → cursor t d < length (lits (job_of s) d) → all_passed (job_of s) t d ≡ false
  unfolding all_passed
  some_left d h = ne_eqb (cursor t d) (length (lits (job_of s) d)) (λ e. omega arith)

  pub free_left : (d : ℕ) → d < claims s → T (free index t w d) → Left (job_of s) t w d
  free_left d l h =
      let x = and_both (owned t w d) (not (passed_in index t d)) (is_true (free index t w d) h) in
      record { own = eqb-true (mark t d) (w + 1) x.0; some = left-some d l (sym (passed_is d l) ∙ not-true _ x.1) }

  pub left-free : (d : ℕ) → d < claims s → Left (job_of s) t w d → T (free index t w d)
  left-free d l x =
      and_in (owned t w d) (not (passed_in index t d)) (is (owned t w d) (eq-eqb (mark t d) (w + 1) x.own))
      (is (not (passed_in index t d)) (ap not (passed_is d l ∙ some_left d x.some)))

  left_pass : (d : ℕ) → Left (job_of s) t w d → T (owned t w d && not (all_passed (job_of s) t d))
  left_pass d x =
      and_in (owned t w d) (not (all_passed (job_of s) t d)) (is (owned t w d) (eq-eqb (mark t d) (w + 1) x.own))
      (is (not (all_passed (job_of s) t d)) (ap not (some_left d x.some)))

  pass_left : (d : ℕ) → d < claims s → T (owned t w d && not (all_passed (job_of s) t d)) → Left (job_of s) t w d
  pass_left d l h =
      let x = and_both (owned t w d) (not (all_passed (job_of s) t d)) (is_true _ h) in
      record { own = eqb-true (mark t d) (w + 1) x.0; some = left-some d l (not-true _ x.1) }

  module _ (n : ℕ) (l : n < claims s) where
    low_n : n < (job_of s).claims
    low_n = omega (arith, (sizes s).claims_are)

    reached-low : (d : ℕ) → In d (reached (job_of s) t n) → d < claims s
    reached-low d i = omega (arith, in-low (job_of s) J t d low_n i, (sizes s).claims_are)

    -- the claims among which the definition chooses
    pub to-pass : (d : ℕ) → In d (to_pass (job_of s) t w n) → In d (reached (job_of s) t n) × Left (job_of s) t w d
    to-pass d i =
        let x = keep_in (λ d. owned t w d && not (all_passed (job_of s) t d)) d (reached (job_of s) t n) i in
        (x.0, pass_left d (reached-low d x.0) x.1)

    pub of_pass : (d : ℕ) → In d (reached (job_of s) t n) → Left (job_of s) t w d → In d (to_pass (job_of s) t w n)
    of_pass d i x = in-keep (λ d. owned t w d && not (all_passed (job_of s) t d)) d (reached (job_of s) t n) i (left_pass d x)

    -- one that has a literal left: not all are done
    not_done : (d : ℕ) → In d (reached (job_of s) t n) → Left (job_of s) t w d → every (λ d. owned t w d && all_passed (job_of s) t d) (reached (job_of s) t n) ≡ false
    not_done d i x =
        is_false (every (λ d. owned t w d && all_passed (job_of s) t d) (reached (job_of s) t n))
        (λ h. false≢true (sym (some_left d x.some) ∙ is_true (all_passed (job_of s) t d) (and_right (owned t w d) (all_passed (job_of s) t d) (every_in _ (reached (job_of s) t n) h d i))))

    pub passes : {k : ℕ} → k ≡ newest t (to_pass (job_of s) t w n) → (k ≡ 0 → ⊥) → (d : ℕ) → In d (reached (job_of s) t n) → Left (job_of s) t w d → work_turn (job_of s) t w n ≡ pass_turn (job_of s) t w (k - 1)
    unfolding work_turn
    passes {k} e h d i x =
        pick-false _ _ _ (not_done d i x)
        ∙ (pick-false _ _ _ (ne_eqb (newest t (to_pass (job_of s) t w n)) 0 (λ z. h (e ∙ z))) ∙ ap (λ (m : ℕ). pass_turn (job_of s) t w (m - 1)) (sym e))

    -- N has a literal left: C is N
    module _ (is-newest : n + 1 ≡ sought (claims s) t w) where
      owner : (mark t n ≡ w + 1) × ((d : ℕ) → d < claims s → mark t d ≡ w + 1 → Older t d n)
      owner = go (sought_of (claims s) t w)
        where
          go : NewestOf t (Owns (claims s) t w) (sought (claims s) t w) → (mark t n ≡ w + 1) × ((d : ℕ) → d < claims s → mark t d ≡ w + 1 → Older t d n)
          go (none z f) = absurd (omega arith)
          go (some c z o f) =
              let e : c ≡ n = omega arith in
              (subst (λ (x : ℕ). mark t x ≡ w + 1) e o.1, λ d h q. subst (Older t d) e (f d (h, q)))

      module _ (left : passed_in index t n ≡ false) where
        pub first_left : Left (job_of s) t w n
        first_left = record { own = owner.0; some = left-some n l (sym (passed_is n l) ∙ left) }

        first_in : In n (reached (job_of s) t n)
        first_in = reached-start (job_of s) t n low_n

        first-newest : n + 1 ≡ newest t (to_pass (job_of s) t w n)
        first-newest =
            newest_one
            (some n (omega arith) (of_pass n first_in first_left) (λ d i. let x = to-pass d i in owner.1 d (reached-low d x.0) x.1.own))
            (newest_of t (to_pass (job_of s) t w n))

        pub first_passes : {y : Kind} {u : List ℕ} → Made (keeping (job_of s) (pass_turn (job_of s) t w n)) y u → Made (keeping (job_of s) (work_turn (job_of s) t w n)) y u
        first_passes {y} {u} m =
            let e : work_turn (job_of s) t w n ≡ pass_turn (job_of s) t w (n + 1 - 1) = passes first-newest (λ z. omega arith) n first_in first_left in
            let z : n + 1 - 1 ≡ n = omega arith in
            subst⁻¹ (λ (v : Turned). Made (keeping (job_of s) v) y u) (e ∙ ap (pass_turn (job_of s) t w) z) m
