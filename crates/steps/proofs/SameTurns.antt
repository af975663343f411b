-- A turn goes by the words used alone: on tables that agree on them, one of them in range, it is of the same kind and leaves such tables; so do
-- turns one after the other, and a start. Assumes nothing.
--   SameTurn j r r'   two turns of one kind, which leave tables that agree
--   turn-alike        a turn; along the definition's own cases
--   run-alike         turns one after the other
--   start_agree       starting makes such tables of any two
use Prim.Native.Nat.{ℕ, ◌+◌, ◌-◌, ◌≤◌, ◌<◌}
use mathlib.Core.Path.{◌≡◌, refl, sym, ◌∙◌, ap, ap₂}
use mathlib.Core.Bool.{Bool, false, not, ◌&&◌}
use mathlib.Core.List.Memᴰ
use mathlib.Core.List.{List, [], ◌∷◌}
use mathlib.Core.Logic.{by_cases}
use native.Mathlib.Omega.{arith}
use native.Mathlib.Decide.{dec_lt}
use borrow.Author.Tests.{eqb-false, leb-false}
use lib.Dec.{leb, eqb}
use lib.ListN.{length, get_or, set}
use Rattle.base.specs.Lists.{keep, every}
use Rattle.base.proofs.Bools.{and_right}
use Rattle.base.proofs.Lists.{In, keep_in, keep_same}
use Rattle.job.specs.Job.{Job}
use Rattle.table.specs.Questions.{asked_by, question_claim}
use Rattle.table.specs.Layout.{used, fixed_words, cursor_word, awaited_word, answered_word, answer_word, mark, cursor, awaited, answered, fresh, owned, complete}
use Rattle.table.specs.Newest.{newest, sought, NewestOf, none, some, Owns}
use Rattle.table.specs.Ranges.{InRange}
use Rattle.table.specs.Start.{start_words}
use Rattle.table.proofs.NewestOf.{newest_of, sought_of}
use Rattle.turn.specs.Turn.{Turned, lits, clear, reached, all_passed, completed_mark, meets, ask_turn, pass_turn, work_turn, base_turn, turn, run_table, run_kinds}
use Rattle.turn.specs.declared.Kind.{Kind}
use Rattle.turn.proofs.Completing.{to_pass}
use Rattle.turn.proofs.Jobs.{JobOk, lits-length}
use Rattle.turn.proofs.Leading.{in-low}
use Rattle.turn.proofs.Range.{turn_in_range}
use Rattle.turn.proofs.Tests.{not_eq}
use Rattle.steps.specs.Agreeing.{Agree}
use Rattle.steps.proofs.Starting.{start-started}
use Rattle.steps.proofs.Runs.{Low}
use Rattle.steps.proofs.Agreeing.{pick_two, every_same, agree-set, agree_open, agree-marks, agree_with, mark_same, cursor_same, awaited_same, answered_same, clear_same, reached_same, passed_same, newest_same, sought_same, completed_same, owner-below, meets_same}

pub record SameTurn (j : Job) (r r' : Turned) : Type 0 where
  pub kind : r.kind ≡ r'.kind
  pub table : Agree j r.table r'.table

of-kind : {j : Job} {k : Kind} {t u : List ℕ} → Agree j t u → SameTurn j (record { kind = k; table = t }) (record { kind = k; table = u })
of-kind a = record { kind = refl; table = a }

module _ {j : Job} (J : JobOk j) {t u : List ℕ} (a : Agree j t u) (w : ℕ) (h : w < j.workers) where
  -- the second bullet
  ask-alike : SameTurn j (ask_turn j t w) (ask_turn j u w)
  unfolding ask_turn
  ask-alike =
      rw (← answered_same a w h)
      (pick_two (SameTurn j) (leb (length (asked_by j w)) (answered j t w)) (λ q. of-kind a)
      (λ q.
      let c = question_claim j w (answered j t w) in
      rw (← mark_same a c (J.question w (answered j t w) (leb-false (length (asked_by j w)) (answered j t w) q)))
      (pick_two (SameTurn j) (complete t c)
      (λ z. of-kind (agree-set (answered_word j w) (agree-set (answer_word j (get_or (asked_by j w) (answered j t w) 0)) a refl) refl))
      (λ z.
      pick_two (SameTurn j) (fresh t c) (λ y. of-kind (agree_open a w c))
      (λ y. of-kind (agree-set (awaited_word j w) a refl))))))

  module _ (R : InRange j t) where
    -- the fourth bullet, of a claim c with a literal left
    module _ (c : ℕ) (low : c < j.claims) (left : cursor t c < length (lits j c)) where
      abbrev b : ℕ
      b = get_or (lits j c) (cursor t c) 0

      abbrev on : List ℕ → List ℕ
      on s = set s (cursor_word c) (cursor t c + 1)

      on_agree : Agree j (on t) (on u)
      on_agree = agree-set (cursor_word c) a refl

      b-low : b < j.claims
      b-low = J.literal c (cursor t c) left

      taken_same : keep (λ d. not (fresh t d)) (reached j (on t) c) ≡ keep (λ d. not (fresh u d)) (reached j (on u) c)
      taken_same =
          keep_same (λ d. not (fresh t d)) (λ d. not (fresh u d)) (reached j (on t) c)
          (λ d i. ap (λ (m : ℕ). not (eqb m 0)) (mark_same a d (in-low j J (on t) d low i)))
          ∙ ap (keep (λ d. not (fresh u d))) (reached_same on_agree J c low)

      pass-alike : SameTurn j (pass_turn j t w c) (pass_turn j u w c)
      unfolding pass_turn
      pass-alike =
          rw (← cursor_same a c low, ← clear_same a J c (cursor t c) (omega arith), ← mark_same a b b-low)
          (pick_two (SameTurn j) (clear j t c (cursor t c))
          (λ q.
          pick_two (SameTurn j) (complete t b) (λ z. of-kind on_agree)
          (λ z.
          pick_two (SameTurn j) (owned t w b) (λ y. of-kind on_agree)
          (λ y.
          pick_two (SameTurn j) (fresh t b) (λ p. of-kind (agree_open on_agree w b))
          (λ p.
          rw (← meets_same a R w j.workers (mark t b - 1) (owner-below R b b-low z p), ← taken_same)
          (pick_two (SameTurn j) (meets j.workers j t w (mark t b - 1))
          (λ g. of-kind (agree-marks (λ d. w + 1) (λ d. w + 1) (keep (λ d. not (fresh t d)) (reached j (on t) c)) (λ d i. refl) on_agree))
          (λ g. of-kind (agree-set (awaited_word j w) on_agree refl)))))))
          (λ q. of-kind (agree-set (cursor_word c) a refl)))

    -- the third bullet, of the claim n
    module _ (n : ℕ) (low : n < j.claims) where
      r-low : (d : ℕ) → In d (reached j t n) → d < j.claims
      r-low d i = in-low j J t d low i

      own_same : (d : ℕ) → In d (reached j t n) → owned t w d ≡ owned u w d
      own_same d i = ap (λ (m : ℕ). eqb m (w + 1)) (mark_same a d (r-low d i))

      all_same : (d : ℕ) → In d (reached j t n) → all_passed j t d ≡ all_passed j u d
      all_same d i = passed_same a d (r-low d i)

      done_same : every (λ d. owned t w d && all_passed j t d) (reached j t n) ≡ every (λ d. owned u w d && all_passed j u d) (reached j t n)
      done_same =
          every_same (λ d. owned t w d && all_passed j t d) (λ d. owned u w d && all_passed j u d) (reached j t n)
          (λ d i. ap₂ ◌&&◌ (own_same d i) (all_same d i))

      left_same : newest t (to_pass j t w n) ≡ newest u (keep (λ d. owned u w d && not (all_passed j u d)) (reached j t n))
      left_same =
          newest_same a (to_pass j t w n) (λ c i. r-low c (keep_in (λ d. owned t w d && not (all_passed j t d)) c (reached j t n) i).0)
          ∙ ap (newest u)
          (keep_same (λ d. owned t w d && not (all_passed j t d)) (λ d. owned u w d && not (all_passed j u d)) (reached j t n)
          (λ d i. ap₂ (λ (x y : Bool). x && not y) (own_same d i) (all_same d i)))

      -- C, which has a literal left
      C_left : (x : ℕ) → NewestOf t (λ d. In d (to_pass j t w n)) x → eqb x 0 ≡ false → (x - 1 < j.claims) × (cursor t (x - 1) < length (lits j (x - 1)))
      unfolding all_passed
      C_left x (none e f) q = absurd (eqb-false x 0 q e)
      C_left x (some c e i f) q =
          let k = keep_in (λ d. owned t w d && not (all_passed j t d)) c (reached j t n) i in
          let l = r-low c k.0 in
          let some_left = not_eq (cursor t c) (length (lits j c)) (and_right (owned t w c) (not (all_passed j t c)) k.1) in
          let z : x - 1 ≡ c = omega arith in
          rw z (l, omega (arith, some_left, (R.claim c l).read, lits-length j c))

      work-alike : SameTurn j (work_turn j t w n) (work_turn j u w n)
      unfolding work_turn
      work-alike =
          rw (← reached_same a J n low, ← done_same, ← left_same)
          (pick_two (SameTurn j) (every (λ d. owned t w d && all_passed j t d) (reached j t n))
          (λ q. of-kind (agree-marks (completed_mark j t) (completed_mark j u) (reached j t n) (λ c i. completed_same a c) a))
          (λ q.
          pick_two (SameTurn j) (eqb (newest t (to_pass j t w n)) 0) (λ z. of-kind a)
          (λ z. let p = C_left (newest t (to_pass j t w n)) (newest_of t (to_pass j t w n)) z in pass-alike (newest t (to_pass j t w n) - 1) p.0 p.1)))

    -- N, w's newest open claim
    N-low : (n : ℕ) → NewestOf t (Owns j.claims t w) n → eqb n 0 ≡ false → n - 1 < j.claims
    N-low n (none e f) q = absurd (eqb-false n 0 q e)
    N-low n (some c e o f) q = omega (arith, o.0)

    base-alike : SameTurn j (base_turn j t w) (base_turn j u w)
    unfolding base_turn
    base-alike =
        rw (← awaited_same a w h, ← sought_same a w)
        (pick_two (SameTurn j) (eqb (awaited j t w) 0)
        (λ q.
        pick_two (SameTurn j) (eqb (sought j.claims t w) 0) (λ z. ask-alike)
        (λ z. work-alike (sought j.claims t w - 1) (N-low (sought j.claims t w) (sought_of j.claims t w) z)))
        (λ q.
        let some = eqb-false (awaited j t w) 0 q in
        rw (← mark_same a (awaited j t w - 1) (omega (arith, some, R.awaits w h)))
        (pick_two (SameTurn j) (complete t (awaited j t w - 1))
        (λ z. of-kind (agree-set (awaited_word j w) a refl))
        (λ z. of-kind a))))

    pub turn-alike : SameTurn j (turn j t w) (turn j u w)
    unfolding turn
    turn-alike = record { kind = base-alike.kind; table = agree_with base-alike.table j.workers }

module _ {j : Job} (J : JobOk j) where
  pub run-alike : (ws : List ℕ) {t u : List ℕ} → InRange j t → Agree j t u → Low j ws → (run_kinds j t ws ≡ run_kinds j u ws) × Agree j (run_table j t ws) (run_table j u ws)
  unfolding run_kinds run_table
  run-alike [] R a low = (refl, a)
  run-alike (w ∷ ws) R a low =
      let h = low w (Memᴰ.head refl) in
      let r = turn-alike J a w h R in
      let n = run-alike ws (turn_in_range J R h) r.table (λ v i. low v (Memᴰ.tail i)) in
      (ap₂ ◌∷◌ r.kind n.0, n.1)

pub start_agree : (j : Job) (t u : List ℕ) → used j ≤ length t → used j ≤ length u → Agree j (start_words j t) (start_words j u)
start_agree j t u l m =
    let p = start-started j t l in
    let q = start-started j u m in
    record {
      long = p.room;
      longer = q.room;
      same = λ i h.
          by_cases (dec_lt i fixed_words) (λ z. p.header_is i z ∙ sym (q.header_is i z)) (λ z. p.zeros i (omega arith) h ∙ sym (q.zeros i (omega arith) h));
    }
