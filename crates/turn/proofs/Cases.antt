-- A turn by cases, in the order of 01's text: what each finds in the words, and the kind and table it gives. Of any job and table. Assumes nothing.
--   AtQuestion j t w     w awaits and owns nothing, and has a question left
--   AtNewest j t w n     w awaits nothing, and n is its newest claim
--   AtLeft j t w n c     c is w's newest claim reached from n with a literal left
--   Others t w b         b is open and another's
--   literal j t c        the claim of c's next literal;    moved t c   the table in which c has passed it
--   skipped j t c        the table in which c has skipped the rest of its rule;    Clear j t c   no earlier literal of that rule is complete and false
--   taken j t w c        the claims that w takes over
--   Case j t w r         the turn r of w, its third words not yet sought
--   turn-case            the turn of w, as 01 has it, is by one of the cases
use mathlib.Core.Path.{◌≡◌, sym, subst}
use mathlib.Core.Logic.{◌⊎◌, inl, inr}
use mathlib.Core.Bool.{not, ◌&&◌}
use mathlib.Core.List.{List}
use Prim.Native.Nat.{ℕ, ◌+◌, ◌-◌, ◌≤◌, ◌<◌}
use native.Mathlib.Omega.{arith}
use lib.ListN.{length, get_or, set}
use lib.Dec.{T, leb, eqb, T_not, leb→le, nleb→lt, eqb→eq}
use Rattle.base.specs.Choose.{pick}
use Rattle.base.specs.Lists.{upto, keep, every}
use Rattle.base.proofs.Bools.{and_in, and_left, and_right}
use Rattle.base.proofs.Choose.{pick_elim}
use Rattle.base.proofs.Lists.{In, in-upto, upto_in, in-keep, keep_in, every_in, in-every}
use Rattle.job.specs.Job.{Job}
use Rattle.table.specs.Questions.{asked_by, question_claim}
use Rattle.table.specs.Layout as W
use Rattle.table.specs.Newest.{newest, NewestOf, none, some}
use Rattle.table.proofs.NewestOf.{newest_of}
use Rattle.turn.specs.Turn.{Turned, lits, reached, all_passed, completed_mark, open_claim, mark_all, meets, ask_turn, pass_turn, work_turn, base_turn, clear, skip_end}
use Rattle.turn.specs.declared.Kind.TheVariants.{Idle, Woke, Opened, Waits, Took, Passed, Completed, Answered}
use Rattle.turn.proofs.Behind.{Behind, clear-not, behind_of}
use Rattle.turn.proofs.Tests.{is_eq, not_eq, eq-not}

pub record AtQuestion (j : Job) (t : List ℕ) (w : ℕ) : Type 0 where
  pub free : W.awaited j t w ≡ 0
  pub nothing : (x : ℕ) → x < j.claims → W.mark t x ≡ w + 1 → ⊥
  pub more : W.answered j t w < length (asked_by j w)

pub record AtNewest (j : Job) (t : List ℕ) (w n : ℕ) : Type 0 where
  pub free : W.awaited j t w ≡ 0
  pub low : n < j.claims
  pub its : W.mark t n ≡ w + 1
  pub last : (x : ℕ) → x < j.claims → W.mark t x ≡ w + 1 → W.number t x ≤ W.number t n

abbrev pub Full : Job → List ℕ → ℕ → Type 0
Full j t c = W.cursor t c ≡ length (lits j c)

pub record AtLeft (j : Job) (t : List ℕ) (w n c : ℕ) : Type 0 where
  pub at : AtNewest j t w n
  pub inside : In c (reached j t n)
  pub its : W.mark t c ≡ w + 1
  pub left : Full j t c → ⊥
  pub last : (x : ℕ) → In x (reached j t n) → W.mark t x ≡ w + 1 → (Full j t x → ⊥) → W.number t x ≤ W.number t c

pub record Others (t : List ℕ) (w b : ℕ) : Type 0 where
  pub opened : W.mark t b ≡ 0 → ⊥
  pub still : W.mark t b < W.true_mark
  pub other : W.mark t b ≡ w + 1 → ⊥

abbrev pub literal : Job → List ℕ → ℕ → ℕ
literal j t c = get_or (lits j c) (W.cursor t c) 0

abbrev pub moved : List ℕ → ℕ → List ℕ
moved t c = set t (W.cursor_word c) (W.cursor t c + 1)

-- c's cursor at the end of the rule of its next literal
abbrev pub skipped : Job → List ℕ → ℕ → List ℕ
skipped j t c = set t (W.cursor_word c) (skip_end j t c)

-- no earlier literal of that rule is complete and false
abbrev pub Clear : Job → List ℕ → ℕ → Type 0
Clear j t c = Behind j t c (W.cursor t c) → ⊥

abbrev pub taken : Job → List ℕ → ℕ → List ℕ
taken j t c = keep (λ d. not (W.fresh t d)) (reached j (moved t c) c)

-- w's next question: its claim, and its answer stored and counted
abbrev pub asked : Job → List ℕ → ℕ → ℕ
asked j t w = question_claim j w (W.answered j t w)

abbrev pub stored : Job → List ℕ → ℕ → List ℕ
stored j t w =
    set (set t (W.answer_word j (get_or (asked_by j w) (W.answered j t w) 0)) (W.value_of (W.mark t (asked j t w)))) (W.answered_word j w) (W.answered j t w + 1)

pub data Case (j : Job) (t : List ℕ) (w : ℕ) : Turned → Type 0 where
  -- w awaits a claim
  wakes : (W.awaited j t w ≡ 0 → ⊥) → W.true_mark ≤ W.mark t (W.awaited j t w - 1) → Case j t w (record { kind = Woke; table = set t (W.awaited_word j w) 0 })
  sleeps : (W.awaited j t w ≡ 0 → ⊥) → W.mark t (W.awaited j t w - 1) < W.true_mark → Case j t w (record { kind = Idle; table = t })
  -- w owns nothing open
  rests : W.awaited j t w ≡ 0 → ((x : ℕ) → x < j.claims → W.mark t x ≡ w + 1 → ⊥) → length (asked_by j w) ≤ W.answered j t w → Case j t w (record { kind = Idle; table = t })
  answers : AtQuestion j t w → W.true_mark ≤ W.mark t (asked j t w) → Case j t w (record { kind = Answered; table = stored j t w })
  opens-asked : AtQuestion j t w → W.mark t (asked j t w) ≡ 0 → Case j t w (record { kind = Opened; table = open_claim t w (asked j t w) })
  waits_asked : AtQuestion j t w → (W.mark t (asked j t w) ≡ 0 → ⊥) → W.mark t (asked j t w) < W.true_mark → Case j t w (record { kind = Waits; table = set t (W.awaited_word j w) (asked j t w + 1) })
  -- N is w's newest open claim
  completes : {n : ℕ} → AtNewest j t w n → ((x : ℕ) → In x (reached j t n) → (W.mark t x ≡ w + 1) × Full j t x) → Case j t w (record { kind = Completed; table = mark_all (completed_mark j t) (reached j t n) t })
  sticks : {n : ℕ} → AtNewest j t w n → (((x : ℕ) → In x (reached j t n) → (W.mark t x ≡ w + 1) × Full j t x) → ⊥) → ((x : ℕ) → In x (reached j t n) → W.mark t x ≡ w + 1 → (Full j t x → ⊥) → ⊥) → Case j t w (record { kind = Idle; table = t })
  -- C passes a literal, or skips the rest of its rule
  passes : {n c : ℕ} → AtLeft j t w n c → (W.true_mark ≤ W.mark t (literal j t c)) ⊎ (W.mark t (literal j t c) ≡ w + 1) → Clear j t c → Case j t w (record { kind = Passed; table = moved t c })
  skips : {n c : ℕ} → AtLeft j t w n c → Behind j t c (W.cursor t c) → Case j t w (record { kind = Passed; table = skipped j t c })
  opens : {n c : ℕ} → AtLeft j t w n c → W.mark t (literal j t c) ≡ 0 → Clear j t c → Case j t w (record { kind = Opened; table = open_claim (moved t c) w (literal j t c) })
  takes : {n c : ℕ} → AtLeft j t w n c → Others t w (literal j t c) → T (meets j.workers j t w (W.mark t (literal j t c) - 1)) → Clear j t c → Case j t w (record { kind = Took; table = mark_all (λ d. w + 1) (taken j t c) (moved t c) })
  waits : {n c : ℕ} → AtLeft j t w n c → Others t w (literal j t c) → T (not (meets j.workers j t w (W.mark t (literal j t c) - 1))) → Clear j t c → Case j t w (record { kind = Waits; table = set (moved t c) (W.awaited_word j w) (literal j t c + 1) })

module _ (j : Job) (t : List ℕ) (w : ℕ) where
  ask-case : W.awaited j t w ≡ 0 → ((x : ℕ) → x < j.claims → W.mark t x ≡ w + 1 → ⊥) → Case j t w (ask_turn j t w)
  unfolding ask_turn
  ask-case free nothing =
      pick_elim (Case j t w) (leb (length (asked_by j w)) (W.answered j t w)) (λ l. rests free nothing (leb→le _ _ l))
      (λ l.
      let at : AtQuestion j t w = record { free = free; nothing = nothing; more = nleb→lt _ _ l } in
      pick_elim (Case j t w) (W.complete t (asked j t w)) (λ d. answers at (leb→le W.true_mark (W.mark t (asked j t w)) d))
      (λ d.
      pick_elim (Case j t w) (W.fresh t (asked j t w)) (λ f. opens-asked at (eqb→eq (W.mark t (asked j t w)) 0 f))
      (λ f. waits_asked at (not_eq (W.mark t (asked j t w)) 0 f) (nleb→lt W.true_mark (W.mark t (asked j t w)) d))))

  pass-case : {n c : ℕ} → AtLeft j t w n c → Case j t w (pass_turn j t w c)
  unfolding pass_turn
  pass-case {n} {c} at =
      let b = literal j t c in
      pick_elim (Case j t w) (clear j t c (W.cursor t c))
      (λ h.
      let k : Clear j t c = clear-not j t c (W.cursor t c) h in
      pick_elim (Case j t w) (W.complete t b) (λ d. passes at (inl (leb→le W.true_mark (W.mark t b) d)) k)
      (λ d.
      pick_elim (Case j t w) (W.owned t w b) (λ m. passes at (inr (eqb→eq (W.mark t b) (w + 1) m)) k)
      (λ m.
      pick_elim (Case j t w) (W.fresh t b) (λ f. opens at (eqb→eq (W.mark t b) 0 f) k)
      (λ f.
      let o : Others t w b = record { opened = not_eq (W.mark t b) 0 f; still = nleb→lt W.true_mark (W.mark t b) d; other = not_eq (W.mark t b) (w + 1) m } in
      pick_elim (Case j t w) (meets j.workers j t w (W.mark t b - 1)) (λ g. takes at o g k) (λ g. waits at o g k)))))
      (λ h. skips at (behind_of j t c (W.cursor t c) h))

  module _ {n : ℕ} (at : AtNewest j t w n) where
    -- the tests of the text, as facts
    all_in : T (every (λ d. W.owned t w d && all_passed j t d) (reached j t n)) → (x : ℕ) → In x (reached j t n) → (W.mark t x ≡ w + 1) × Full j t x
    unfolding all_passed
    all_in e x i =
        let k = every_in (λ d. W.owned t w d && all_passed j t d) (reached j t n) e x i in
        (eqb→eq (W.mark t x) (w + 1) (and_left (W.owned t w x) (all_passed j t x) k), eqb→eq (W.cursor t x) (length (lits j x)) (and_right (W.owned t w x) (all_passed j t x) k))

    in_all : ((x : ℕ) → In x (reached j t n) → (W.mark t x ≡ w + 1) × Full j t x) → T (every (λ d. W.owned t w d && all_passed j t d) (reached j t n))
    unfolding all_passed
    in_all f =
        in-every (λ d. W.owned t w d && all_passed j t d) (reached j t n)
        (λ x i. and_in (W.owned t w x) (all_passed j t x) (is_eq (W.mark t x) (w + 1) (f x i).0) (is_eq (W.cursor t x) (length (lits j x)) (f x i).1))

    abbrev lefts : List ℕ
    lefts = keep (λ d. W.owned t w d && not (all_passed j t d)) (reached j t n)

    in-lefts : (x : ℕ) → In x (reached j t n) → W.mark t x ≡ w + 1 → (Full j t x → ⊥) → In x lefts
    unfolding all_passed
    in-lefts x i m l =
        in-keep (λ d. W.owned t w d && not (all_passed j t d)) x (reached j t n) i
        (and_in (W.owned t w x) (not (all_passed j t x)) (is_eq (W.mark t x) (w + 1) m) (eq-not (W.cursor t x) (length (lits j x)) l))

    lefts_in : (c : ℕ) → In c lefts → ((d : ℕ) → In d lefts → W.number t d ≤ W.number t c) → AtLeft j t w n c
    unfolding all_passed
    lefts_in c i f =
        let k = keep_in (λ d. W.owned t w d && not (all_passed j t d)) c (reached j t n) i in
        record {
          at = at;
          inside = k.0;
          its = eqb→eq (W.mark t c) (w + 1) (and_left (W.owned t w c) (not (all_passed j t c)) k.1);
          left = not_eq (W.cursor t c) (length (lits j c)) (and_right (W.owned t w c) (not (all_passed j t c)) k.1);
          last = λ x a b d. f x (in-lefts x a b d);
        }

    work-case : Case j t w (work_turn j t w n)
    unfolding work_turn
    work-case =
        pick_elim (Case j t w) (every (λ d. W.owned t w d && all_passed j t d) (reached j t n)) (λ e. completes at (all_in e))
        (λ e. go (λ f. T_not (every (λ d. W.owned t w d && all_passed j t d) (reached j t n)) e (in_all f)) (newest t lefts) (newest_of t lefts))
      where
        go : (((x : ℕ) → In x (reached j t n) → (W.mark t x ≡ w + 1) × Full j t x) → ⊥) → (l : ℕ) → NewestOf t (λ d. In d lefts) l → Case j t w (pick (eqb l 0) (record { kind = Idle; table = t }) (pass_turn j t w (l - 1)))
        go e l (none z f) =
            pick_elim (Case j t w) (eqb l 0) (λ y. sticks at e (λ x i m k. f x (in-lefts x i m k))) (λ y. absurd (not_eq l 0 y z))
        go e l (some c z i f) =
            pick_elim (Case j t w) (eqb l 0) (λ y. absurd (omega (arith, eqb→eq l 0 y)))
            (λ y.
            let q : l - 1 ≡ c = omega arith in
            subst (λ m. Case j t w (pass_turn j t w m)) (sym q) (pass-case (lefts_in c i (λ d k. (f d k).most))))

  pub turn-case : Case j t w (base_turn j t w)
  unfolding base_turn
  turn-case =
      pick_elim (Case j t w) (eqb (W.awaited j t w) 0) (λ z. go (eqb→eq (W.awaited j t w) 0 z) (newest t mines) (newest_of t mines))
      (λ z.
      pick_elim (Case j t w) (W.complete t (W.awaited j t w - 1))
      (λ d. wakes (not_eq (W.awaited j t w) 0 z) (leb→le W.true_mark (W.mark t (W.awaited j t w - 1)) d))
      (λ d. sleeps (not_eq (W.awaited j t w) 0 z) (nleb→lt W.true_mark (W.mark t (W.awaited j t w - 1)) d)))
    where
      mines : List ℕ
      mines = keep (W.owned t w) (upto j.claims)

      in-mines : (x : ℕ) → x < j.claims → W.mark t x ≡ w + 1 → In x mines
      in-mines x h m = in-keep (W.owned t w) x (upto j.claims) (in-upto x j.claims h) (is_eq (W.mark t x) (w + 1) m)

      go : W.awaited j t w ≡ 0 → (l : ℕ) → NewestOf t (λ d. In d mines) l → Case j t w (pick (eqb l 0) (ask_turn j t w) (work_turn j t w (l - 1)))
      go free l (none z f) =
          pick_elim (Case j t w) (eqb l 0) (λ y. ask-case free (λ x h m. f x (in-mines x h m))) (λ y. absurd (not_eq l 0 y z))
      go free l (some c z i f) =
          pick_elim (Case j t w) (eqb l 0) (λ y. absurd (omega (arith, eqb→eq l 0 y)))
          (λ y.
          let k = keep_in (W.owned t w) c (upto j.claims) i in
          let q : l - 1 ≡ c = omega arith in
          subst (λ m. Case j t w (work_turn j t w m)) (sym q)
          (work-case (record { free = free; low = upto_in c j.claims k.0; its = eqb→eq (W.mark t c) (w + 1) k.1; last = λ x h m. (f x (in-mines x h m)).most })))
