-- A store of a value that its word may hold leaves a table in range, and so does opening a fresh claim. Assumes nothing.
use mathlib.Core.Path.{◌≡◌, sym, ◌∙◌, ap}
use mathlib.Core.Logic.{◌⊎◌, inl, inr, ⊎_elim, by_cases}
use mathlib.Core.Bool.{not}
use mathlib.Core.List.{List, [], ◌∷◌}
use Prim.Native.Nat.{ℕ, suc, ◌+◌, ◌≤◌, ◌<◌}
use native.Mathlib.Omega.{arith}
use native.Mathlib.Decide.{ℕ_discrete}
use borrow.Author.Tests.{eq-eqb, ne_eqb}
use lib.ListN.{length, get_or, set, length-set}
use lib.Dec.{eqb}
use Rattle.base.proofs.Sets.{count_le}
use Rattle.base.proofs.Counts.{count_same, count_more}
use Rattle.base.proofs.Lists.{In, in_head, in_tail}
use Rattle.job.specs.Job.{Job, literals_of}
use Rattle.table.specs.Questions.{asked_by}
use Rattle.table.specs.Layout as W
use Rattle.table.specs.Ranges.{marked, ClaimInRange, InRange}
use Rattle.turn.specs.Turn.{open_claim, mark_all}
use Rattle.turn.proofs.Words as X
use Rattle.turn.proofs.Lengths.{open-length}

abbrev pub GoodMark : Job → ℕ → Type 0
GoodMark j m = (m ≤ j.workers) ⊎ ((W.true_mark ≤ m) × (m ≤ W.undefined_mark))

module _ (j : Job) (t t' : List ℕ) where
  marked_same : ((c : ℕ) → c < j.claims → W.fresh t' c ≡ W.fresh t c) → marked j t' ≡ marked j t
  unfolding marked
  marked_same f = count_same (λ c. not (W.fresh t c)) (λ c. not (W.fresh t' c)) j.claims (λ c l. ap not (f c l))

  fresh_same : (c : ℕ) → W.mark t' c ≡ W.mark t c → W.fresh t' c ≡ W.fresh t c
  fresh_same c e = ap (λ (m : ℕ). eqb m 0) e

module _ {j : Job} (t t' : List ℕ) where
  claim_same : (c : ℕ) → W.mark t' c ≡ W.mark t c → W.cursor t' c ≡ W.cursor t c → W.number t' c ≡ W.number t c → ClaimInRange j t c → ClaimInRange j t' c
  claim_same c m r n K =
      record {
        mark_in = ⊎_elim (λ a. inl (omega arith)) (λ a. inr (omega (arith, a.0), omega (arith, a.1))) K.mark_in;
        unread = λ z. r ∙ K.unread (sym m ∙ z);
        read = omega (arith, K.read);
        unnumbered = λ z. n ∙ K.unnumbered (sym m ∙ z);
        numbered = λ z. omega (arith, K.numbered (λ e. z (m ∙ e)));
        number_most = omega (arith, K.number_most);
      }

-- what a store at word k, of v, has to respect
pub record Fits (j : Job) (t : List ℕ) (k v : ℕ) : Type 0 where
  pub from : W.opened_word < k
  pub below : k < W.used j
  pub mark : (c : ℕ) → c < j.claims → k ≡ W.mark_word c → (W.mark t c ≡ 0 → ⊥) × (v ≡ 0 → ⊥) × GoodMark j v
  pub cursor : (c : ℕ) → c < j.claims → k ≡ W.cursor_word c → (W.mark t c ≡ 0 → ⊥) × (v ≤ length (literals_of c j.rules))
  pub number : (c : ℕ) → c < j.claims → k ≡ W.number_word c → ⊥
  pub awaits : (w : ℕ) → w < j.workers → k ≡ W.awaited_word j w → v ≤ j.claims
  pub answers : (w : ℕ) → w < j.workers → k ≡ W.answered_word j w → v ≤ length (asked_by j w)
  pub values : (i : ℕ) → i < length j.questions → k ≡ W.answer_word j i → v ≤ 3

module _ {j : Job} {t : List ℕ} (R : InRange j t) {k v : ℕ} (F : Fits j t k v) where
  abbrev t' : List ℕ
  t' = set t k v

  here : (i : ℕ) → k ≡ i → get_or t' i 0 ≡ v
  here i e = rw (← e) (X.same t k v (omega (arith, F.below, R.room)))

  there : (i : ℕ) → (k ≡ i → ⊥) → get_or t' i 0 ≡ get_or t i 0
  there i n = X.other t k v i (λ e. n (sym e))

  -- a word, the one stored or another
  word : (P : ℕ → Type 0) (i : ℕ) → (k ≡ i → P v) → P (get_or t i 0) → P (get_or t' i 0)
  word P i f p = by_cases (ℕ_discrete k i) (λ e. rw (here i e) (f e)) (λ n. rw (there i n) p)

  kept_fresh : (c : ℕ) → c < j.claims → W.fresh t' c ≡ W.fresh t c
  kept_fresh c h =
      by_cases (ℕ_discrete k (W.mark_word c))
      (λ e.
      let p = F.mark c h e in
      ne_eqb (W.mark t' c) 0 (λ z. p.1 (sym (here (W.mark_word c) e) ∙ z)) ∙ sym (ne_eqb (W.mark t c) 0 p.0))
      (λ n. fresh_same j t t' c (there (W.mark_word c) n))

  claim-kept : (c : ℕ) → c < j.claims → ClaimInRange j t' c
  claim-kept c h =
      by_cases (ℕ_discrete k (W.mark_word c))
      (λ e.
      let K = R.claim c h in
      let p = F.mark c h e in
      let m : W.mark t' c ≡ v = here (W.mark_word c) e in
      let r : W.cursor t' c ≡ W.cursor t c = there (W.cursor_word c) (λ d. omega arith) in
      let n : W.number t' c ≡ W.number t c = there (W.number_word c) (λ d. omega arith) in
      record {
        mark_in = ⊎_elim (λ a. inl (omega arith)) (λ a. inr (omega (arith, a.0), omega (arith, a.1))) p.2;
        unread = λ z. absurd (p.1 (sym m ∙ z));
        read = omega (arith, K.read);
        unnumbered = λ z. absurd (p.1 (sym m ∙ z));
        numbered = λ z. omega (arith, K.numbered p.0);
        number_most = omega (arith, K.number_most);
      })
      (λ a.
      by_cases (ℕ_discrete k (W.cursor_word c))
      (λ e.
      let K = R.claim c h in
      let p = F.cursor c h e in
      let m : W.mark t' c ≡ W.mark t c = there (W.mark_word c) a in
      let r : W.cursor t' c ≡ v = here (W.cursor_word c) e in
      let n : W.number t' c ≡ W.number t c = there (W.number_word c) (λ d. omega arith) in
      record {
        mark_in = ⊎_elim (λ a. inl (omega arith)) (λ a. inr (omega (arith, a.0), omega (arith, a.1))) K.mark_in;
        unread = λ z. absurd (p.0 (sym m ∙ z));
        read = omega (arith, p.1);
        unnumbered = λ z. absurd (p.0 (sym m ∙ z));
        numbered = λ z. omega (arith, K.numbered p.0);
        number_most = omega (arith, K.number_most);
      })
      (λ b. claim_same t t' c (there (W.mark_word c) a) (there (W.cursor_word c) b) (there (W.number_word c) (F.number c h)) (R.claim c h)))

  pub store_range : InRange j (set t k v)
  store_range =
      record {
        room = omega (arith, R.room, length-set t k v);
        header_is = λ i l. there i (λ e. omega (arith, F.from)) ∙ R.header_is i l;
        opened_is = there W.opened_word (λ e. omega (arith, F.from)) ∙ R.opened_is ∙ sym (marked_same j t t' kept_fresh);
        claim = claim-kept;
        awaits = λ w h. word (λ a. a ≤ j.claims) (W.awaited_word j w) (F.awaits w h) (R.awaits w h);
        answers = λ w h. word (λ a. a ≤ length (asked_by j w)) (W.answered_word j w) (F.answers w h) (R.answers w h);
        values = λ i h. word (λ a. a ≤ 3) (W.answer_word j i) (F.values i h) (R.values i h);
      }

-- marks stored at claims that are not fresh
pub marks_range : {j : Job} (f : ℕ → ℕ) (cs t : List ℕ) → InRange j t → ((c : ℕ) → In c cs → (c < j.claims) × (W.mark t c ≡ 0 → ⊥)) → ((c : ℕ) → (f c ≡ 0 → ⊥) × GoodMark j (f c)) → InRange j (mark_all f cs t)
unfolding mark_all
marks_range f [] t R h g = R
marks_range {j} f (x ∷ cs) t R h g =
    marks_range f cs (set t (W.mark_word x) (f x)) (store_range R fits) (λ c i. ((h c (in_tail c x cs i)).0, still c (h c (in_tail c x cs i)).1)) g
  where
    fits : Fits j t (W.mark_word x) (f x)
    fits =
        let low = (h x (in_head x cs)).0 in
        record {
          from = omega arith;
          below = omega arith;
          mark = λ c l e.
              let q : x ≡ c = omega arith in
              (rw (← q) (h x (in_head x cs)).1, (g x).0, (g x).1);
          cursor = λ c l e. absurd (omega arith);
          number = λ c l e. omega arith;
          awaits = λ w l e. absurd (omega arith);
          answers = λ w l e. absurd (omega arith);
          values = λ i l e. absurd (omega arith);
        }

    still : (c : ℕ) → (W.mark t c ≡ 0 → ⊥) → W.mark (set t (W.mark_word x) (f x)) c ≡ 0 → ⊥
    still c n =
        by_cases (ℕ_discrete x c)
        (λ e z. (g x).0 (sym (X.same t (W.mark_word x) (f x) (omega (arith, (h x (in_head x cs)).0, R.room))) ∙ ap (W.mark (set t (W.mark_word x) (f x))) e ∙ z))
        (λ d z. n (sym (X.other t (W.mark_word x) (f x) (W.mark_word c) (λ e. d (omega arith))) ∙ z))

-- a fresh claim is opened
module _ {j : Job} {t : List ℕ} (R : InRange j t) {w b : ℕ} (small : w < j.workers) (h : b < j.claims) (z : W.mark t b ≡ 0) where
  abbrev u : List ℕ
  u = open_claim t w b

  long : W.number_word b < length t
  long = omega (arith, R.room)

  one_more : marked j u ≡ suc (marked j t)
  unfolding marked
  one_more =
      count_more (λ c. not (W.fresh t c)) (λ c. not (W.fresh u c)) b j.claims h
      (λ c l n. ap not (fresh_same j t u c (X.open-marks t w b c n))) (ap not (eq-eqb (W.mark t b) 0 z))
      (ap not (ne_eqb (W.mark u b) 0 (λ e. omega (arith, X.open-mark t w b long))))

  room_left : marked j u ≤ j.claims
  unfolding marked
  room_left = count_le (λ c. not (W.fresh u c)) j.claims

  opened-claim : ClaimInRange j u b
  opened-claim =
      let m : W.mark u b ≡ w + 1 = X.open-mark t w b long in
      let r : W.cursor u b ≡ 0 = X.open-cursor t w b long in
      let n : W.number u b ≡ W.opened t + 1 = X.open-number t w b long in
      record {
        mark_in = inl (omega arith);
        unread = λ e. r;
        read = omega arith;
        unnumbered = λ e. absurd (omega arith);
        numbered = λ e. omega arith;
        number_most = omega (arith, R.opened_is, one_more, room_left);
      }

  pub open_range : InRange j (open_claim t w b)
  open_range =
      record {
        room = omega (arith, R.room, open-length t w b);
        header_is = λ i l. X.open-other t w b i (λ e. omega arith) (λ e. omega arith) (λ e. omega arith) (λ e. omega arith) ∙ R.header_is i l;
        opened_is = omega (arith, X.open-opened t w b long, R.opened_is, one_more);
        claim = λ c l. by_cases (ℕ_discrete c b) (λ e. rw e opened-claim) (λ n. claim_same t u c (X.open-marks t w b c n) (X.open-cursors t w b c n) (X.open-numbers t w b c n) (R.claim c l));
        awaits = λ v l. omega (arith, X.open-awaited t w b j h v, R.awaits v l);
        answers = λ v l. omega (arith, X.open-answered t w b j h v, R.answers v l);
        values = λ i l.
            omega (arith, X.open-other t w b (W.answer_word j i) (λ e. omega arith) (λ e. omega arith) (λ e. omega arith) (λ e. omega arith), R.values i l);
      }
