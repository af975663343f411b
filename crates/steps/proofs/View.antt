-- A table of words as the state that the abstract theory speaks of, and what stores do to it. Assumes nothing.
--   low n i v     v where i is below n, else 0
--   next_at, ask_at the claim of c's literal k, and of w's question n, + 1; 0 where there is none
--   PassedAt      y is the claim of a literal that x has passed, behind no complete false one; EarlierAt   and x has moved on since
--   Alikes        marks before and after a turn that completes nothing
--   view j t      the state
use mathlib.Core.Path.{◌≡◌, refl, sym, ◌∙◌, ap, subst}
use mathlib.Core.Logic.{by_cases}
use mathlib.Core.List.{List}
use Prim.Native.Nat.{ℕ, suc, ◌+◌, ◌≤◌, ◌<◌}
use native.Mathlib.Omega.{arith}
use native.Mathlib.Decide.{ℕ_discrete, dec_lt}
use lib.ListN.{length, get_or}
use lib.Dec.{ltb, ltb→lt, lt→ltb}
use Rattle.base.specs.Choose.{pick}
use Rattle.base.specs.Graph.{Plus, old, new}
use Rattle.base.proofs.Choose.{pick_yes, pick_no}
use Rattle.job.specs.Job.{Job}
use Rattle.table.specs.Questions.{asked_by, question_claim}
use Rattle.table.specs.Layout as W
use Rattle.waiting.specs.State.{State}
use Rattle.waiting.specs.Steps.{Stays, Left, ago, now, Passes, Skips, Faded, leads, behind, Fades, Claims, Opens, Awaits, Workers}
use Rattle.turn.specs.Turn.{lits, lit_at}
use Rattle.turn.proofs.Jobs.{JobOk}
use Rattle.table.proofs.Failing.{failed_done}
use Rattle.turn.proofs.Behind.{Alike, alike-back, failed_same, claim_lit, Behind, behind?, behind_rest, behind-kept, behind-alike}

pub low : ℕ → ℕ → ℕ → ℕ
low n i v = pick (ltb i n) v 0

pub low_in : {n i : ℕ} (v : ℕ) → i < n → low n i v ≡ v
unfolding low
low_in {n} {i} v h = pick_yes (ltb i n) v 0 (lt→ltb i n h)

pub low_out : {n i : ℕ} (v : ℕ) → (i < n → ⊥) → low n i v ≡ 0
unfolding low
low_out {n} {i} v h = pick_no (ltb i n) v 0 (λ t. h (ltb→lt i n t))

pub low_cong : {n i : ℕ} (v v' : ℕ) → (i < n → v' ≡ v) → low n i v' ≡ low n i v
low_cong {n} {i} v v' f =
    by_cases (dec_lt i n) (λ h. low_in v' h ∙ f h ∙ sym (low_in v h)) (λ h. low_out v' h ∙ sym (low_out v h))

-- what is above 0 stands below n
pub low_pos : {n i v : ℕ} → 0 < low n i v → (i < n) × (low n i v ≡ v)
low_pos {n} {i} {v} l = by_cases (dec_lt i n) (λ h. (h, low_in v h)) (λ h. absurd (omega (arith, low_out {i = i} v h)))

pub next_at : Job → ℕ → ℕ → ℕ
next_at j c k = pick (ltb k (length (lits j c))) (suc (get_or (lits j c) k 0)) 0

pub next_at_in : (j : Job) (c k : ℕ) → k < length (lits j c) → next_at j c k ≡ suc (get_or (lits j c) k 0)
unfolding next_at
next_at_in j c k h = pick_yes (ltb k (length (lits j c))) (suc (get_or (lits j c) k 0)) 0 (lt→ltb k (length (lits j c)) h)

pub next_at_out : (j : Job) (c k : ℕ) → (k < length (lits j c) → ⊥) → next_at j c k ≡ 0
unfolding next_at
next_at_out j c k h = pick_no (ltb k (length (lits j c))) (suc (get_or (lits j c) k 0)) 0 (λ t. h (ltb→lt k (length (lits j c)) t))

pub ask_at : Job → ℕ → ℕ → ℕ
ask_at j w n = pick (ltb n (length (asked_by j w))) (suc (question_claim j w n)) 0

pub ask_at_in : (j : Job) (w n : ℕ) → n < length (asked_by j w) → ask_at j w n ≡ suc (question_claim j w n)
unfolding ask_at
ask_at_in j w n h = pick_yes (ltb n (length (asked_by j w))) (suc (question_claim j w n)) 0 (lt→ltb n (length (asked_by j w)) h)

pub ask_at_out : (j : Job) (w n : ℕ) → (n < length (asked_by j w) → ⊥) → ask_at j w n ≡ 0
unfolding ask_at
ask_at_out j w n h = pick_no (ltb n (length (asked_by j w))) (suc (question_claim j w n)) 0 (λ t. h (ltb→lt n (length (asked_by j w)) t))

pub record PassedAt (j : Job) (t : List ℕ) (x y : ℕ) : Type 0 where
  pub at : ℕ
  pub before : at < W.cursor t x
  pub real : at < length (lits j x)
  pub is : get_or (lits j x) at 0 ≡ y
  pub claim : x < j.claims
  pub clear : Behind j t x at → ⊥

pub record EarlierAt (j : Job) (t : List ℕ) (x y : ℕ) : Type 0 where
  pub literal : PassedAt j t x y
  pub since : suc literal.at < W.cursor t x

abbrev pub Alikes : Job → List ℕ → List ℕ → Type 0
Alikes j t t' = (x : ℕ) → x < j.claims → Alike (W.mark t x) (W.mark t' x)

abbrev pub view : Job → List ℕ → State
view j t =
    record {
      mark = λ c. low j.claims c (W.mark t c);
      number = λ c. low j.claims c (W.number t c);
      opened = W.opened t;
      awaited = λ w. low j.workers w (W.awaited j t w);
      asks = λ w. low j.workers w (ask_at j w (W.answered j t w));
      answered = λ w. low j.workers w (W.answered j t w);
      cursor = λ c. low j.claims c (W.cursor t c);
      next = λ c. low j.claims c (next_at j c (W.cursor t c));
      Passed = PassedAt j t;
      Earlier = EarlierAt j t;
      sooner = λ e. e.literal;
    }

module _ {j : Job} {t t' : List ℕ} where
  -- the cursor of t' is past it
  abbrev longer : {x y : ℕ} (p : PassedAt j t x y) → p.at < W.cursor t' x → (Behind j t' x p.at → ⊥) → PassedAt j t' x y
  longer p l f = record { at = p.at; before = l; real = p.real; is = p.is; claim = p.claim; clear = f }

module _ {j : Job} (J : JobOk j) {t t' : List ℕ} (marks : Alikes j t t') where
  still-clear : {x y : ℕ} (p : PassedAt j t x y) → Behind j t' x p.at → ⊥
  still-clear p b = p.clear (behind-alike J (λ x h. alike-back (marks x h)) (omega (arith, p.real)) b)

  abbrev over : {x y : ℕ} (p : PassedAt j t x y) → p.at < W.cursor t' x → PassedAt j t' x y
  over p l = longer p l (still-clear p)

module _ {j : Job} (J : JobOk j) {t t' : List ℕ} where
  -- no cursor moves
  pub stays : Alikes j t t' → ((c : ℕ) → c < j.claims → W.cursor t' c ≡ W.cursor t c) → Stays (view j t) (view j t')
  stays m f =
      record {
        more = λ {x = x} p. over J (λ x h. alike-back (m x h)) p (omega (arith, p.before, f x p.claim));
        less = λ {x = x} p. over J m p (omega (arith, p.before, f x p.claim));
        earlier = λ {x = x} p.
            let q = p.literal in
            record { literal = over J (λ x h. alike-back (m x h)) q (omega (arith, q.before, f x q.claim)); since = omega (arith, p.since, f x q.claim) };
        nexts = λ c. low_cong _ _ (λ h. ap (next_at j c) (f c h));
        cursors = λ c. low_cong _ _ (f c);
      }

  -- no cursor moves, and complete marks stay
  module _ (kept : (x : ℕ) → x < j.claims → W.true_mark ≤ W.mark t x → W.mark t' x ≡ W.mark t x) (f : (c : ℕ) → c < j.claims → W.cursor t' c ≡ W.cursor t c) where
    abbrev fade_more : {x y : ℕ} → PassedAt j t' x y → PassedAt j t x y
    fade_more {x} p =
        longer p (omega (arith, p.before, f x p.claim)) (λ b. p.clear (behind-kept J kept (omega (arith, p.real)) b))

    -- the literal that it stands behind now is one that was clear, and its claim was not complete
    fade-behind : {x y : ℕ} (p : PassedAt j t x y) → Behind j t' x p.at → Faded (view j t) (view j t') x y
    fade-behind {x} p b =
        let z = get_or (lits j x) b.at 0 in
        let h : get_or (lits j x) b.at 0 < j.claims = J.literal x b.at (omega (arith, b.before, p.real)) in
        let e = claim_lit j x b.at in
        let d : W.true_mark ≤ W.mark t' z = subst (λ (v : ℕ). W.true_mark ≤ W.mark t' v) (sym e) (failed_done t' (lit_at j x b.at) b.fails) in
        let q : PassedAt j t x z =
        record {
          at = b.at;
          before = omega (arith, b.before, p.before);
          real = omega (arith, b.before, p.real);
          is = refl;
          claim = p.claim;
          clear = λ a. p.clear (behind_rest (omega (arith, b.before)) b.within a);
        } in
        behind {z = z} (record { literal = q; since = omega (arith, b.before, p.before) })
        (by_cases (dec_lt (W.mark t z) W.true_mark) (λ l. omega (arith, low_in (W.mark t z) h, l))
        (λ l.
        absurd
        (p.clear
        (record {
          at = b.at;
          before = b.before;
          fails = failed_same t' t (lit_at j x b.at) (sym (subst (λ (v : ℕ). W.mark t' v ≡ W.mark t v) e (kept z h (omega arith)))) b.fails;
          within = b.within;
        }))))
        (record { over = omega (arith, low_in (W.mark t' z) h, d) })

    fade_less : {x y : ℕ} → PassedAt j t x y → Faded (view j t) (view j t') x y
    fade_less {x} {y} p = go (behind? j t' x p.at)
      where
        go : Dec (Behind j t' x p.at) → Faded (view j t) (view j t') x y
        go (yes b) = fade-behind p b
        go (no n) = leads (longer p (omega (arith, p.before, f x p.claim)) n)

    pub fades : Fades (view j t) (view j t')
    fades =
        record {
          more = λ p. fade_more p;
          less = λ p. fade_less p;
          earlier = λ {x = x} p. record { literal = fade_more p.literal; since = omega (arith, p.since, f x p.literal.claim) };
          nexts = λ c. low_cong _ _ (λ h. ap (next_at j c) (f c h));
          cursors = λ c. low_cong _ _ (f c);
        }

module _ {j : Job} {t t' : List ℕ} where
  -- no word of a claim but its cursor changes
  pub claims : ((c : ℕ) → c < j.claims → W.mark t' c ≡ W.mark t c) → ((c : ℕ) → c < j.claims → W.number t' c ≡ W.number t c) → W.opened t' ≡ W.opened t → Claims (view j t) (view j t')
  claims f g e = record { marks = λ c. low_cong _ _ (f c); opened = e; numbers = λ c. low_cong _ _ (g c) }

  pub workers : ((w : ℕ) → w < j.workers → W.awaited j t' w ≡ W.awaited j t w) → ((w : ℕ) → w < j.workers → W.answered j t' w ≡ W.answered j t w) → Workers (view j t) (view j t')
  workers f g =
      record {
        awaits = λ w. low_cong _ _ (f w);
        asks = λ w. low_cong _ _ (λ h. ap (ask_at j w) (g w h));
        answers = λ w. low_cong _ _ (g w);
      }

  pub opens : {w b : ℕ} → b < j.claims → W.mark t b ≡ 0 → W.mark t' b ≡ w + 1 → ((c : ℕ) → (c ≡ b → ⊥) → W.mark t' c ≡ W.mark t c) → W.opened t' ≡ W.opened t + 1 → W.number t' b ≡ W.opened t + 1 → ((c : ℕ) → (c ≡ b → ⊥) → W.number t' c ≡ W.number t c) → Opens (view j t) (view j t') w b
  opens {w} {b} h z m f o n g =
      record {
        fresh = low_in _ h ∙ z;
        mark = low_in _ h ∙ m ∙ omega arith;
        marks = λ c d. low_cong _ _ (λ l. f c d);
        opened = o ∙ omega arith;
        number = low_in _ h ∙ n ∙ omega arith;
        numbers = λ c d. low_cong _ _ (λ l. g c d);
      }

  pub awaits : {w b : ℕ} → w < j.workers → W.awaited j t' w ≡ b + 1 → ((u : ℕ) → (u ≡ w → ⊥) → W.awaited j t' u ≡ W.awaited j t u) → ((u : ℕ) → W.answered j t' u ≡ W.answered j t u) → Awaits (view j t) (view j t') w b
  awaits {w} {b} h e f g =
      record {
        await = low_in _ h ∙ e ∙ omega arith;
        awaits = λ u n. low_cong _ _ (λ l. f u n);
        asks = λ u. low_cong _ _ (λ l. ap (ask_at j u) (g u));
        answers = λ u. low_cong _ _ (λ l. g u);
      }

-- c's cursor moves on
module _ {j : Job} (J : JobOk j) {t t' : List ℕ} (marks : Alikes j t t') {c : ℕ} (h : c < j.claims)
    (f : (x : ℕ) → (x ≡ c → ⊥) → x < j.claims → W.cursor t' x ≡ W.cursor t x) where
  -- what was passed then, seen from the table after, and c has moved on since
  module _ (m : (y : ℕ) (p : PassedAt j t' c y) → suc p.at < W.cursor t' c → PassedAt j t c y) where
    left_at : {x y : ℕ} → EarlierAt j t' x y → Left (view j t) c x y
    left_at {x} {y} p = go (ℕ_discrete x c)
      where
        go : Dec (x ≡ c) → Left (view j t) c x y
        go (yes e) = let q = subst (λ x. EarlierAt j t' x y) e p in now e (m y q.literal q.since)
        go (no n) =
            let q = p.literal in
            ago (record { literal = over J (λ x h. alike-back (marks x h)) q (omega (arith, q.before, f x n q.claim)); since = omega (arith, p.since, f x n q.claim) })

  -- over a literal of b, which leads
  module _ {b : ℕ} (here : W.cursor t c < length (lits j c)) (b-is : get_or (lits j c) (W.cursor t c) 0 ≡ b) (clear : Behind j t c (W.cursor t c) → ⊥) (up : W.cursor t' c ≡ suc (W.cursor t c)) where
    pass_more : {x y : ℕ} → PassedAt j t' x y → Plus (PassedAt j t) c b x y
    pass_more {x} {y} p = go (ℕ_discrete x c)
      where
        last : x ≡ c → Dec (p.at ≡ W.cursor t c) → Plus (PassedAt j t) c b x y
        last e (yes a) =
            let z : get_or (lits j c) (W.cursor t c) 0 ≡ y = subst (λ k. get_or (lits j c) k 0 ≡ y) a (subst (λ x. get_or (lits j x) p.at 0 ≡ y) e p.is) in
            let q : b ≡ y = sym b-is ∙ z in
            subst (λ y. Plus (PassedAt j t) c b x y) q (subst (λ x. Plus (PassedAt j t) c b x b) (sym e) new)
        last e (no n) =
            let z : W.cursor t' x ≡ suc (W.cursor t c) = rw e up in
            let u : W.cursor t x ≡ W.cursor t c = rw e refl in
            old {x = x} {y = y} (over J (λ x h. alike-back (marks x h)) p (omega (arith, p.before)))

        go : Dec (x ≡ c) → Plus (PassedAt j t) c b x y
        go (yes e) = last e (ℕ_discrete p.at (W.cursor t c))
        go (no n) = old {x = x} {y = y} (over J (λ x h. alike-back (marks x h)) p (omega (arith, p.before, f x n p.claim)))

    pass_less : {x y : ℕ} → Plus (PassedAt j t) c b x y → PassedAt j t' x y
    pass_less new =
        record {
          at = W.cursor t c;
          before = omega (arith, up);
          real = here;
          is = b-is;
          claim = h;
          clear = λ a. clear (behind-alike J (λ x h. alike-back (marks x h)) (omega arith) a);
        }
    pass_less {x} {y} (old p) = go (ℕ_discrete x c)
      where
        go : Dec (x ≡ c) → PassedAt j t' x y
        go (yes e) =
            let z : W.cursor t' x ≡ suc (W.cursor t c) = rw e up in
            let u : W.cursor t x ≡ W.cursor t c = rw e refl in
            over J marks p (omega (arith, p.before))
        go (no n) = over J marks p (omega (arith, p.before, f x n p.claim))

    pub passes : Passes (view j t) (view j t') c b
    passes =
        record {
          more = λ p. pass_more p;
          less = λ p. pass_less p;
          earlier = λ p. left_at (λ y q l. over J (λ x h. alike-back (marks x h)) q (omega (arith, up, l))) p;
          nexts = λ x n. low_cong _ _ (λ l. ap (next_at j x) (f x n l));
          cursor = omega (arith, low_in (W.cursor t' c) h, low_in (W.cursor t c) h, up);
          cursors = λ x n. low_cong _ _ (f x n);
        }

  -- over literals that stand behind a complete false one
  module _ (up : W.cursor t c < W.cursor t' c) (rest : (k : ℕ) → W.cursor t c ≤ k → k < W.cursor t' c → Behind j t c k) where
    skip_at : {y : ℕ} → PassedAt j t' c y → PassedAt j t c y
    skip_at p =
        let q : Behind j t c p.at → ⊥ = still-clear J (λ x h. alike-back (marks x h)) p in
        longer p
        (by_cases (dec_lt p.at (W.cursor t c)) (λ l. l) (λ l. absurd (q (rest p.at (omega arith) p.before)))) q

    skip_more : {x y : ℕ} → PassedAt j t' x y → PassedAt j t x y
    skip_more {x} {y} p = go (ℕ_discrete x c)
      where
        go : Dec (x ≡ c) → PassedAt j t x y
        go (yes e) = subst (λ x. PassedAt j t x y) (sym e) (skip_at (subst (λ x. PassedAt j t' x y) e p))
        go (no n) = over J (λ x h. alike-back (marks x h)) p (omega (arith, p.before, f x n p.claim))

    skip_less : {x y : ℕ} → PassedAt j t x y → PassedAt j t' x y
    skip_less {x} {y} p = go (ℕ_discrete x c)
      where
        go : Dec (x ≡ c) → PassedAt j t' x y
        go (yes e) =
            let z : W.cursor t x < W.cursor t' x = rw e up in
            over J marks p (omega (arith, p.before))
        go (no n) = over J marks p (omega (arith, p.before, f x n p.claim))

    pub skips : Skips (view j t) (view j t') c
    skips =
        record {
          more = λ p. skip_more p;
          less = λ p. skip_less p;
          earlier = λ p. left_at (λ y q l. skip_at q) p;
          nexts = λ x n. low_cong _ _ (λ l. ap (next_at j x) (f x n l));
          cursor = omega (arith, low_in (W.cursor t' c) h, low_in (W.cursor t c) h, up);
          cursors = λ x n. low_cong _ _ (f x n);
        }
