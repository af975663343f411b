-- Which words a store changes. Assumes nothing.
--   same, other      the word stored, and any other
--   open-..          a claim is opened
--   marks-..         marks are stored at the claims of a list
--   await-..         a worker's awaited word is stored;    cursor-..   a claim's cursor
--   stored-..        a question's answer is stored and counted
use mathlib.Core.Path.{◌≡◌, refl, ◌∙◌}
use mathlib.Core.List.{List, [], ◌∷◌}
use Prim.Native.Nat.{ℕ, ◌+◌, ◌<◌}
use native.Mathlib.Omega.{arith}
use lib.ListN.{length, get_or, set, length-set}
use lib.Seq.{get_or-set_same, get_or-set_other}
use Rattle.base.specs.Lists.{is_in}
use Rattle.base.proofs.Choose.{t?}
use Rattle.base.proofs.Lists.{In, in_head, in_tail, InCons, first, later, in-cases, in-nil}
use Rattle.job.specs.Job.{Job}
use Rattle.table.specs.Questions.{asked_by}
use Rattle.table.specs.Layout as W
use Rattle.turn.specs.Turn.{open_claim, mark_all}
use Rattle.turn.proofs.Cases.{asked, stored}

pub other : (t : List ℕ) (k v i : ℕ) → (i ≡ k → ⊥) → get_or (set t k v) i 0 ≡ get_or t i 0
other t k v i h = get_or-set_other t k i v 0 h

pub same : (t : List ℕ) (k v : ℕ) → k < length t → get_or (set t k v) k 0 ≡ v
same t k v h = get_or-set_same t k v 0 h

module _ (t : List ℕ) (w b : ℕ) where
  abbrev t₁ : List ℕ
  t₁ = set t W.opened_word (W.opened t + 1)

  abbrev t₂ : List ℕ
  t₂ = set t₁ (W.mark_word b) (w + 1)

  abbrev t₃ : List ℕ
  t₃ = set t₂ (W.cursor_word b) 0

  pub open-other : (i : ℕ) → (i ≡ W.opened_word → ⊥) → (i ≡ W.mark_word b → ⊥) → (i ≡ W.cursor_word b → ⊥) → (i ≡ W.number_word b → ⊥) → get_or (open_claim t w b) i 0 ≡ get_or t i 0
  unfolding open_claim
  open-other i p q r s =
      other t₃ (W.number_word b) (W.opened t + 1) i s ∙ other t₂ (W.cursor_word b) 0 i r ∙ other t₁ (W.mark_word b) (w + 1) i q ∙ other t W.opened_word (W.opened t + 1) i p

  module _ (l : W.number_word b < length t) where
    l₁ : length t₁ ≡ length t
    l₁ = length-set t W.opened_word (W.opened t + 1)

    l₂ : length t₂ ≡ length t
    l₂ = length-set t₁ (W.mark_word b) (w + 1) ∙ l₁

    l₃ : length t₃ ≡ length t
    l₃ = length-set t₂ (W.cursor_word b) 0 ∙ l₂

    pub open-mark : W.mark (open_claim t w b) b ≡ w + 1
    unfolding open_claim
    open-mark =
        other t₃ (W.number_word b) (W.opened t + 1) (W.mark_word b) (λ e. omega arith) ∙ other t₂ (W.cursor_word b) 0 (W.mark_word b) (λ e. omega arith)
        ∙ same t₁ (W.mark_word b) (w + 1) (omega (arith, l₁))

    pub open-cursor : W.cursor (open_claim t w b) b ≡ 0
    unfolding open_claim
    open-cursor = other t₃ (W.number_word b) (W.opened t + 1) (W.cursor_word b) (λ e. omega arith) ∙ same t₂ (W.cursor_word b) 0 (omega (arith, l₂))

    pub open-number : W.number (open_claim t w b) b ≡ W.opened t + 1
    unfolding open_claim
    open-number = same t₃ (W.number_word b) (W.opened t + 1) (omega (arith, l₃))

    pub open-opened : W.opened (open_claim t w b) ≡ W.opened t + 1
    unfolding open_claim
    open-opened =
        other t₃ (W.number_word b) (W.opened t + 1) W.opened_word (λ e. omega arith) ∙ other t₂ (W.cursor_word b) 0 W.opened_word (λ e. omega arith)
        ∙ other t₁ (W.mark_word b) (w + 1) W.opened_word (λ e. omega arith) ∙ same t W.opened_word (W.opened t + 1) (omega arith)

  module _ (c : ℕ) (n : c ≡ b → ⊥) where
    pub open-marks : W.mark (open_claim t w b) c ≡ W.mark t c
    open-marks = open-other (W.mark_word c) (λ e. omega arith) (λ e. n (omega arith)) (λ e. omega arith) (λ e. omega arith)

    pub open-cursors : W.cursor (open_claim t w b) c ≡ W.cursor t c
    open-cursors = open-other (W.cursor_word c) (λ e. omega arith) (λ e. omega arith) (λ e. n (omega arith)) (λ e. omega arith)

    pub open-numbers : W.number (open_claim t w b) c ≡ W.number t c
    open-numbers = open-other (W.number_word c) (λ e. omega arith) (λ e. omega arith) (λ e. omega arith) (λ e. n (omega arith))

  module _ (j : Job) (h : b < j.claims) (u : ℕ) where
    pub open-awaited : W.awaited j (open_claim t w b) u ≡ W.awaited j t u
    open-awaited = open-other (W.awaited_word j u) (λ e. omega arith) (λ e. omega arith) (λ e. omega arith) (λ e. omega arith)

    pub open-answered : W.answered j (open_claim t w b) u ≡ W.answered j t u
    open-answered = open-other (W.answered_word j u) (λ e. omega arith) (λ e. omega arith) (λ e. omega arith) (λ e. omega arith)

-- marks stored at the claims of a list
module _ (f : ℕ → ℕ) where
  pub marks-other : (cs t : List ℕ) (i : ℕ) → ((c : ℕ) → In c cs → i ≡ W.mark_word c → ⊥) → get_or (mark_all f cs t) i 0 ≡ get_or t i 0
  unfolding mark_all
  marks-other [] t i h = refl
  marks-other (x ∷ cs) t i h =
      marks-other cs (set t (W.mark_word x) (f x)) i (λ c k. h c (in_tail c x cs k)) ∙ other t (W.mark_word x) (f x) i (h x (in_head x cs))

  pub marks_in : (cs t : List ℕ) (c : ℕ) → W.mark_word c < length t → In c cs → W.mark (mark_all f cs t) c ≡ f c
  unfolding mark_all
  marks_in [] t c l i = absurd (in-nil c i)
  marks_in (x ∷ cs) t c l i = go (marks_in cs t₁ c (omega (arith, length-set t (W.mark_word x) (f x)))) (t? (is_in c cs)) (in-cases c x cs i)
    where
      t₁ : List ℕ
      t₁ = set t (W.mark_word x) (f x)

      go : (In c cs → W.mark (mark_all f cs t₁) c ≡ f c) → Dec (In c cs) → InCons c x cs → W.mark (mark_all f cs t₁) c ≡ f c
      go ih (yes k) d = ih k
      go ih (no n) (later k) = ih k
      go ih (no n) (first e) =
          marks-other cs t₁ (W.mark_word c) (λ d k q. n (rw (← (eq d q)) at k))
          ∙ rw e (same t (W.mark_word x) (f x) (rw e at l))
        where
          eq : (d : ℕ) → W.mark_word c ≡ W.mark_word d → c ≡ d
          eq d q = omega arith

-- a worker's awaited word is stored
module _ (j : Job) (t : List ℕ) (w v : ℕ) where
  module _ (c : ℕ) (h : c < j.claims) where
    pub await-mark : W.mark (set t (W.awaited_word j w) v) c ≡ W.mark t c
    await-mark = other t (W.awaited_word j w) v (W.mark_word c) (λ e. omega arith)

    pub await-cursor : W.cursor (set t (W.awaited_word j w) v) c ≡ W.cursor t c
    await-cursor = other t (W.awaited_word j w) v (W.cursor_word c) (λ e. omega arith)

    pub await-number : W.number (set t (W.awaited_word j w) v) c ≡ W.number t c
    await-number = other t (W.awaited_word j w) v (W.number_word c) (λ e. omega arith)

  pub await-opened : W.opened (set t (W.awaited_word j w) v) ≡ W.opened t
  await-opened = other t (W.awaited_word j w) v W.opened_word (λ e. omega arith)

  pub await-others : (u : ℕ) → (u ≡ w → ⊥) → W.awaited j (set t (W.awaited_word j w) v) u ≡ W.awaited j t u
  await-others u n = other t (W.awaited_word j w) v (W.awaited_word j u) (λ e. n (omega arith))

  pub await-answered : (u : ℕ) → W.answered j (set t (W.awaited_word j w) v) u ≡ W.answered j t u
  await-answered u = other t (W.awaited_word j w) v (W.answered_word j u) (λ e. omega arith)

-- a claim's cursor is stored
module _ (j : Job) (t : List ℕ) (c v : ℕ) where
  pub cursor-mark : (x : ℕ) → W.mark (set t (W.cursor_word c) v) x ≡ W.mark t x
  cursor-mark x = other t (W.cursor_word c) v (W.mark_word x) (λ e. omega arith)

  pub cursor-number : (x : ℕ) → W.number (set t (W.cursor_word c) v) x ≡ W.number t x
  cursor-number x = other t (W.cursor_word c) v (W.number_word x) (λ e. omega arith)

  pub cursor-others : (x : ℕ) → (x ≡ c → ⊥) → W.cursor (set t (W.cursor_word c) v) x ≡ W.cursor t x
  cursor-others x n = other t (W.cursor_word c) v (W.cursor_word x) (λ e. n (omega arith))

  pub cursor-opened : W.opened (set t (W.cursor_word c) v) ≡ W.opened t
  cursor-opened = other t (W.cursor_word c) v W.opened_word (λ e. omega arith)

  module _ (h : c < j.claims) (u : ℕ) where
    pub cursor-awaited : W.awaited j (set t (W.cursor_word c) v) u ≡ W.awaited j t u
    cursor-awaited = other t (W.cursor_word c) v (W.awaited_word j u) (λ e. omega arith)

    pub cursor-answered : W.answered j (set t (W.cursor_word c) v) u ≡ W.answered j t u
    cursor-answered = other t (W.cursor_word c) v (W.answered_word j u) (λ e. omega arith)

-- marks are stored at claims below the job's count
module _ (j : Job) (f : ℕ → ℕ) (cs t : List ℕ) (b : (c : ℕ) → In c cs → c < j.claims) where
  pub marks_out : (c : ℕ) → (In c cs → ⊥) → W.mark (mark_all f cs t) c ≡ W.mark t c
  marks_out c n = marks-other f cs t (W.mark_word c) (λ d i e. n (rw (eq d e) i))
    where
      eq : (d : ℕ) → W.mark_word c ≡ W.mark_word d → c ≡ d
      eq d q = omega arith

  pub marks-cursor : (c : ℕ) → W.cursor (mark_all f cs t) c ≡ W.cursor t c
  marks-cursor c = marks-other f cs t (W.cursor_word c) (λ d i e. omega arith)

  pub marks-number : (c : ℕ) → W.number (mark_all f cs t) c ≡ W.number t c
  marks-number c = marks-other f cs t (W.number_word c) (λ d i e. omega arith)

  pub marks-opened : W.opened (mark_all f cs t) ≡ W.opened t
  marks-opened = marks-other f cs t W.opened_word (λ d i e. omega arith)

  pub marks-awaited : (u : ℕ) → W.awaited j (mark_all f cs t) u ≡ W.awaited j t u
  marks-awaited u = marks-other f cs t (W.awaited_word j u) (λ d i e. omega (arith, b d i))

  pub marks-answered : (u : ℕ) → W.answered j (mark_all f cs t) u ≡ W.answered j t u
  marks-answered u = marks-other f cs t (W.answered_word j u) (λ d i e. omega (arith, b d i))

-- the answer of w's next question is stored and counted
module _ (j : Job) (t : List ℕ) (w : ℕ) where
  abbrev place : ℕ
  place = get_or (asked_by j w) (W.answered j t w) 0

  abbrev value : ℕ
  value = W.value_of (W.mark t (asked j t w))

  pub stored_other : (i : ℕ) → (i ≡ W.answer_word j place → ⊥) → (i ≡ W.answered_word j w → ⊥) → get_or (stored j t w) i 0 ≡ get_or t i 0
  stored_other i m n = other (set t (W.answer_word j place) value) (W.answered_word j w) (W.answered j t w + 1) i n ∙ other t (W.answer_word j place) value i m

  module _ (small : w < j.workers) where
    -- any word of claims and workers but the count
    pub stored-word : (i : ℕ) → i < W.answer_word j 0 → (i ≡ W.answered_word j w → ⊥) → get_or (stored j t w) i 0 ≡ get_or t i 0
    stored-word i l n = stored_other i (λ e. omega arith) n

    pub stored-answered : W.answered_word j w < length t → W.answered j (stored j t w) w ≡ W.answered j t w + 1
    stored-answered l =
        same (set t (W.answer_word j place) value) (W.answered_word j w) (W.answered j t w + 1) (omega (arith, length-set t (W.answer_word j place) value))

    pub stored-value : W.answer_word j place < length t → get_or (stored j t w) (W.answer_word j place) 0 ≡ value
    stored-value l =
        other (set t (W.answer_word j place) value) (W.answered_word j w) (W.answered j t w + 1) (W.answer_word j place) (λ e. omega arith)
        ∙ same t (W.answer_word j place) value l
