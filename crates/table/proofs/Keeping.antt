-- The third words of workers: what `with_newest` stores and leaves, and tables that have them right. Assumes nothing.
--   sought_same           a search reads the marks and numbers of claims, and nothing else
--   with-length, with-other   `with_newest` keeps the length, and every word but the third ones
--   with-mark, ..         so each word of claims, and each other one of workers
--   with-newest, with-kept    the third words are what a search finds
--   with_same             nothing is stored where they were so
--   with-set              whatever a third word was
--   kept_store            a store elsewhere than at marks, numbers and third words keeps them right
--   renewed               a table with right third words is what `with_newest` makes of the table that differs from it in one of them at most
use Prim.Native.Nat.{ℕ, zero, suc, ◌≤◌, ◌<◌}
use mathlib.Core.Path.{◌≡◌, refl, sym, ◌∙◌, ap, ap₂}
use mathlib.Core.List.{List}
use mathlib.Core.Logic.{by_cases}
use native.Mathlib.Omega.{arith}
use native.Mathlib.Decide.{ℕ_discrete}
use lib.ListN.{length, get_or, set, length-set}
use lib.Seq.{get_or-set_same, get_or-set_other, set-get_or, set-set, set_comm}
use Rattle.job.specs.Job.{Job}
use Rattle.table.specs.Layout.{mark_word, cursor_word, number_word, mark, cursor, number, workers_from, awaited_at, answered_at, newest_at, answers_from}
use Rattle.table.specs.Newest.{sought, with_newest, NewestKept}
use Rattle.table.proofs.NewestOf.{newest_like, sought_of, sought_is}

pub sought_same : (a : ℕ) (t u : List ℕ) → ((c : ℕ) → c < a → mark u c ≡ mark t c) → ((c : ℕ) → c < a → number u c ≡ number t c) → (w : ℕ) → sought a u w ≡ sought a t w
sought_same a t u marks numbers w =
    sym
    (sought_is a u w
    (newest_like (λ d o. (o.0, marks d o.0 ∙ o.1)) (λ d o. (o.0, sym (marks d o.0) ∙ o.1)) (λ d o. numbers d o.0) (sought_of a t w)))

module _ (a : ℕ) (t : List ℕ) where
  pub with-length : (n : ℕ) → length (with_newest a n t) ≡ length t
  unfolding with_newest
  with-length zero = refl
  with-length (suc w) = length-set (with_newest a w t) (newest_at a w) (sought a t w) ∙ with-length w

  pub with-other : (n i : ℕ) → ((w : ℕ) → w < n → i ≡ newest_at a w → ⊥) → get_or (with_newest a n t) i 0 ≡ get_or t i 0
  unfolding with_newest
  with-other zero i f = refl
  with-other (suc w) i f =
      get_or-set_other (with_newest a w t) (newest_at a w) i (sought a t w) 0 (f w (omega arith)) ∙ with-other w i (λ v l. f v (omega arith))

  pub with-newest : (n w : ℕ) → w < n → newest_at a w < length t → get_or (with_newest a n t) (newest_at a w) 0 ≡ sought a t w
  unfolding with_newest
  with-newest zero w l h = absurd (omega arith)
  with-newest (suc m) w l h =
      by_cases (ℕ_discrete w m)
      (λ e.
      rw e
      (get_or-set_same (with_newest a m t) (newest_at a m) (sought a t m) 0 (omega (arith, with-length m))))
      (λ d.
      get_or-set_other (with_newest a m t) (newest_at a m) (newest_at a w) (sought a t m) 0 (λ e. d (omega arith))
      ∙ with-newest m w (omega arith) h)

  module _ (n : ℕ) where
    -- a word before those of workers
    pub with-low : (i : ℕ) → i < workers_from a → get_or (with_newest a n t) i 0 ≡ get_or t i 0
    with-low i l = with-other n i (λ w h e. omega arith)

    -- a word of a worker that isn't its third one
    pub with-awaited : (w : ℕ) → get_or (with_newest a n t) (awaited_at a w) 0 ≡ get_or t (awaited_at a w) 0
    with-awaited w = with-other n (awaited_at a w) (λ v h e. omega arith)

    pub with-answered : (w : ℕ) → get_or (with_newest a n t) (answered_at a w) 0 ≡ get_or t (answered_at a w) 0
    with-answered w = with-other n (answered_at a w) (λ v h e. omega arith)

    -- a word past those of workers
    pub with-past : (i : ℕ) → answers_from a n ≤ i → get_or (with_newest a n t) i 0 ≡ get_or t i 0
    with-past i l = with-other n i (λ w h e. omega arith)

    module _ (c : ℕ) (h : c < a) where
      pub with-mark : mark (with_newest a n t) c ≡ mark t c
      with-mark = with-low (mark_word c) (omega arith)

      pub with-cursor : cursor (with_newest a n t) c ≡ cursor t c
      with-cursor = with-low (cursor_word c) (omega arith)

      pub with_number : number (with_newest a n t) c ≡ number t c
      with_number = with-low (number_word c) (omega arith)

-- a store at a third word first makes no difference
module _ (a : ℕ) (t : List ℕ) (w v : ℕ) where
  set-sought : (u : ℕ) → sought a (set t (newest_at a w) v) u ≡ sought a t u
  set-sought =
      sought_same a t (set t (newest_at a w) v)
      (λ c l. get_or-set_other t (newest_at a w) (mark_word c) v 0 (λ e. omega arith))
      (λ c l. get_or-set_other t (newest_at a w) (number_word c) v 0 (λ e. omega arith))

  after : (n : ℕ) → n ≤ w → with_newest a n (set t (newest_at a w) v) ≡ set (with_newest a n t) (newest_at a w) v
  unfolding with_newest
  after zero l = refl
  after (suc m) l =
      ap₂ (λ (x : List ℕ) (s : ℕ). set x (newest_at a m) s) (after m (omega arith)) (set-sought m)
      ∙ set_comm (with_newest a m t) (newest_at a w) (newest_at a m) v (sought a t m) (λ e. omega arith)

  pub with-set : (n : ℕ) → w < n → with_newest a n (set t (newest_at a w) v) ≡ with_newest a n t
  unfolding with_newest
  with-set zero l = absurd (omega arith)
  with-set (suc m) l =
      by_cases (ℕ_discrete w m)
      (λ e.
      ap₂ (λ (x : List ℕ) (s : ℕ). set x (newest_at a m) s) (after m (omega arith)) (set-sought m)
      ∙ (ap (λ (k : ℕ). set (set (with_newest a m t) (newest_at a k) v) (newest_at a m) (sought a t m)) e
      ∙ set-set (with_newest a m t) (newest_at a m) v (sought a t m)))
      (λ d. ap₂ (λ (x : List ℕ) (s : ℕ). set x (newest_at a m) s) (with-set m (omega arith)) (set-sought m))

module _ (j : Job) where
  abbrev a : ℕ
  a = j.claims

  abbrev n : ℕ
  n = j.workers

  pub with-kept : (t : List ℕ) → answers_from a n ≤ length t → NewestKept j (with_newest a n t)
  with-kept t h =
      record {
        is = λ w l.
            with-newest a t n w l (omega arith) ∙ sym (sought_same a t (with_newest a n t) (with-mark a t n) (with_number a t n) w);
      }

  same-below : {t : List ℕ} → NewestKept j t → (m : ℕ) → m ≤ n → with_newest a m t ≡ t
  unfolding with_newest
  same-below k zero l = refl
  same-below {t} k (suc w) l =
      ap₂ (λ (x : List ℕ) (s : ℕ). set x (newest_at a w) s) (same-below k w (omega arith)) (sym (k.is w (omega arith))) ∙ set-get_or t (newest_at a w) 0

  pub with_same : {t : List ℕ} → NewestKept j t → with_newest a n t ≡ t
  with_same k = same-below k n (omega arith)

  pub kept_store : {t : List ℕ} → NewestKept j t → (k v : ℕ) → ((c : ℕ) → c < a → mark_word c ≡ k → ⊥) → ((c : ℕ) → c < a → number_word c ≡ k → ⊥) → ((w : ℕ) → w < n → newest_at a w ≡ k → ⊥) → NewestKept j (set t k v)
  kept_store {t} r k v f g h =
      record {
        is = λ w l.
            get_or-set_other t k (newest_at a w) v 0 (h w l) ∙ r.is w l
            ∙ sym (sought_same a t (set t k v) (λ c m. get_or-set_other t k (mark_word c) v 0 (f c m)) (λ c m. get_or-set_other t k (number_word c) v 0 (g c m)) w);
      }

  pub renewed : (t : List ℕ) (w v : ℕ) {u : List ℕ} → w < n → NewestKept j u → u ≡ set t (newest_at a w) v → u ≡ with_newest a n t
  renewed t w v l k e = sym (with_same k) ∙ ap (with_newest a n) e ∙ with-set a t w v n l
