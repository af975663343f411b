-- Queues of keys, and the positions that are pending (specs/Queues: seen, pending). Assumes nothing.
--   same_room-.. a queue in the array that it was in (SameRoom)
--   seen-..      the keys of a queue; seen-place, seen-not   where one is, and that it is nowhere
--   queue-room   a queue has room for a key that is not on it; queue_less   its first keys
--   pending-..   a key's positions are walked from the last down; a key is pushed
use Prim.Native.Nat.{ℕ, zero, suc, ◌+◌, ◌<◌, ◌≤◌}
use mathlib.Core.Path.{◌≡◌, refl, sym, ◌∙◌, ap, ap₂, subst, subst⁻¹}
use mathlib.Core.Bool.{Bool, true, false, not, ◌&&◌, ◌||◌, and-false, and-true}
use mathlib.Core.List.{List}
use mathlib.Core.Logic.{⊎_elim, by_cases}
use native.Mathlib.Omega.{arith}
use native.Mathlib.Nat.{eq-or-lt_of_le, le_of_suc-le-suc}
use native.Mathlib.Numerals.{add-one}
use native.Mathlib.Decide.{ℕ_discrete, dec_lt}
use borrow.Author.Tests.{le-ltb, lt-ltb, ne_eqb, eq-eqb, eqb-true}
use lib.Dec.{T, ltb, eqb}
use lib.ListN.{length, get_or, set, length-set}
use lib.Seq.{get_or-set_same, get_or-set_other}
use Rattle.base.specs.Sets.{count}
use Rattle.base.proofs.Bools.{is, is-not, is_true, or_left, or_right, or_cases, is_false}
use Rattle.base.proofs.Counts.{count_more}
use Rattle.base.proofs.Sets.{count-empty, count_le, count_less}
use Rattle.counters.specs.Positions.{key_at}
use Rattle.counters.specs.Queues.{seen, Queue, SameRoom, pending}
use Rattle.counters.specs.declared.key_queue.KeyQueue.{KeyQueue}

-- the array that a queue is in
pub same_room-none : (a : KeyQueue) → SameRoom a a
same_room-none a = record { same = refl; long = refl }

pub same_room-by : {a b c : KeyQueue} → SameRoom a b → SameRoom b c → SameRoom a c
same_room-by p q = record { same = q.same ∙ p.same; long = q.long ∙ p.long }

-- the keys of a queue
module _ (q : List ℕ) where
  pub seen_next : (i k : ℕ) → seen q (i + 1) k ≡ (eqb (get_or q i 0) k || seen q i k)
  unfolding seen
  seen_next i k = rw add-one

  pub seen_none : (k : ℕ) → seen q 0 k ≡ false
  unfolding seen
  seen_none k = refl

  pub seen-later : (i j k : ℕ) → i ≤ j → T (seen q i k) → T (seen q j k)
  unfolding seen
  seen-later i zero k l t = let e : i ≡ 0 = omega arith in subst (λ (n : ℕ). T (seen q n k)) e t
  seen-later i (suc j) k l t =
      ⊎_elim (λ e. subst (λ (n : ℕ). T (seen q n k)) e t)
      (λ h. or_right (eqb (get_or q j 0) k) (seen q j k) (seen-later i j k (le_of_suc-le-suc h) t)) (eq-or-lt_of_le l)

  pub seen_at : (i t : ℕ) → i < t → T (seen q t (get_or q i 0))
  seen_at i t l =
      seen-later (i + 1) t (get_or q i 0) (omega arith)
      (subst⁻¹ T (seen_next i (get_or q i 0)) (or_left (eqb (get_or q i 0) (get_or q i 0)) (seen q i (get_or q i 0)) (is (eqb (get_or q i 0) (get_or q i 0)) (eq-eqb (get_or q i 0) (get_or q i 0) refl))))

  pub seen-place : (t k : ℕ) → T (seen q t k) → (j : ℕ) × (j < t) × (get_or q j 0 ≡ k)
  unfolding seen
  seen-place zero k s = absurd s
  seen-place (suc t) k s =
      ⊎_elim (λ e. (t, omega arith, eqb-true (get_or q t 0) k (is_true (eqb (get_or q t 0) k) e)))
      (λ r. let p = seen-place t k r in (p.0, omega arith, p.2)) (or_cases (eqb (get_or q t 0) k) (seen q t k) s)

  pub seen-not : (t k : ℕ) → ((j : ℕ) → j < t → get_or q j 0 ≡ k → ⊥) → seen q t k ≡ false
  seen-not t k f = is_false (seen q t k) (λ u. let p = seen-place t k u in f p.0 p.1 p.2)

  pub seen-small : (t n : ℕ) → ((j : ℕ) → j < t → get_or q j 0 < n) → (k : ℕ) → T (seen q t k) → k < n
  unfolding seen
  seen-small zero n f k s = absurd s
  seen-small (suc t) n f k s =
      ⊎_elim (λ e. subst (λ (x : ℕ). x < n) (eqb-true (get_or q t 0) k (is_true (eqb (get_or q t 0) k) e)) (f t (omega arith)))
      (seen-small t n (λ j l. f j (omega arith)) k) (or_cases (eqb (get_or q t 0) k) (seen q t k) s)

  pub seen-set : (t v i k : ℕ) → i ≤ t → seen (set q t v) i k ≡ seen q i k
  unfolding seen
  seen-set t v zero k l = refl
  seen-set t v (suc i) k l =
      let d : i ≡ t → ⊥ = λ e. omega arith in
      ap₂ (λ (x : ℕ) (y : Bool). eqb x k || y) (get_or-set_other q t i v 0 d) (seen-set t v i k (omega arith))

-- a key is pushed
module _ (q : List ℕ) (t v : ℕ) (room : t < length q) where
  pub seen_more : (k : ℕ) → seen (set q t v) (t + 1) k ≡ (eqb v k || seen q t k)
  seen_more k =
      seen_next (set q t v) t k ∙ ap₂ (λ (x : ℕ) (y : Bool). eqb x k || y) (get_or-set_same q t v 0 room) (seen-set q t v t k (omega arith))

  pub seen_other : (k : ℕ) → (v ≡ k → ⊥) → seen (set q t v) (t + 1) k ≡ seen q t k
  seen_other k d = seen_more k ∙ ap (λ (b : Bool). b || seen q t k) (ne_eqb v k d)

  pub seen-this : T (seen (set q t v) (t + 1) v)
  seen-this = subst⁻¹ T (seen_more v) (or_left (eqb v v) (seen q t v) (is (eqb v v) (eq-eqb v v refl)))

-- as many keys as there are on the queue: each is there once
queue_count : (n : ℕ) (q : List ℕ) (t : ℕ) → ((j : ℕ) → j < t → seen q j (get_or q j 0) ≡ false) → ((j : ℕ) → j < t → get_or q j 0 < n) → count (seen q t) n ≡ t
unfolding seen
queue_count n q zero f l = count-empty (λ k. false) (λ c t. t) n
queue_count n q (suc t) f l =
    let less = queue_count n q t (λ j m. f j (omega arith)) (λ j m. l j (omega arith)) in
    let k = get_or q t 0 in
    omega (
      arith,
      less,
      count_more (seen q t) (λ x. eqb k x || seen q t x) k n (l t (omega arith))
          (λ c m d. ap (λ (b : Bool). b || seen q t c) (ne_eqb k c (λ e. d (sym e)))) (f t (omega arith))
          (ap (λ (b : Bool). b || seen q t k) (eq-eqb k k refl)),
    )

module _ {n : ℕ} {q : List ℕ} {t : ℕ} (now : Queue n q t) where
  pub queue-top : t ≤ n
  queue-top = omega (arith, count_le (seen q t) n, queue_count n q t now.fresh now.small)

  pub queue-room : (k : ℕ) → k < n → seen q t k ≡ false → t < n
  queue-room k l e =
      omega (
        arith,
        queue_count n q t now.fresh now.small,
        count_less (seen q t) (λ c. true) (λ c u. tt) n k l tt (is-not (seen q t k) e),
        count_le (λ c. true) n,
      )

  pub queue_push : (v : ℕ) → v < n → seen q t v ≡ false → Queue n (set q t v) (t + 1)
  queue_push v l e =
      let room : t < length q = omega (arith, queue-room v l e, now.long) in
      record {
        long = simp length-set now.long;
        fresh = λ j m.
            by_cases (ℕ_discrete j t)
            (λ i.
            subst⁻¹ (λ (x : ℕ). seen (set q t v) x (get_or (set q t v) x 0) ≡ false) i
            (seen-set q t v t (get_or (set q t v) t 0) (omega arith) ∙ ap (seen q t) (get_or-set_same q t v 0 room) ∙ e))
            (λ d. seen-set q t v j (get_or (set q t v) j 0) (omega arith) ∙ ap (seen q j) (get_or-set_other q t j v 0 d) ∙ now.fresh j (omega arith));
        small = λ j m.
            by_cases (ℕ_discrete j t)
            (λ i. subst⁻¹ (λ (x : ℕ). get_or (set q t v) x 0 < n) i (subst⁻¹ (λ (x : ℕ). x < n) (get_or-set_same q t v 0 room) l))
            (λ d. subst⁻¹ (λ (x : ℕ). x < n) (get_or-set_other q t j v 0 d) (now.small j (omega arith)));
      }

-- a key's chain, from its last position down
both_ways : (a b : Bool) → (a && (not a && b)) ≡ false
both_ways true b = refl
both_ways false b = refl

module _ (s q : List ℕ) (t : ℕ) where
  -- positions from x to y that don't have the key make no difference
  pub pending-skip :
      (i x y : ℕ) → x ≤ y → (p : ℕ) → (x ≤ p → p < y → key_at s p ≡ get_or q i 0 → ⊥) → pending s q t i y p ≡ pending s q t i x p
  unfolding pending
  pending-skip i x y l p f =
      by_cases (ℕ_discrete (key_at s p) (get_or q i 0))
      (λ e.
      by_cases (dec_lt p x)
      (λ m. let a : ltb p x ≡ true = lt-ltb p x m in let b : ltb p y ≡ true = lt-ltb p y (omega arith) in rw (a, b))
      (λ m.
      by_cases (dec_lt p y) (λ n. absurd (f (omega arith) n e))
      (λ n. let a : ltb p x ≡ false = le-ltb p x (omega arith) in let b : ltb p y ≡ false = le-ltb p y (omega arith) in rw (a, b))))
      (λ d. let z : eqb (key_at s p) (get_or q i 0) ≡ false = ne_eqb (key_at s p) (get_or q i 0) d in rw (z))

  pub pending_here : (i p : ℕ) → i < t → key_at s p ≡ get_or q i 0 → seen q i (get_or q i 0) ≡ false → pending s q t i (p + 1) p ≡ true
  unfolding pending
  pending_here i p l e n =
      let a : ltb p (p + 1) ≡ true = lt-ltb p (p + 1) (omega arith) in
      let z : seen q i (key_at s p) ≡ false = rw e n in
      let y : seen q t (key_at s p) ≡ true = rw e (is_true (seen q t (get_or q i 0)) (seen_at q i t l)) in
      rw (z, y, a, and-false (eqb (key_at s p) (get_or q i 0)))

  pub pending_gone : (i p : ℕ) → key_at s p ≡ get_or q i 0 → pending s q t i p p ≡ false
  unfolding pending
  pending_gone i p e =
      let a : ltb p p ≡ false = le-ltb p p (omega arith) in
      rw (a, eq-eqb (key_at s p) (get_or q i 0) e, and-false (not (seen q i (key_at s p))), and-false (seen q t (key_at s p)))

  -- the whole chain, and on to the next key
  pub pending_next : (i n p : ℕ) → p < n → pending s q t i 0 p ≡ pending s q t (i + 1) n p
  unfolding pending
  pending_next i n p l =
      let a : ltb p 0 ≡ false = le-ltb p 0 (omega arith) in
      let b : ltb p n ≡ true = lt-ltb p n l in
      rw (a, b, seen_next q i (key_at s p), and-false (eqb (key_at s p) (get_or q (i + 1) 0)))
      (ap (λ (x : Bool). seen q t (key_at s p) && x) (go (seen q i (key_at s p)) (eqb (key_at s p) (get_or q i 0)) (eqb (get_or q i 0) (key_at s p)) turned))
    where
      turned : eqb (key_at s p) (get_or q i 0) ≡ eqb (get_or q i 0) (key_at s p)
      turned =
          by_cases (ℕ_discrete (key_at s p) (get_or q i 0))
          (λ e. eq-eqb (key_at s p) (get_or q i 0) e ∙ sym (eq-eqb (get_or q i 0) (key_at s p) (sym e)))
          (λ d. ne_eqb (key_at s p) (get_or q i 0) d ∙ sym (ne_eqb (get_or q i 0) (key_at s p) (λ e. d (sym e))))

      go : (a b c : Bool) → b ≡ c → (not a && not (b && true)) ≡ (not (c || a) && true)
      go true true c e = rw (← e)
      go true false c e = rw (← e)
      go false true c e = rw (← e)
      go false false c e = rw (← e)

  pub pending_end : (x p : ℕ) → pending s q t t x p ≡ false
  unfolding pending
  pending_end x p = both_ways (seen q t (key_at s p)) (not (eqb (key_at s p) (get_or q t 0) && not (ltb p x)))

  -- at the start nothing is taken: what is on the queue is pending
  pub pending-start : (n p : ℕ) → p < n → pending s q t 0 n p ≡ seen q t (key_at s p)
  unfolding pending
  pending-start n p l =
      let b : ltb p n ≡ true = lt-ltb p n l in
      rw (b, seen_none q (key_at s p), and-false (eqb (key_at s p) (get_or q 0 0))) (and-true (seen q t (key_at s p)))

  -- key v is pushed
  module _ (v i x : ℕ) (l : i ≤ t) (room : t < length q) where
    pub pending-other : (p : ℕ) → (key_at s p ≡ v → ⊥) → pending s (set q t v) (t + 1) i x p ≡ pending s q t i x p
    unfolding pending
    pending-other p d =
        let k = key_at s p in
        ap₂ (λ (a b : Bool). a && (not b && not (eqb k (get_or (set q t v) i 0) && not (ltb p x)))) (seen_other q t v room k (λ e. d (sym e))) (seen-set q t v i k l)
        ∙ by_cases (ℕ_discrete i t)
        (λ e.
        subst⁻¹ (λ (y : ℕ). (seen q t k && (not (seen q y k) && not (eqb k (get_or (set q t v) y 0) && not (ltb p x)))) ≡ (seen q t k && (not (seen q y k) && not (eqb k (get_or q y 0) && not (ltb p x))))) e
        (both_ways (seen q t k) (not (eqb k (get_or (set q t v) t 0) && not (ltb p x))) ∙ sym (both_ways (seen q t k) (not (eqb k (get_or q t 0) && not (ltb p x))))))
        (λ n. ap (λ (y : ℕ). seen q t k && (not (seen q i k) && not (eqb k y && not (ltb p x)))) (get_or-set_other q t i v 0 n))

    pub pending-this : (p : ℕ) → key_at s p ≡ v → seen q t v ≡ false → (i ≡ t → p < x) → pending s (set q t v) (t + 1) i x p ≡ true
    unfolding pending
    pending-this p e new first =
        let k = key_at s p in
        let a : seen (set q t v) (t + 1) k ≡ true = rw e (is_true (seen (set q t v) (t + 1) v) (seen-this q t v room)) in
        let b : seen (set q t v) i k ≡ false = seen-set q t v i k l ∙ rw e (not-before i l) in
        rw (a, b)
        (by_cases (ℕ_discrete i t)
        (λ y. let z : ltb p x ≡ true = lt-ltb p x (first y) in rw (z, and-false (eqb k (get_or (set q t v) i 0))))
        (λ n.
        let z : eqb k (get_or (set q t v) i 0) ≡ false =
        ne_eqb k (get_or (set q t v) i 0)
        (λ y. is-not (seen q t v) new (subst (λ (m : ℕ). T (seen q t m)) (sym (get_or-set_other q t i v 0 n) ∙ sym y ∙ e) (seen_at q i t (omega arith)))) in
        rw (z)))
      where
        not-before : (j : ℕ) → j ≤ t → seen q j v ≡ false
        not-before j m = is_false (seen q j v) (λ u. is-not (seen q t v) new (seen-later q j t v m u))

-- queues with the same keys at the first places
pub seen_same : (q r : List ℕ) (t k : ℕ) → ((j : ℕ) → j < t → get_or q j 0 ≡ get_or r j 0) → seen q t k ≡ seen r t k
unfolding seen
seen_same q r zero k f = refl
seen_same q r (suc t) k f =
    ap₂ (λ (x : ℕ) (y : Bool). eqb x k || y) (f t (omega arith)) (seen_same q r t k (λ j l. f j (omega arith)))

-- the first keys of a queue
pub queue_less : {n : ℕ} {q : List ℕ} {t : ℕ} (i : ℕ) → i ≤ t → Queue n q t → Queue n q i
queue_less i l now =
    record { long = now.long; fresh = λ j m. now.fresh j (omega arith); small = λ j m. now.small j (omega arith) }
