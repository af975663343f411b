-- The negations of the doubted claims that stayed outside u go onto the queue, one after the other (specs/Doubts: Lost).
-- Assumes nothing.
--   Losing         the queue, where the list was gone through up to place i
--   losing-start   nothing was
--   losing_new     the negation of the claim at place i is not on the queue; losing-room   there is room for it
--   losing_push    it is pushed
--   losing_skip    the claim at place i is in u
--   losing-is      the same of a queue by another name
--   losing_done    the whole list was gone through
use Prim.Native.Nat.{ℕ, ◌+◌, ◌*◌, ◌<◌, ◌≤◌}
use mathlib.Core.Path.{◌≡◌, refl, sym, ◌∙◌, ap, subst, subst⁻¹}
use mathlib.Core.Bool.{Bool, true, false, not, ◌&&◌, ◌||◌}
use mathlib.Core.List.{List}
use mathlib.Core.Logic.{by_cases}
use native.Mathlib.Omega.{arith}
use native.Mathlib.Decide.{ℕ_discrete}
use borrow.Author.Tests.{ne_eqb}
use lib.Dec.{T}
use lib.ListN.{length, get_or, set, length-set}
use Rattle.base.specs.Sets.{set_of}
use Rattle.base.proofs.Bools.{is_true}
use Rattle.counters.specs.Queues.{seen, Queue}
use Rattle.counters.specs.Doubts.{Doubted, Lost}
use Rattle.counters.proofs.Queues.{seen_next, seen_at, seen_other, seen-this, queue-room, queue_push}
use Rattle.counters.proofs.Doubting.{doubted-small, doubted-again}

pub record Losing (u l : List ℕ) (i : ℕ) (q₀ : List ℕ) (t₀ : ℕ) (q : List ℕ) (t : ℕ) : Type 0 where
  pub queue : Queue (2 * length u) q t
  pub size : length q ≡ length q₀
  pub up : t₀ ≤ t
  pub plain : (c : ℕ) → seen q t (2 * c) ≡ seen q₀ t₀ (2 * c)
  pub negated : (c : ℕ) → seen q t (2 * c + 1) ≡ (seen l i (2 * c) && not (set_of u c))

pub losing-start :
    (u : List ℕ) {l q : List ℕ} {from end i t : ℕ} → i ≡ from → Doubted (length u) l from end → Queue (2 * length u) q t
    → ((c : ℕ) → seen q t (2 * c + 1) ≡ false) → Losing u l i q t q t
losing-start u e doubted queue f =
    rw e
    record {
      queue = queue;
      size = refl;
      up = omega arith;
      plain = λ c. refl;
      negated = λ c. f c ∙ sym (ap (λ (b : Bool). b && not (set_of u c)) (doubted.before c));
    }

pub losing-is :
    {u l q₀ q q' : List ℕ} {i i' t₀ t t' : ℕ} → i' ≡ i → q' ≡ q → t' ≡ t → Losing u l i q₀ t₀ q t → Losing u l i' q₀ t₀ q' t'
losing-is d e f now = rw (d, e, f) now

pub losing_done : {u l q₀ q : List ℕ} {i end t₀ t : ℕ} → Losing u l i q₀ t₀ q t → i ≡ end → Lost u l end q₀ t₀ q t
losing_done {u} {l} now e =
    record {
      queue = now.queue;
      up = now.up;
      plain = now.plain;
      negated = λ c. now.negated c ∙ ap (λ (j : ℕ). seen l j (2 * c) && not (set_of u c)) e;
    }

-- claim d at place i
module _
    {u l : List ℕ} {from end i : ℕ} (doubted : Doubted (length u) l from end) {q₀ q : List ℕ} {t₀ t : ℕ} (now : Losing u l i q₀ t₀ q t)
    (a : from ≤ i) (b : i < end) (d : ℕ) (here : get_or l i 0 ≡ 2 * d) where
  -- at the other claims the list says the same one place on
  other : (c : ℕ) → (c ≡ d → ⊥) → seen l (i + 1) (2 * c) ≡ seen l i (2 * c)
  other c n = seen_next l i (2 * c) ∙ ap (λ (x : Bool). x || seen l i (2 * c)) (ne_eqb (get_or l i 0) (2 * c) (λ e. n (omega arith)))

  this : seen l (i + 1) (2 * d) ≡ true
  this = is_true (seen l (i + 1) (2 * d)) (subst (λ (k : ℕ). T (seen l (i + 1) k)) here (seen_at l i (i + 1) (omega arith)))

  pub losing_new : seen q t (2 * d + 1) ≡ false
  losing_new = now.negated d ∙ ap (λ (x : Bool). x && not (set_of u d)) (doubted-again doubted i a b d here)

  small : 2 * d + 1 < 2 * length u
  small = omega (arith, doubted-small doubted i a b d here)

  pub losing-room : t < length q
  losing-room = omega (arith, queue-room now.queue (2 * d + 1) small losing_new, now.queue.long)

  pushed : set_of u d ≡ false → Losing u l (i + 1) q₀ t₀ (set q t (2 * d + 1)) (t + 1)
  pushed out =
      record {
        queue = queue_push now.queue (2 * d + 1) small losing_new;
        size = simp length-set now.size;
        up = omega (arith, now.up);
        plain = λ c. seen_other q t (2 * d + 1) losing-room (2 * c) (λ e. omega arith) ∙ now.plain c;
        negated = λ c.
            by_cases (ℕ_discrete c d)
            (λ e.
            subst⁻¹ (λ (y : ℕ). seen (set q t (2 * d + 1)) (t + 1) (2 * y + 1) ≡ (seen l (i + 1) (2 * y) && not (set_of u y))) e
            (rw (this, out, is_true (seen (set q t (2 * d + 1)) (t + 1) (2 * d + 1)) (seen-this q t (2 * d + 1) losing-room))))
            (λ n.
            seen_other q t (2 * d + 1) losing-room (2 * c + 1) (λ e. n (omega arith)) ∙ now.negated c
            ∙ sym (ap (λ (x : Bool). x && not (set_of u c)) (other c n)));
      }

  pub losing_push : (v : ℕ) → v ≡ 2 * d + 1 → set_of u d ≡ false → Losing u l (i + 1) q₀ t₀ (set q t v) (t + 1)
  losing_push v e out = subst⁻¹ (λ (x : ℕ). Losing u l (i + 1) q₀ t₀ (set q t x) (t + 1)) e (pushed out)

  pub losing_skip : set_of u d ≡ true → Losing u l (i + 1) q₀ t₀ q t
  losing_skip within =
      record {
        queue = now.queue;
        size = now.size;
        up = now.up;
        plain = now.plain;
        negated = λ c.
            by_cases (ℕ_discrete c d)
            (λ e.
            subst⁻¹ (λ (y : ℕ). seen q t (2 * y + 1) ≡ (seen l (i + 1) (2 * y) && not (set_of u y))) e (losing_new ∙ rw (this, within)))
            (λ n. now.negated c ∙ sym (ap (λ (x : Bool). x && not (set_of u c)) (other c n)));
      }
