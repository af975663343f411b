-- The negations of the plain claims of a queue (specs/Doubts: Negations). Assumes nothing.
--   negations-start        none
--   negations-odd, _even   one key more, negated or plain
use Prim.Native.Nat.{ℕ, ◌+◌, ◌*◌, ◌/◌, ◌%◌, ◌<◌}
use mathlib.Core.Path.{◌≡◌, sym, ◌∙◌, ap, subst, subst⁻¹}
use mathlib.Core.Bool.{Bool, ◌||◌}
use mathlib.Core.List.{List}
use mathlib.Core.Logic.{by_cases}
use native.Mathlib.Omega.{arith}
use native.Mathlib.Decide.{ℕ_discrete}
use borrow.Author.Tests.{ne_eqb}
use lib.Dec.{T}
use lib.ListN.{length, get_or, set, length-set}
use Rattle.base.proofs.Bools.{is_true}
use Rattle.counters.specs.Queues.{seen}
use Rattle.counters.specs.Doubts.{Negations}
use Rattle.counters.proofs.Queues.{seen_next, seen_none, seen_at, seen_other, seen-this, queue_less, queue_push}

pub negations-start : (q l : List ℕ) → Negations q 0 l 0
negations-start q l =
    record {
      queue = λ A long now. record { long = long; fresh = λ j m. absurd (omega arith); small = λ j m. absurd (omega arith) };
      plain = λ c. seen_none l (2 * c);
      negated = λ c. seen_none l (2 * c + 1) ∙ sym (seen_none q (2 * c));
    }

-- the key at place i is not claim c
seen-past : (q : List ℕ) (i k : ℕ) → (get_or q i 0 ≡ k → ⊥) → seen q (i + 1) k ≡ seen q i k
seen-past q i k n = seen_next q i k ∙ ap (λ (b : Bool). b || seen q i k) (ne_eqb (get_or q i 0) k n)

module _ (q : List ℕ) (i : ℕ) (l : List ℕ) (n : ℕ) (now : Negations q i l n) where
  negations_skip : (d : ℕ) → get_or q i 0 ≡ 2 * d + 1 → Negations q (i + 1) l n
  negations_skip d e =
      record {
        queue = λ A long all. now.queue A long (queue_less i (omega arith) all);
        plain = now.plain;
        negated = λ c. now.negated c ∙ sym (seen-past q i (2 * c) (λ x. omega arith));
      }

  module _ (d : ℕ) (room : n < length l) (e : get_or q i 0 ≡ 2 * d) where
    negations_more : Negations q (i + 1) (set l n (2 * d + 1)) (n + 1)
    negations_more =
        record {
          queue = λ A long all.
              queue_push (now.queue A (simp length-set at long) (queue_less i (omega arith) all)) (2 * d + 1) (omega (arith, all.small i (omega arith)))
              (now.negated d ∙ ap (seen q i) (sym e) ∙ all.fresh i (omega arith));
          plain = λ c. seen_other l n (2 * d + 1) room (2 * c) (λ x. omega arith) ∙ now.plain c;
          negated = λ c.
              by_cases (ℕ_discrete c d)
              (λ x.
              subst⁻¹ (λ (y : ℕ). seen (set l n (2 * d + 1)) (n + 1) (2 * y + 1) ≡ seen q (i + 1) (2 * y)) x
              (is_true (seen (set l n (2 * d + 1)) (n + 1) (2 * d + 1)) (seen-this l n (2 * d + 1) room)
              ∙ sym (is_true (seen q (i + 1) (2 * d)) (subst (λ (y : ℕ). T (seen q (i + 1) y)) e (seen_at q i (i + 1) (omega arith))))))
              (λ x.
              seen_other l n (2 * d + 1) room (2 * c + 1) (λ y. x (omega arith)) ∙ now.negated c
              ∙ sym (seen-past q i (2 * c) (λ y. x (omega arith))));
        }

  -- the key as the code reads it
  pub negations-odd : (get_or q i 0 % 2 ≡ 0 → ⊥) → Negations q (i + 1) l n
  negations-odd d = negations_skip (get_or q i 0 / 2) (omega arith)

  pub negations_even : n < length l → get_or q i 0 % 2 ≡ 0 → Negations q (i + 1) (set l n (get_or q i 0 + 1)) (n + 1)
  negations_even room z =
      let e : get_or q i 0 ≡ 2 * (get_or q i 0 / 2) = omega arith in
      let f : 2 * (get_or q i 0 / 2) + 1 ≡ get_or q i 0 + 1 = omega arith in
      subst (λ (v : ℕ). Negations q (i + 1) (set l n v) (n + 1)) f (negations_more (get_or q i 0 / 2) room e)
