-- The steps of the machine by cases: what byte it was, where the step is not a bad one. Assumes nothing.
--   digit-least, digit_most                                       which bytes are digits
--   only-case, either-case, first-case, more-case, spelled-case   a step by its parts
use Prim.Native.Nat.{ℕ, ◌+◌, ◌<◌, ◌≤◌}
use mathlib.Core.Path.{◌≡◌, refl, sym}
use mathlib.Core.Bool.{Bool, true, false, true≢false}
use native.Mathlib.Omega.{arith}
use borrow.Author.Tests.{eqb-true, eqb-false}
use lib.Dec.{eqb}
use lib.ListN.{length, get_or}
use Rattle.base.specs.Choose.{pick}
use Rattle.base.specs.Compare.{under, differs}
use Rattle.base.proofs.Choose.{pick_both}
use Rattle.base.proofs.Compare.{differs_eq, under_lt, under_le}
use Rattle.lines.specs.Lines.{letters}
use Rattle.lines.specs.Grammar.{is_digit, after, spelled, first, only, either, ended, more, is_bad}
use Rattle.lines.specs.declared.Slot.{Slot}
use Rattle.lines.specs.declared.Word.{Word}
use Rattle.lines.specs.declared.State.{State}
use Rattle.lines.specs.declared.State.TheVariants.{Bad, Letter, Zero, More}

first-no : (x y : Bool) → pick x false y ≡ true → x ≡ false
unfolding pick
first-no true y e = absurd (true≢false (sym e))
first-no false y e = refl

first_rest : (x y : Bool) → pick x false y ≡ true → y ≡ true
unfolding pick
first_rest true y e = absurd (true≢false (sym e))
first_rest false y e = e

pub digit-least : (b : ℕ) → is_digit b ≡ true → 48 ≤ b
unfolding is_digit
digit-least b e = under_le _ _ (first-no _ _ e)

pub digit_most : (b : ℕ) → is_digit b ≡ true → b < 58
unfolding is_digit
digit_most b e = under_lt _ _ (first_rest (under b 48) _ e)

module _ (P : State → Type 0) where
  pub only-case : (b w : ℕ) (next : State) → (b ≡ w → P next) → is_bad (only b w next) ≡ false → P (only b w next)
  unfolding only
  only-case b w next f =
      pick_both (λ (st : State). is_bad st ≡ false → P st) (eqb b w) next Bad (λ e h. f (eqb-true b w e)) (λ e h. absurd (true≢false h))

  pub either-case : (b one : ℕ) (next : State) (two : ℕ) (other : State) → (b ≡ one → P next) → (b ≡ two → P other) → is_bad (either b one next two other) ≡ false → P (either b one next two other)
  unfolding either
  either-case b one next two other f g =
      pick_both (λ (st : State). is_bad st ≡ false → P st) (eqb b one) next (only b two other) (λ e h. f (eqb-true b one e)) (λ e. only-case b two other g)

  pub first-case : (s : Slot) (b : ℕ) → (b ≡ 48 → P (Zero s)) → (is_digit b ≡ true → 48 < b → b < 58 → P (More s)) → is_bad (first s b) ≡ false → P (first s b)
  unfolding first
  first-case s b f g =
      pick_both (λ (st : State). is_bad st ≡ false → P st) (eqb b 48) (Zero s) _ (λ e h. f (eqb-true b 48 e))
      (λ n.
      pick_both (λ (st : State). is_bad st ≡ false → P st) (is_digit b) (More s) Bad
      (λ e h. g e (let l = digit-least b e in let q = eqb-false b 48 n in omega arith) (digit_most b e)) (λ e h. absurd (true≢false h)))

  pub more-case : (s : Slot) (b : ℕ) → (is_digit b ≡ true → P (More s)) → (is_digit b ≡ false → is_bad (ended s b) ≡ false → P (ended s b)) → is_bad (more s b) ≡ false → P (more s b)
  unfolding more
  more-case s b f g = pick_both (λ (st : State). is_bad st ≡ false → P st) (is_digit b) (More s) (ended s b) (λ e h. f e) g

  pub spelled-case : (w : Word) (k b : ℕ) → (b ≡ get_or (letters w) k 0 → k + 1 < length (letters w) → P (Letter w (k + 1))) → (b ≡ get_or (letters w) k 0 → length (letters w) ≤ k + 1 → P (after w)) → is_bad (spelled w k b) ≡ false → P (spelled w k b)
  unfolding spelled
  spelled-case w k b f g =
      pick_both (λ (st : State). is_bad st ≡ false → P st) (differs b (get_or (letters w) k 0)) Bad _ (λ e h. absurd (true≢false h))
      (λ d.
      pick_both (λ (st : State). is_bad st ≡ false → P st) (under (k + 1) (length (letters w))) (Letter w (k + 1)) (after w)
      (λ e h. f (differs_eq _ _ d) (under_lt _ _ e)) (λ e h. g (differs_eq _ _ d) (under_le _ _ e)))
