use Rattle.lines.specs.Numbering.{cap, digit_by}
use Rattle.base.proofs.Choose.{pick_true, pick-false}
use Prim.Native.Nat.{ℕ, ◌+◌, ◌*◌}
use mathlib.Core.Path.{sym, ◌∙◌, ap₂}
use Rattle.lines.proofs.Capped.{cap_min, cap_add}
use Rattle.lines.proofs.Cases.{digit-least}
use Rattle.lines.proofs.grammar.with_digit.Goals as goal

pub returns-then-not-is_digit : goal.returns-then-not-is_digit
unfolding digit_by
returns-then-not-is_digit c = sym (pick-false _ _ _ (sym c.if-not-is_digit.ensures))

pub overflow_sub-b : goal.overflow_sub-b
overflow_sub-b c = digit-least _ (sym c.if-not-is_digit.ensures)

pub returns : goal.returns
unfolding digit_by
returns c =
    c.min-2.ensures
    ∙ cap_min _
    ∙ ap₂ (λ (n d : ℕ). cap (10 * n + d)) (c.min.ensures ∙ cap_min c.args.number) c.from.ensures
    ∙ cap_add c.args.number _
    ∙ sym (pick_true _ _ _ (sym c.if-not-is_digit.ensures))
