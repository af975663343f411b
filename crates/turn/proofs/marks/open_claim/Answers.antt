use Prim.Native.Nat.{ℕ, ◌+◌}
use mathlib.Core.List.{List}
use mathlib.Core.Path.{◌≡◌, ◌∙◌, ap}
use native.Mathlib.Omega.{arith}
use lib.ListN.{length, set, length-set}
use Rattle.table.specs.Layout.{opened, opened_word, mark_word, cursor_word, number_word}
use Rattle.turn.specs.Turn.{open_claim}
use Rattle.turn.proofs.marks.open_claim.Goals as goal

-- four words are stored, one after the other
opens : (t : List ℕ) (w c n : ℕ) → n ≡ opened t → {t₁ t₂ t₃ t₄ : List ℕ} → t₁ ≡ set t opened_word (n + 1) → t₂ ≡ set t₁ (mark_word c) (w + 1) → t₃ ≡ set t₂ (cursor_word c) 0 → t₄ ≡ set t₃ (number_word c) (n + 1) → t₄ ≡ open_claim t w c
unfolding open_claim
opens t w c n e h₁ h₂ h₃ h₄ =
    h₄
    ∙ (ap (λ (x : List ℕ). set x (number_word c) (n + 1)) (h₃ ∙ ap (λ (x : List ℕ). set x (cursor_word c) 0) (h₂ ∙ ap (λ (x : List ℕ). set x (mark_word c) (w + 1)) h₁))
    ∙ ap (λ (m : ℕ). set (set (set (set t opened_word (m + 1)) (mark_word c) (w + 1)) (cursor_word c) 0) (number_word c) (m + 1)) e)

longer : (t u : List ℕ) (i v : ℕ) → u ≡ set t i v → length u ≡ length t
longer t u i v e = ap length e ∙ length-set t i v

pub set_mark-requires : goal.set_mark-requires
set_mark-requires c = omega (arith, longer c.args.table.now c.set_opened.new.table opened_word (c.opened_in-n.result + 1) c.set_opened.ensures, c.requires)

pub set_cursor-requires : goal.set_cursor-requires
set_cursor-requires c = omega (arith, longer c.args.table.now c.set_opened.new.table opened_word (c.opened_in-n.result + 1) c.set_opened.ensures, longer c.set_opened.new.table c.set_mark.new.table (mark_word c.args.c) (c.args.w + 1) c.set_mark.ensures, c.requires)

pub set_number-requires : goal.set_number-requires
set_number-requires c = omega (arith, longer c.args.table.now c.set_opened.new.table opened_word (c.opened_in-n.result + 1) c.set_opened.ensures, longer c.set_opened.new.table c.set_mark.new.table (mark_word c.args.c) (c.args.w + 1) c.set_mark.ensures, longer c.set_mark.new.table c.set_cursor.new.table (cursor_word c.args.c) 0 c.set_cursor.ensures, c.requires, c.opened_in-n.ensures.value)

pub returns : goal.returns
returns c = let a = c.args in
    opens a.table.now a.w a.c c.opened_in-n.result c.opened_in-n.ensures.value c.set_opened.ensures c.set_mark.ensures c.set_cursor.ensures c.set_number.ensures
