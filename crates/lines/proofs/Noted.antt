-- What is noted of a text that row 15 accepts is what its lines say. Assumes nothing.
--   notes_said   the notes of its rules, then those of its questions
use Prim.Native.Nat.{ℕ, ◌+◌}
use mathlib.Core.List.{List, [], ◌∷◌, ◌++◌, flat_map, map, append_assoc}
use mathlib.Core.Path.{◌≡◌, refl, sym, ◌∙◌, ap}
use lib.ListN.{length}
use Rattle.job.specs.Encoding.{field_of}
use Rattle.job.specs.Check.{Accepted}
use Rattle.job.specs.declared.Literal.{Literal}
use Rattle.job.specs.declared.Literal.TheVariants.{Plain, Negated}
use Rattle.job.specs.declared.Question.{Question}
use Rattle.lines.specs.Lines.{RuleLine, Lines, text_of}
use Rattle.lines.specs.Checks.{check_numbers}
use Rattle.lines.specs.Numbering.{cap, Item}
use Rattle.lines.specs.Noting.{note_of, notes, notes_of, rule_notes, ask_notes, head_mark}
use Rattle.lines.proofs.Capped.{cap_add}
use Rattle.lines.proofs.Validity.{lines_fit}
use Rattle.lines.proofs.Along.{same, literal_item, rule_items, rules_items, asks_items, items_in, text-items}
use Rattle.lines.proofs.Uncapped.{items_uncapped}

notes_append : (xs ys : List Item) → notes (xs ++ ys) ≡ notes xs ++ notes ys
unfolding flat_map
notes_append [] ys = refl
notes_append (x ∷ xs) ys =
    ap (λ (s : List ℕ). note_of x.slot x.value ++ s) (notes_append xs ys)
    ∙ sym (append_assoc (note_of x.slot x.value) (notes xs) (notes ys))

literals_noted : (ls : List Literal) (line : ℕ) → notes (map (literal_item same line) ls) ≡ map field_of ls
unfolding flat_map
literals_noted [] line = refl
literals_noted (Plain c ∷ ls) line = ap (λ (s : List ℕ). c ∷ s) (literals_noted ls line)
literals_noted (Negated c ∷ ls) line = ap (λ (s : List ℕ). (32768 + c) ∷ s) (literals_noted ls line)

rules_noted : (rs : List RuleLine) (line : ℕ) → notes (rules_items same line rs) ≡ flat_map rule_notes rs
unfolding flat_map
rules_noted [] line = refl
rules_noted (r ∷ rs) line =
    notes_append (rule_items same (line + 1) r) (rules_items same (line + 1) rs)
    ∙ ap (λ (s : List ℕ). ((head_mark + r.head) ∷ s) ++ notes (rules_items same (line + 1) rs)) (literals_noted r.body (line + 1))
    ∙ ap (λ (s : List ℕ). rule_notes r ++ s) (rules_noted rs (line + 1))

asks_noted : (qs : List Question) (line : ℕ) → notes (asks_items same line qs) ≡ flat_map ask_notes qs
unfolding flat_map
asks_noted [] line = refl
asks_noted (q ∷ qs) line = ap (λ (s : List ℕ). ask_notes q ++ s) (asks_noted qs (line + 1))

lines_noted : (l : Lines) → notes (items_in same l) ≡ flat_map rule_notes l.rules ++ flat_map ask_notes l.questions
unfolding flat_map
lines_noted l =
    let asks = asks_items same (1 + length l.rules) l.questions in
    notes_append (rules_items same 1 l.rules) asks ∙ rw (rules_noted l.rules 1, asks_noted l.questions (1 + length l.rules))

pub notes_said : (l : Lines) → Accepted ≡ check_numbers l → notes_of (text_of l) ≡ flat_map rule_notes l.rules ++ flat_map ask_notes l.questions
notes_said l e = ap notes (text-items cap cap_add l ∙ items_uncapped l (lines_fit l e)) ∙ lines_noted l
