-- The text of lines passes row 14, and says them and no others: its numbers tell them. Assumes nothing.
--   complete     row 14 accepts it
--   lines_by xs  the lines whose numbers xs are, read from the last number to the first
--   unique       lines with the same text are the same
use Prim.Native.Nat.{ℕ, ◌+◌}
use mathlib.Core.List.{List, [], ◌∷◌, ◌++◌, map, append-nil, append_assoc}
use mathlib.Core.Path.{◌≡◌, refl, sym, ◌∙◌, ap}
use lib.ListN.{length}
use Rattle.job.specs.Check.{Accepted}
use Rattle.job.specs.declared.Literal.{Literal}
use Rattle.job.specs.declared.Literal.TheVariants.{Plain, Negated}
use Rattle.job.specs.declared.Question.{Question}
use Rattle.lines.specs.Lines.{RuleLine, Lines, text_of, line_count}
use Rattle.lines.specs.Fitting.{fits_from, check_fit}
use Rattle.lines.specs.Numbering.{Item, items_of}
use Rattle.lines.specs.declared.Slot.{Slot}
use Rattle.lines.specs.declared.Slot.TheVariants.{ClaimCount, WorkerCount, Head, Body, NotBody, Asker, Asked}
use Rattle.lines.specs.declared.State.TheVariants.{FirstLine}
use Rattle.lines.proofs.Along.{same, literal_item, rule_items, rules_items, asks_items, items_in, end_state, text-items, text-fits}

end_fits : (qs : List Question) (line : ℕ) → Accepted ≡ fits_from (end_state qs) line []
unfolding fits_from
end_fits [] line = refl
end_fits (q ∷ qs) line = refl

pub complete : (l : Lines) → Accepted ≡ check_fit (text_of l)
unfolding check_fit
complete l = end_fits l.questions (line_count l) ∙ sym (text-fits l []) ∙ ap (fits_from FirstLine 0) (append-nil (text_of l))

-- what the numbers behind some place say: literals whose head is still to be read, a claim whose worker is
record Behind : Type 0 where
  claims : ℕ
  workers : ℕ
  rules : List RuleLine
  body : List Literal
  questions : List Question
  asked : ℕ

abbrev behind : ℕ → ℕ → List RuleLine → List Literal → List Question → Behind
behind a t rs ls qs = record { claims = a; workers = t; rules = rs; body = ls; questions = qs; asked = 0 }

abbrev with : Slot → ℕ → Behind → Behind
with ClaimCount n b = behind n b.workers b.rules b.body b.questions
with WorkerCount n b = behind b.claims n b.rules b.body b.questions
with Head n b = behind b.claims b.workers (record { head = n; body = b.body } ∷ b.rules) [] b.questions
with Body n b = behind b.claims b.workers b.rules (Plain n ∷ b.body) b.questions
with NotBody n b = behind b.claims b.workers b.rules (Negated n ∷ b.body) b.questions
with Asker n b = behind b.claims b.workers b.rules b.body (record { worker = n; claim = b.asked } ∷ b.questions)
with Asked n b = record { claims = b.claims; workers = b.workers; rules = b.rules; body = b.body; questions = b.questions; asked = n }

abbrev said : List Item → Behind
said [] = behind 0 0 [] [] []
said (x ∷ xs) = with x.slot x.value (said xs)

lines_by : List Item → Lines
lines_by xs = let b = said xs in record { claims = b.claims; workers = b.workers; rules = b.rules; questions = b.questions }

literals-said :
    (ls : List Literal) (line : ℕ) (xs : List Item) (rs : List RuleLine) (qs : List Question) → said xs ≡ behind 0 0 rs [] qs
    → said (map (literal_item same line) ls ++ xs) ≡ behind 0 0 rs ls qs
literals-said [] line xs rs qs e = e
literals-said (Plain c ∷ ls) line xs rs qs e = ap (with Body c) (literals-said ls line xs rs qs e)
literals-said (Negated c ∷ ls) line xs rs qs e = ap (with NotBody c) (literals-said ls line xs rs qs e)

rules-said :
    (rs : List RuleLine) (line : ℕ) (xs : List Item) (qs : List Question) → said xs ≡ behind 0 0 [] [] qs
    → said (rules_items same line rs ++ xs) ≡ behind 0 0 rs [] qs
rules-said [] line xs qs e = e
rules-said (r ∷ rs) line xs qs e =
    ap said (append_assoc (rule_items same (line + 1) r) (rules_items same (line + 1) rs) xs)
    ∙ ap (with Head r.head) (literals-said r.body (line + 1) (rules_items same (line + 1) rs ++ xs) rs qs (rules-said rs (line + 1) xs qs e))

asks_said : (qs : List Question) (line : ℕ) → said (asks_items same line qs) ≡ behind 0 0 [] [] qs
asks_said [] line = refl
asks_said (q ∷ qs) line = ap (λ (b : Behind). with Asker q.worker (with Asked q.claim b)) (asks_said qs (line + 1))

lines_said : (l : Lines) → lines_by (items_in same l) ≡ l
unfolding lines_by
lines_said l =
    let line = 1 + length l.rules in
    rw (rules-said l.rules 1 (asks_items same line l.questions) l.questions (asks_said l.questions line))

pub unique : (l k : Lines) → text_of l ≡ text_of k → l ≡ k
unique l k e =
    sym (lines_said l)
    ∙ ap lines_by (sym (text-items same (λ q r. refl) l) ∙ ap (items_of same) e ∙ text-items same (λ q r. refl) k)
    ∙ lines_said k
