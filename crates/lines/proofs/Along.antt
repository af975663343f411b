-- What the text of lines does, part by part: where it leads, and which numbers it has. Assumes nothing.
--   rule_items, ask_items  the numbers of a rule's line, and of a question's; rules_items, asks_items   those of lines behind `line` others
--   items_in keep l        the numbers of the lines l, each kept as `keep` has it; `same` keeps what is typed
--   end_state qs           the state behind the questions qs: where more lines may follow
--   text-leads             the text of l leads there, past its lines, and has these numbers
--   text-items, text-fits  the same of the numbers, and of row 14
use Prim.Native.Nat.{ℕ, ◌+◌, ◌*◌}
use mathlib.Core.List.{List, [], ◌∷◌, ◌++◌, flat_map, map, append-nil, append_assoc}
use mathlib.Core.Path.{◌≡◌, refl, sym, ◌∙◌, ap}
use native.Mathlib.Omega.{arith}
use lib.ListN.{length}
use Rattle.base.specs.Choose.{pick}
use Rattle.base.specs.Compare.{under, differs}
use Rattle.job.specs.declared.Literal.{Literal}
use Rattle.job.specs.declared.Literal.TheVariants.{Plain, Negated}
use Rattle.job.specs.declared.Question.{Question}
use Rattle.writing.specs.Decimal.{decimal}
use Rattle.lines.specs.Lines.{RuleLine, Lines, letters, blank, line_end, text_of, line_count, header_text, literal_text, body_text, rule_text, ask_text}
use Rattle.lines.specs.Grammar.{is_digit, spelled, only, either, any_line, body_next, run}
use Rattle.lines.specs.Fitting.{fits_from}
use Rattle.lines.specs.Numbering.{Scan, begin, Item, items, items_of}
use Rattle.lines.specs.declared.Slot.TheVariants.{ClaimCount, WorkerCount, Head, Body, NotBody, Asker, Asked}
use Rattle.lines.specs.declared.Word.TheVariants.{ClaimsWord, WorkersWord, IfWord, NotWord, AskWord, StopWord, CommaWord}
use Rattle.lines.specs.declared.State.{State}
use Rattle.lines.specs.declared.State.TheVariants.{FirstLine, AnyLine, AskLine, First, BodyNext}
use Rattle.lines.proofs.Leads.{Leads, at, item, num, leads_none, leads-join, leads-text, leads-to, opening, within, first-begins, any-begins, body-begins, number-leads, behind}

abbrev pub same : ℕ → ℕ
same n = n

abbrev pub literal_item : (ℕ → ℕ) → ℕ → Literal → Item
literal_item keep line (Plain c) = item line Body (keep c)
literal_item keep line (Negated c) = item line NotBody (keep c)

abbrev pub rule_items : (ℕ → ℕ) → ℕ → RuleLine → List Item
rule_items keep line r = item line Head (keep r.head) ∷ map (literal_item keep line) r.body

abbrev pub ask_items : (ℕ → ℕ) → ℕ → Question → List Item
ask_items keep line q = item line Asker (keep q.worker) ∷ item line Asked (keep q.claim) ∷ []

abbrev pub rules_items : (ℕ → ℕ) → ℕ → List RuleLine → List Item
rules_items keep line [] = []
rules_items keep line (r ∷ rs) = rule_items keep (line + 1) r ++ rules_items keep (line + 1) rs

abbrev pub asks_items : (ℕ → ℕ) → ℕ → List Question → List Item
asks_items keep line [] = []
asks_items keep line (q ∷ qs) = ask_items keep (line + 1) q ++ asks_items keep (line + 1) qs

abbrev pub header_items : (ℕ → ℕ) → ℕ → ℕ → List Item
header_items keep a t = item 1 ClaimCount (keep a) ∷ item 1 WorkerCount (keep t) ∷ []

abbrev pub items_in : (ℕ → ℕ) → Lines → List Item
items_in keep l =
    header_items keep l.claims l.workers ++ rules_items keep 1 l.rules ++ asks_items keep (1 + length l.rules) l.questions

abbrev pub end_state : List Question → State
end_state [] = AnyLine
end_state (q ∷ qs) = AskLine

abbrev pub comma_text : Literal → List ℕ
comma_text l = letters CommaWord ++ literal_text l

-- behind a literal
abbrev pend : (ℕ → ℕ) → Literal → Scan
pend keep (Plain c) = at (num Body c) (keep c)
pend keep (Negated c) = at (num NotBody c) (keep c)

module _ {keep : ℕ → ℕ} where
  claims-word : Leads keep begin 0 (letters ClaimsWord) (at (First ClaimCount) 0) 1 []
  unfolding spelled only pick differs under is_digit run
  claims-word = opening FirstLine 99 (108 ∷ 97 ∷ 105 ∷ 109 ∷ 115 ∷ 32 ∷ []) 0 refl refl refl

  ask_any : (line : ℕ) → Leads keep (at AnyLine 0) line (letters AskWord) (at (First Asker) 0) (line + 1) []
  unfolding spelled only pick differs under is_digit run any_line
  ask_any line = opening AnyLine 97 (115 ∷ 107 ∷ 32 ∷ []) line refl refl refl

  ask_more : (line : ℕ) → Leads keep (at AskLine 0) line (letters AskWord) (at (First Asker) 0) (line + 1) []
  unfolding spelled only pick differs under is_digit run
  ask_more line = opening AskLine 97 (115 ∷ 107 ∷ 32 ∷ []) line refl refl refl

  not-word : (line : ℕ) → Leads keep (at BodyNext 0) line (letters NotWord) (at (First NotBody) 0) line []
  unfolding spelled only pick differs under is_digit run body_next
  not-word line = within BodyNext (letters NotWord) line refl

  module _ (n v line : ℕ) where
    behind-claims : Leads keep (at (num ClaimCount n) v) line (letters WorkersWord) (at (First WorkerCount) 0) line (item line ClaimCount v ∷ [])
    unfolding spelled only pick differs under is_digit run
    behind-claims = behind ClaimCount n v line (letters WorkersWord) refl

    behind-workers : Leads keep (at (num WorkerCount n) v) line line_end (at AnyLine 0) line (item line WorkerCount v ∷ [])
    unfolding only pick under is_digit run
    behind-workers = behind WorkerCount n v line line_end refl

    behind-head : Leads keep (at (num Head n) v) line (letters StopWord) (at AnyLine 0) line (item line Head v ∷ [])
    unfolding spelled either pick differs under is_digit run
    behind-head = behind Head n v line (letters StopWord) refl

    behind_if : Leads keep (at (num Head n) v) line (letters IfWord) (at BodyNext 0) line (item line Head v ∷ [])
    unfolding spelled either only pick differs under is_digit run
    behind_if = behind Head n v line (letters IfWord) refl

    behind-asker : Leads keep (at (num Asker n) v) line blank (at (First Asked) 0) line (item line Asker v ∷ [])
    unfolding only pick under is_digit run
    behind-asker = behind Asker n v line blank refl

    behind-asked : Leads keep (at (num Asked n) v) line line_end (at AskLine 0) line (item line Asked v ∷ [])
    unfolding only pick under is_digit run
    behind-asked = behind Asked n v line line_end refl

  behind-stop : (l : Literal) (line : ℕ) → Leads keep (pend keep l) line (letters StopWord) (at AnyLine 0) line (literal_item keep line l ∷ [])
  unfolding spelled either pick differs under is_digit run
  behind-stop (Plain c) line = behind Body c (keep c) line (letters StopWord) refl
  behind-stop (Negated c) line = behind NotBody c (keep c) line (letters StopWord) refl

  behind_comma : (l : Literal) (line : ℕ) → Leads keep (pend keep l) line (letters CommaWord) (at BodyNext 0) line (literal_item keep line l ∷ [])
  unfolding spelled either only pick differs under is_digit run
  behind_comma (Plain c) line = behind Body c (keep c) line (letters CommaWord) refl
  behind_comma (Negated c) line = behind NotBody c (keep c) line (letters CommaWord) refl

same_line : (line : ℕ) → line + 0 ≡ line
same_line line = omega arith

module _ {keep : ℕ → ℕ} (adds : (q r : ℕ) → keep (10 * keep q + r) ≡ keep (10 * q + r)) where
  literal-leads : (l : Literal) (line : ℕ) → Leads keep (at BodyNext 0) line (literal_text l) (pend keep l) line []
  literal-leads (Plain c) line = number-leads adds BodyNext Body body-begins line line (same_line line) c
  literal-leads (Negated c) line =
      leads-join (not-word line) (number-leads adds (First NotBody) NotBody (first-begins NotBody) line line (same_line line) c)

  literals-lead :
      (ls : List Literal) (l : Literal) (line : ℕ)
      → Leads keep (pend keep l) line (flat_map comma_text ls ++ letters StopWord) (at AnyLine 0) line (map (literal_item keep line) (l ∷ ls))
  unfolding flat_map
  literals-lead [] l line = behind-stop l line
  literals-lead (m ∷ ms) l line =
      leads-text (append_assoc (comma_text m) (flat_map comma_text ms) (letters StopWord))
      (leads-join (leads-join (behind_comma l line) (literal-leads m line)) (literals-lead ms m line))

  body-leads :
      (h : ℕ) (ls : List Literal) (line : ℕ)
      → Leads keep (at (num Head h) (keep h)) line (body_text ls ++ letters StopWord) (at AnyLine 0) line (item line Head (keep h) ∷ map (literal_item keep line) ls)
  body-leads h [] line = behind-head h (keep h) line
  body-leads h (l ∷ ls) line =
      leads-text (append_assoc (letters IfWord ++ literal_text l) (flat_map comma_text ls) (letters StopWord))
      (leads-join (leads-join (behind_if h (keep h) line) (literal-leads l line)) (literals-lead ls l line))

  rule-leads : (r : RuleLine) (line : ℕ) → Leads keep (at AnyLine 0) line (rule_text r) (at AnyLine 0) (line + 1) (rule_items keep (line + 1) r)
  rule-leads r line =
      leads-text (append_assoc (decimal r.head) (body_text r.body) (letters StopWord))
      (leads-join (number-leads adds AnyLine Head any-begins line (line + 1) refl r.head) (body-leads r.head r.body (line + 1)))

  rules_lead : (rs : List RuleLine) (line : ℕ) → Leads keep (at AnyLine 0) line (flat_map rule_text rs) (at AnyLine 0) (line + length rs) (rules_items keep line rs)
  unfolding flat_map
  rules_lead [] line = leads-to (leads_none (at AnyLine 0) line) refl (omega arith) refl
  rules_lead (r ∷ rs) line = leads-to (leads-join (rule-leads r line) (rules_lead rs (line + 1))) refl (omega arith) refl

  ask-leads :
      (st : State) (q : Question) (line : ℕ) → Leads keep (at st 0) line (letters AskWord) (at (First Asker) 0) (line + 1) []
      → Leads keep (at st 0) line (ask_text q) (at AskLine 0) (line + 1) (ask_items keep (line + 1) q)
  ask-leads st q line w =
      let n = number-leads adds (First Asker) Asker (first-begins Asker) (line + 1) (line + 1) (same_line (line + 1)) q.worker in
      let c = number-leads adds (First Asked) Asked (first-begins Asked) (line + 1) (line + 1) (same_line (line + 1)) q.claim in
      leads-join (leads-join (leads-join (leads-join w n) (behind-asker q.worker (keep q.worker) (line + 1))) c)
      (behind-asked q.claim (keep q.claim) (line + 1))

  asks_lead : (qs : List Question) (line : ℕ) → Leads keep (at AskLine 0) line (flat_map ask_text qs) (at AskLine 0) (line + length qs) (asks_items keep line qs)
  unfolding flat_map
  asks_lead [] line = leads-to (leads_none (at AskLine 0) line) refl (omega arith) refl
  asks_lead (q ∷ qs) line = leads-to (leads-join (ask-leads AskLine q line (ask_more line)) (asks_lead qs (line + 1))) refl (omega arith) refl

  questions-lead :
      (qs : List Question) (line : ℕ)
      → Leads keep (at AnyLine 0) line (flat_map ask_text qs) (at (end_state qs) 0) (line + length qs) (asks_items keep line qs)
  unfolding flat_map
  questions-lead [] line = leads-to (leads_none (at AnyLine 0) line) refl (omega arith) refl
  questions-lead (q ∷ qs) line = leads-to (leads-join (ask-leads AnyLine q line (ask_any line)) (asks_lead qs (line + 1))) refl (omega arith) refl

  header-leads : (a t : ℕ) → Leads keep begin 0 (header_text a t) (at AnyLine 0) 1 (header_items keep a t)
  header-leads a t =
      let n = number-leads adds (First ClaimCount) ClaimCount (first-begins ClaimCount) 1 1 refl a in
      let w = number-leads adds (First WorkerCount) WorkerCount (first-begins WorkerCount) 1 1 refl t in
      leads-join (leads-join (leads-join (leads-join claims-word n) (behind-claims a (keep a) 1)) w) (behind-workers t (keep t) 1)

  pub text-leads : (l : Lines) → Leads keep begin 0 (text_of l) (at (end_state l.questions) 0) (line_count l) (items_in keep l)
  unfolding text_of
  text-leads l =
      leads-join (leads-join (header-leads l.claims l.workers) (rules_lead l.rules 1)) (questions-lead l.questions (1 + length l.rules))

pub text-items :
    (keep : ℕ → ℕ) → ((q r : ℕ) → keep (10 * keep q + r) ≡ keep (10 * q + r)) → (l : Lines)
    → items_of keep (text_of l) ≡ items_in keep l
unfolding items
text-items keep adds l = ap (items keep begin 0) (sym (append-nil (text_of l))) ∙ (text-leads adds l).numbers [] ∙ append-nil (items_in keep l)

pub text-fits : (l : Lines) (rest : List ℕ) → fits_from FirstLine 0 (text_of l ++ rest) ≡ fits_from (end_state l.questions) (line_count l) rest
text-fits l rest = (text-leads {keep = same} (λ q r. refl) l).fits rest
