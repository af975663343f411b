-- Row 15 along the bytes is row 15 of the lines that the text says. Assumes nothing.
--   sizes l         the counts of lines
--   numbers-check   the answer is that of the lines
--   numbers-tally   where it accepts, the tally is their counts
use Prim.Native.Nat.{ℕ, suc, ◌+◌, ◌<◌, ◌≤◌}
use mathlib.Core.List.{List, [], ◌∷◌, ◌++◌, map}
use mathlib.Core.Path.{◌≡◌, refl, sym, ◌∙◌, ap}
use mathlib.Core.Bool.{Bool, true, false, ◌||◌}
use native.Mathlib.Omega.{arith}
use native.Mathlib.Numerals.{add-one}
use borrow.Author.Tests.{ltb-true}
use lib.ListN.{length, get_or, take}
use Rattle.base.specs.Compare.{under, over, not_below}
use Rattle.base.proofs.Bools.{neither}
use Rattle.base.proofs.Compare.{over_yes, over_no, over_le}
use Rattle.job.specs.Rows.{◌⨾◌, row, scan}
use Rattle.job.specs.Job.{claim_of, body_count, ◌if◌, most_claims, most_rules, most_literals, most_workers, most_questions}
use Rattle.std.specs.Prelude.{Ok, Err}
use Rattle.job.specs.Check.{Check, Accepted}
use Rattle.lines.specs.Answer.{check_of}
use Rattle.job.specs.declared.Literal.{Literal}
use Rattle.job.specs.declared.Literal.TheVariants.{Plain, Negated}
use Rattle.job.specs.declared.Question.{Question}
use Rattle.job.proofs.Rows.{both, row-no}
use Rattle.lines.specs.Lines.{RuleLine, Lines, text_of, as_rule, typed}
use Rattle.lines.specs.Checks.{check_first, check_rules, check_asks, check_numbers, bad_rule, bad_ask, some_not_below}
use Rattle.lines.specs.Numbering.{cap, no_tally, counted_all}
use Rattle.lines.specs.declared.Tally.{Tally}
use Rattle.lines.proofs.Capped.{cap-kept, cap_add, cap_over, cap-not_below, cap_under}
use Rattle.lines.proofs.Validity.{lines_fit}
use Rattle.lines.proofs.Along.{same, literal_item, rule_items, ask_items, rules_items, asks_items, header_items, items_in, text-items}
use Rattle.lines.proofs.Uncapped.{items_uncapped}
use Rattle.lines.proofs.Judged.{rows_of, counts, judged-check, judged-tally, rows_append, tallied, tally_eq, rule-counted, rules-counted, asks-counted, counts_append}

-- two checks, of which the second matters where the first accepts
row_go : (a b : Bool) (n p q : ℕ) (x y : Check) → a ≡ b → p ≡ q → (b ≡ false → x ≡ y) → row a n p ⨾ x ≡ row b n q ⨾ y
unfolding row ◌⨾◌
row_go a true n p q x y e f h = rw (e, f)
row_go a false n p q x y e f h = rw e (h refl)

then-go : (x y z : Check) → (Accepted ≡ x → y ≡ z) → x ⨾ y ≡ x ⨾ z
unfolding ◌⨾◌
then-go Accepted y z h = h refl
then-go (Err refusal) y z h = refl

-- the rows of one line are one row
rows-literal : (b c d : Bool) (line : ℕ) → row b 15 line ⨾ row (c || d) 15 line ≡ row (c || (b || d)) 15 line
unfolding row ◌⨾◌
rows-literal true true d line = refl
rows-literal true false d line = refl
rows-literal false c d line = refl

rows-rule : (a b c d : Bool) (line : ℕ) → row (a || c) 15 line ⨾ row (b || d) 15 line ≡ row (a || b || c || d) 15 line
unfolding row ◌⨾◌
rows-rule true b c d line = refl
rows-rule false true true d line = refl
rows-rule false true false d line = refl
rows-rule false false true d line = refl
rows-rule false false false d line = refl

rows_ask : (a b c : Bool) (line : ℕ) → row b 15 line ⨾ (row (a || c) 15 line ⨾ Accepted) ≡ row (a || b || c) 15 line
unfolding row ◌⨾◌
rows_ask true true c line = refl
rows_ask true false c line = refl
rows_ask false true c line = refl
rows_ask false false true line = refl
rows_ask false false false line = refl

over_lt : (n k : ℕ) → over n k ≡ true → k < n
unfolding over
over_lt n k e = ltb-true _ _ e

module _ (a w : ℕ) (most : a ≤ 65536) where
  literal-row :
      (m : Literal) (ms : List Literal) (line i n : ℕ)
      → rows_of (tallied a w i n 0) (map (literal_item cap line) (m ∷ ms)) ≡ row (over (n + 1) most_literals || not_below (cap (claim_of m)) a) 15 line ⨾ rows_of (tallied a w i (n + 1) 0) (map (literal_item cap line) ms)
  literal-row (Plain c) ms line i n = refl
  literal-row (Negated c) ms line i n = refl

  literals-step :
      (m : Literal) (ms : List Literal) (line i n : ℕ) (b : Bool) → over (n + 1) most_literals ≡ b
      → (n + 1 ≤ most_literals → rows_of (tallied a w i (n + 1) 0) (map (literal_item cap line) ms) ≡ row (over (n + 1 + length ms) most_literals || some_not_below a ms) 15 line)
      → row (b || not_below (cap (claim_of m)) a) 15 line ⨾ rows_of (tallied a w i (n + 1) 0) (map (literal_item cap line) ms) ≡ row (over (n + length (m ∷ ms)) most_literals || (not_below (claim_of m) a || some_not_below a ms)) 15 line
  unfolding row ◌⨾◌
  literals-step m ms line i n true e again =
      let k = over_lt (n + 1) most_literals e in
      rw (over_yes (n + length (m ∷ ms)) most_literals (omega arith))
  literals-step m ms line i n false e again =
      let v : n + 1 + length ms ≡ n + length (m ∷ ms) = omega arith in
      rw (again (over_le (n + 1) most_literals e), cap-not_below (claim_of m) a most, v) (rows-literal (not_below (claim_of m) a) (over (n + length (m ∷ ms)) most_literals) (some_not_below a ms) line)

  literals-row : (ls : List Literal) (line i n : ℕ) → n ≤ most_literals → rows_of (tallied a w i n 0) (map (literal_item cap line) ls) ≡ row (over (n + length ls) most_literals || some_not_below a ls) 15 line
  unfolding some_not_below row
  literals-row [] line i n h = rw (over_no (n + 0) most_literals (omega arith))
  literals-row (m ∷ ms) line i n h = literal-row m ms line i n ∙ literals-step m ms line i n (over (n + 1) most_literals) refl (λ k. literals-row ms line i (n + 1) k)

  -- the rule k of rs, with i rules and n literals before rs
  abbrev bad_rule_from : ℕ → ℕ → List RuleLine → ℕ → Bool
  bad_rule_from i n rs k =
      over (i + suc k) most_rules
      || over (n + body_count (take (suc k) (map as_rule rs))) most_literals
      || not_below (get_or (map as_rule rs) k (0 if [])).head a
      || some_not_below a (get_or (map as_rule rs) k (0 if [])).body

  bad_here : (r : RuleLine) (rs : List RuleLine) (i n : ℕ) → (over (i + 1) most_rules || over (n + length r.body) most_literals || not_below r.head a || some_not_below a r.body) ≡ bad_rule_from i n (r ∷ rs) 0
  unfolding body_count
  bad_here r rs i n = let v : n + (length r.body + 0) ≡ n + length r.body = omega arith in rw v

  bad-later : (r : RuleLine) (rs : List RuleLine) (i n k : ℕ) → bad_rule_from i n (r ∷ rs) (suc k) ≡ bad_rule_from (i + 1) (n + length r.body) rs k
  unfolding body_count
  bad-later r rs i n k =
      let b = body_count (take (suc k) (map as_rule rs)) in
      let v : n + (length r.body + b) ≡ n + length r.body + b = omega arith in
      let u : i + suc (suc k) ≡ i + 1 + suc k = omega arith in
      rw (u, v)

  rule-row :
      (r : RuleLine) (line i n : ℕ) → n ≤ most_literals
      → rows_of (tallied a w i n 0) (rule_items cap line r) ≡ row (over (i + 1) most_rules || over (n + length r.body) most_literals || not_below r.head a || some_not_below a r.body) 15 line
  rule-row r line i n h =
      rw (literals-row r.body line (i + 1) n h, cap-not_below r.head a most)
      (rows-rule (over (i + 1) most_rules) (over (n + length r.body) most_literals) (not_below r.head a) (some_not_below a r.body) line)

  literals-most : (x z u : Bool) (n : ℕ) → (x || over n most_literals || z || u) ≡ false → n ≤ most_literals
  literals-most x z u n e = over_le n most_literals (neither x (over n most_literals) (neither (x || over n most_literals) z (neither (x || over n most_literals || z) u e).0).0).1

  rules-rows :
      (rs : List RuleLine) (line i n : ℕ) (bad : ℕ → Bool) (place : ℕ → ℕ) → n ≤ most_literals
      → ((k : ℕ) → bad k ≡ bad_rule_from i n rs k) → ((k : ℕ) → place k ≡ line + 1 + k)
      → rows_of (tallied a w i n 0) (rules_items cap line rs) ≡ scan bad (length rs) 15 place
  unfolding scan
  rules-rows [] line i n bad place h p q = refl
  rules-rows (r ∷ rs) line i n bad place h p q =
      let x = rows_of (tallied a w (i + 1) (n + length r.body) 0) (rules_items cap (line + 1) rs) in
      let u : line + 1 ≡ place 0 = omega (arith, q 0) in
      rows_append (rule_items cap (line + 1) r) (rules_items cap (line + 1) rs) (tallied a w i n 0)
      ∙ rw (rule-row r (line + 1) i n h, rule-counted cap a w r (line + 1) i n 0)
      (row_go _ (bad 0) 15 (line + 1) (place 0) x _ (bad_here r rs i n ∙ sym (p 0)) u
      (λ e.
      rules-rows rs (line + 1) (i + 1) (n + length r.body) (λ k. bad (suc k)) (λ k. place (suc k))
      (literals-most (over (i + 1) most_rules) (not_below r.head a) (some_not_below a r.body) (n + length r.body) (bad_here r rs i n ∙ sym (p 0) ∙ e))
      (λ k. p (suc k) ∙ bad-later r rs i n k)
      (λ k. omega (arith, q (suc k)))))

-- the questions
module _ (a w m n : ℕ) (most_a : a ≤ 65536) (most_w : w ≤ 65536) where
  abbrev bad_ask_from : ℕ → List Question → ℕ → Bool
  bad_ask_from j qs k =
      over (j + suc k) most_questions
      || not_below (get_or qs k (record { worker = 0; claim = 0 })).worker w
      || not_below (get_or qs k (record { worker = 0; claim = 0 })).claim a

  ask-row : (q : Question) (line j : ℕ) → rows_of (tallied a w m n j) (ask_items cap line q) ≡ row (over (j + 1) most_questions || not_below q.worker w || not_below q.claim a) 15 line
  ask-row q line j =
      rw (cap-not_below q.worker w most_w, cap-not_below q.claim a most_a) (rows_ask (over (j + 1) most_questions) (not_below q.worker w) (not_below q.claim a) line)

  asks-rows :
      (qs : List Question) (line j : ℕ) (bad : ℕ → Bool) (place : ℕ → ℕ)
      → ((k : ℕ) → bad k ≡ bad_ask_from j qs k) → ((k : ℕ) → place k ≡ line + 1 + k)
      → rows_of (tallied a w m n j) (asks_items cap line qs) ≡ scan bad (length qs) 15 place
  unfolding scan
  asks-rows [] line j bad place p q = refl
  asks-rows (x ∷ qs) line j bad place p q =
      let u : line + 1 ≡ place 0 = omega (arith, q 0) in
      rows_append (ask_items cap (line + 1) x) (asks_items cap (line + 1) qs) (tallied a w m n j)
      ∙ rw (ask-row x (line + 1) j)
      (row_go _ (bad 0) 15 (line + 1) (place 0) (rows_of (tallied a w m n (j + 1)) (asks_items cap (line + 1) qs)) _ (sym (p 0)) u
      (λ e.
      asks-rows qs (line + 1) (j + 1) (λ k. bad (suc k)) (λ k. place (suc k))
      (λ k. let v : j + suc (suc k) ≡ j + 1 + suc k = omega arith in p (suc k) ∙ rw v)
      (λ k. omega (arith, q (suc k)))))

-- the whole row
first-row : (x y : Bool) → row (x || y) 15 1 ⨾ Accepted ≡ row x 15 1 ⨾ (row y 15 1 ⨾ Accepted)
unfolding row ◌⨾◌
first-row true y = refl
first-row false y = refl

first_rows : (l : Lines) → rows_of no_tally (header_items cap l.claims l.workers) ≡ check_first l
unfolding check_first
first_rows l =
    rw (cap_over l.claims most_claims (omega arith), cap_under l.workers, cap_over l.workers most_workers (omega arith))
    (ap (λ (c : Check). row (over l.claims most_claims) 15 1 ⨾ c) (first-row (under l.workers 1) (over l.workers most_workers)))

module _ (l : Lines) where
  rules-check : l.claims ≤ most_claims → rows_of (tallied l.claims l.workers 0 0 0) (rules_items cap 1 l.rules) ≡ check_rules l
  unfolding check_rules
  rules-check h =
      rules-rows l.claims l.workers (omega arith) l.rules 1 0 0 (bad_rule l) (λ i. 2 + i) (omega arith)
      (λ k.
      let v : 0 + suc k ≡ k + 1 = omega arith in
      let u : 0 + body_count (take (suc k) (typed l)) ≡ body_count (take (suc k) (typed l)) = omega arith in
      rw (u, v, add-one k)) (λ k. omega arith)

  asks-check : (m n : ℕ) → l.claims ≤ most_claims → l.workers ≤ most_workers → rows_of (tallied l.claims l.workers m n 0) (asks_items cap (1 + length l.rules) l.questions) ≡ check_asks l
  unfolding check_asks
  asks-check m n h k =
      asks-rows l.claims l.workers m n (omega arith) (omega arith) l.questions (1 + length l.rules) 0 (bad_ask l) (λ q. 2 + length l.rules + q)
      (λ j. let v : 0 + suc j ≡ j + 1 = omega arith in rw v) (λ j. omega arith)

  rest-check : l.claims ≤ most_claims → l.workers ≤ most_workers → rows_of (tallied l.claims l.workers 0 0 0) (rules_items cap 1 l.rules ++ asks_items cap (1 + length l.rules) l.questions) ≡ check_rules l ⨾ check_asks l
  rest-check h k =
      rows_append (rules_items cap 1 l.rules) (asks_items cap (1 + length l.rules) l.questions) (tallied l.claims l.workers 0 0 0)
      ∙ rw (rules-check h, rules-counted cap l.claims l.workers l.rules 1 0 0 0)
      (ap (λ (c : Check). check_rules l ⨾ c) (asks-check (0 + length l.rules) (0 + body_count (typed l)) h k))

  kept-check : Accepted ≡ check_first l → rows_of (tallied (cap l.claims) (cap l.workers) 0 0 0) (rules_items cap 1 l.rules ++ asks_items cap (1 + length l.rules) l.questions) ≡ check_rules l ⨾ check_asks l
  unfolding check_first
  kept-check e =
      let p = both _ _ e in
      let q = both _ _ (both _ _ p.1).1 in
      let h = over_le l.claims most_claims (row-no _ _ _ p.0) in
      let k = over_le l.workers most_workers (row-no _ _ _ q.0) in
      let rest = rules_items cap 1 l.rules ++ asks_items cap (1 + length l.rules) l.questions in
      ap (λ (a : ℕ). rows_of (tallied a (cap l.workers) 0 0 0) rest) (sym (cap-kept l.claims (omega arith)))
      ∙ ap (λ (w : ℕ). rows_of (tallied l.claims w 0 0 0) rest) (sym (cap-kept l.workers (omega arith)))
      ∙ rest-check h k

  numbers_rows : rows_of no_tally (items_in cap l) ≡ check_numbers l
  unfolding check_numbers
  numbers_rows =
      let rest = rules_items cap 1 l.rules ++ asks_items cap (1 + length l.rules) l.questions in
      rows_append (header_items cap l.claims l.workers) rest no_tally
      ∙ ap (λ (c : Check). c ⨾ rows_of (tallied (cap l.claims) (cap l.workers) 0 0 0) rest) (first_rows l)
      ∙ then-go (check_first l) _ (check_rules l ⨾ check_asks l) kept-check

abbrev pub sizes : Lines → Tally
sizes l = tallied l.claims l.workers (length l.rules) (body_count (typed l)) (length l.questions)

lines-counted : (l : Lines) → counts no_tally (items_in same l) ≡ sizes l
lines-counted l =
    let a = l.claims in
    let w = l.workers in
    let m = length l.rules in
    let n = body_count (typed l) in
    let asks = asks_items same (1 + length l.rules) l.questions in
    counts_append (rules_items same 1 l.rules) asks (tallied a w 0 0 0)
    ∙ ap (λ (t : Tally). counts t asks) (rules-counted same a w l.rules 1 0 0 0)
    ∙ asks-counted same a w l.questions (1 + length l.rules) (0 + m) (0 + n) 0
    ∙ tally_eq (omega arith) (omega arith) (omega arith)

pub numbers-check : (l : Lines) → check_of (counted_all (text_of l)) ≡ check_numbers l
unfolding counted_all
numbers-check l = rw (text-items cap cap_add l) (judged-check (items_in cap l) no_tally ∙ numbers_rows l)

pub numbers-tally : (l : Lines) → Accepted ≡ check_numbers l → counted_all (text_of l) ≡ Ok (sizes l)
unfolding counted_all
numbers-tally l e =
    rw (text-items cap cap_add l)
    (judged-tally (items_in cap l) no_tally (e ∙ sym (numbers_rows l)) ∙ ap Ok (ap (counts no_tally) (items_uncapped l (lines_fit l e)) ∙ lines-counted l))
