-- Row 15 of numbers in turn, as rows and a count. Assumes nothing.
--   rows_of t xs                a row for each number of xs, with the tally so far
--   counts t xs                 the tally with the numbers xs
--   judged-check, judged-tally  `judged` is these two
--   rows_append, counts_append  of two lists
--   rule-counted, rules-counted, asks-counted   of the numbers of lines
use Prim.Native.Nat.{ℕ, ◌+◌}
use mathlib.Core.List.{List, [], ◌∷◌, ◌++◌, map}
use mathlib.Core.Path.{◌≡◌, refl, sym, ◌∙◌, ap}
use mathlib.Core.Bool.{Bool, true, false}
use native.Mathlib.Omega.{arith}
use lib.ListN.{length}
use Rattle.base.specs.Choose.{pick}
use Rattle.base.proofs.Choose.{pick-false}
use Rattle.job.specs.Rows.{◌⨾◌, row}
use Rattle.job.specs.Job.{body_count}
use Rattle.std.specs.Prelude.{Ok, Err, Result}
use Rattle.job.specs.Check.{Check, Accepted}
use Rattle.job.specs.declared.Refusal.{Refusal}
use Rattle.lines.specs.Answer.{check_of}
use Rattle.job.specs.declared.Literal.{Literal}
use Rattle.job.specs.declared.Literal.TheVariants.{Plain, Negated}
use Rattle.job.specs.declared.Question.{Question}
use Rattle.job.proofs.Rows.{both, row-no}
use Rattle.lines.specs.Lines.{RuleLine, as_rule}
use Rattle.lines.specs.Numbering.{Item, counted_number, faulty_number, judged}
use Rattle.lines.specs.declared.Tally.{Tally}
use Rattle.lines.proofs.Along.{literal_item, rule_items, rules_items, asks_items}

abbrev pub with_item : Tally → Item → Tally
with_item t x = counted_number t x.slot x.value

abbrev pub faulty : Tally → Item → Bool
faulty t x = faulty_number (with_item t x) x.slot x.value

abbrev pub rows_of : Tally → List Item → Check
rows_of t [] = Accepted
rows_of t (x ∷ xs) = row (faulty t x) 15 x.line ⨾ rows_of (with_item t x) xs

abbrev pub counts : Tally → List Item → Tally
counts t [] = t
counts t (x ∷ xs) = counts (with_item t x) xs

picked-check : (b : Bool) (line : ℕ) (r : Result Tally Refusal) {c : Check} → check_of r ≡ c → check_of (pick b (Err (record { number = 15; place = line })) r) ≡ row b 15 line ⨾ c
unfolding pick row ◌⨾◌
picked-check true line r e = refl
picked-check false line r e = e

pub judged-check : (xs : List Item) (t : Tally) → check_of (judged t xs) ≡ rows_of t xs
unfolding judged
judged-check [] t = refl
judged-check (x ∷ xs) t = picked-check (faulty t x) x.line (judged (with_item t x) xs) (judged-check xs (with_item t x))

pub judged-tally : (xs : List Item) (t : Tally) → Accepted ≡ rows_of t xs → judged t xs ≡ Ok (counts t xs)
unfolding judged
judged-tally [] t e = refl
judged-tally (x ∷ xs) t e =
    let p = both (row (faulty t x) 15 x.line) (rows_of (with_item t x) xs) e in
    pick-false (faulty t x) _ _ (row-no (faulty t x) 15 x.line p.0) ∙ judged-tally xs (with_item t x) p.1

pub then-assoc : (x y z : Check) → (x ⨾ y) ⨾ z ≡ x ⨾ (y ⨾ z)
unfolding ◌⨾◌
then-assoc Accepted y z = refl
then-assoc (Err refusal) y z = refl

pub rows_append : (xs ys : List Item) (t : Tally) → rows_of t (xs ++ ys) ≡ rows_of t xs ⨾ rows_of (counts t xs) ys
unfolding ◌⨾◌
rows_append [] ys t = refl
rows_append (x ∷ xs) ys t =
    ap (λ (c : Check). row (faulty t x) 15 x.line ⨾ c) (rows_append xs ys (with_item t x))
    ∙ sym (then-assoc (row (faulty t x) 15 x.line) (rows_of (with_item t x) xs) (rows_of (counts (with_item t x) xs) ys))

pub counts_append : (xs ys : List Item) (t : Tally) → counts t (xs ++ ys) ≡ counts (counts t xs) ys
counts_append [] ys t = refl
counts_append (x ∷ xs) ys t = counts_append xs ys (with_item t x)

-- what lines count
abbrev pub tallied : ℕ → ℕ → ℕ → ℕ → ℕ → Tally
tallied a w m n q = record { claims = a; workers = w; rules = m; literals = n; questions = q }

pub tally_eq : {a w m m' n n' q q' : ℕ} → m ≡ m' → n ≡ n' → q ≡ q' → tallied a w m n q ≡ tallied a w m' n' q'
tally_eq p q r = cc

module _ (keep : ℕ → ℕ) (a w : ℕ) where
  literals-counted : (ls : List Literal) (line m n q : ℕ) → counts (tallied a w m n q) (map (literal_item keep line) ls) ≡ tallied a w m (n + length ls) q
  literals-counted [] line m n q = tally_eq refl (omega arith) refl
  literals-counted (Plain c ∷ ls) line m n q = literals-counted ls line m (n + 1) q ∙ tally_eq refl (omega arith) refl
  literals-counted (Negated c ∷ ls) line m n q = literals-counted ls line m (n + 1) q ∙ tally_eq refl (omega arith) refl

  pub rule-counted : (r : RuleLine) (line m n q : ℕ) → counts (tallied a w m n q) (rule_items keep line r) ≡ tallied a w (m + 1) (n + length r.body) q
  rule-counted r line m n q = literals-counted r.body line (m + 1) n q

  pub rules-counted : (rs : List RuleLine) (line m n q : ℕ) → counts (tallied a w m n q) (rules_items keep line rs) ≡ tallied a w (m + length rs) (n + body_count (map as_rule rs)) q
  unfolding body_count
  rules-counted [] line m n q = tally_eq (omega arith) (omega arith) refl
  rules-counted (r ∷ rs) line m n q =
      counts_append (rule_items keep (line + 1) r) (rules_items keep (line + 1) rs) (tallied a w m n q)
      ∙ ap (λ (t : Tally). counts t (rules_items keep (line + 1) rs)) (rule-counted r (line + 1) m n q)
      ∙ rules-counted rs (line + 1) (m + 1) (n + length r.body) q
      ∙ tally_eq (omega arith) (omega arith) refl

  pub asks-counted : (qs : List Question) (line m n q : ℕ) → counts (tallied a w m n q) (asks_items keep line qs) ≡ tallied a w m n (q + length qs)
  asks-counted [] line m n q = tally_eq refl refl (omega arith)
  asks-counted (x ∷ qs) line m n q = asks-counted qs (line + 1) m n (q + 1) ∙ tally_eq refl refl (omega arith)
