-- Rows 15 and 16 accept exactly the lines that are within the limits and have room. Assumes nothing.
--   accepted-within                   accepted lines are within the limits
--   rule-good, ask-good, first_good   row 15 finds no fault in lines that are: a rule line, a question line, the first line
--   within-numbers                    row 15 accepts them
--   lines-within                      both, with row 16's room
use Prim.Native.Nat.{ℕ, zero, suc, ◌+◌, ◌<◌, ◌≤◌}
use mathlib.Core.List.Memᴰ
use mathlib.Core.List.{List, [], ◌∷◌}
use mathlib.Core.Path.{◌≡◌, refl, ap}
use mathlib.Core.Logic.{◌↔◌}
use mathlib.Core.Bool.{false}
use native.Mathlib.Omega.{arith}
use lib.ListN.{length, get_or, take}
use Rattle.base.proofs.Bools.{or_no}
use Rattle.base.proofs.Compare.{over_no, under-no, under_le, not_below-no}
use Rattle.job.proofs.Rows.{pass, join, both, row-no, scan_none}
use Rattle.job.specs.Job.{claim_of, Rule, body_count, ◌if◌, most_rules, most_literals, most_questions}
use Rattle.job.specs.Encoding.{◌∈◌}
use Rattle.job.specs.declared.Literal.{Literal}
use Rattle.job.specs.Check.{Accepted}
use Rattle.lines.specs.Lines.{Lines, as_rule, typed, job_size}
use Rattle.lines.specs.Checks.{check_first, check_rules, check_asks, check_room, check_numbers, check_lines, rule_in, bad_rule, ask_in, bad_ask, some_not_below}
use Rattle.lines.specs.Laws.{InLimits}
use Rattle.lines.proofs.Validity.{LinesFit, lines_fit, literal-below, typed_size, rules-most, asks_most, fits_at, rule_of, ask_of}

-- accepted lines are within the limits
pub accepted-within : (l : Lines) → LinesFit l → InLimits l
accepted-within l f =
    let m = rules-most l (length (typed l)) refl (fits_at l f) in
    record {
      claims_most = f.claims_most;
      workers_least = f.workers_least;
      workers_most = f.workers_most;
      rules_most = omega (arith, typed_size l, m.0);
      literals_most = m.1;
      questions_most = asks_most l (length l.questions) refl f.ask;
      heads = λ r i. (rule_of l f (as_rule r) (Memᴰ.map as_rule i)).0;
      literals = λ r i. literal-below l.claims r.body (rule_of l f (as_rule r) (Memᴰ.map as_rule i)).1;
      askers = λ q i. (ask_of l f q i).0;
      asked = λ q i. (ask_of l f q i).1;
    }

-- what stands at a place is a member
at_in : {A : Type 0} (d : A) (xs : List A) (i : ℕ) → i < length xs → get_or xs i d ∈ xs
at_in d [] i k = absurd (omega arith)
at_in d (x ∷ xs) zero k = Memᴰ.head refl
at_in d (x ∷ xs) (suc i) k = Memᴰ.tail (at_in d xs i (omega arith))

-- the first rules have no more literals than all
bodies_first : (n : ℕ) (rs : List Rule) → body_count (take n rs) ≤ body_count rs
unfolding body_count
bodies_first zero rs = omega arith
bodies_first (suc n) [] = omega arith
bodies_first (suc n) (r ∷ rs) = omega (arith, bodies_first n rs)

all-below : (a : ℕ) (ms : List Literal) → ((m : Literal) → m ∈ ms → claim_of m < a) → some_not_below a ms ≡ false
unfolding some_not_below
all-below a [] h = refl
all-below a (x ∷ xs) h = or_no _ _ (not_below-no _ _ (h x (Memᴰ.head refl))) (all-below a xs (λ m i. h m (Memᴰ.tail i)))

module _ (l : Lines) (w : InLimits l) where
  pub rule-good : (i : ℕ) → i < length l.rules → bad_rule l i ≡ false
  rule-good i k =
      let o = Memᴰ.of_map as_rule l.rules (at_in (0 if []) (typed l) i (omega (arith, typed_size l))) in
      let r = o.0 in
      let h : r.head ≡ (rule_in l i).head = ap (λ (x : Rule). x.head) o.2 in
      let b : r.body ≡ (rule_in l i).body = ap (λ (x : Rule). x.body) o.2 in
      let most : i + 1 ≤ most_rules = omega (arith, w.rules_most) in
      let few : body_count (take (i + 1) (typed l)) ≤ most_literals = omega (arith, bodies_first (i + 1) (typed l), w.literals_most) in
      let head : (rule_in l i).head < l.claims = omega (arith, h, w.heads r o.1) in
      let body : some_not_below l.claims (rule_in l i).body ≡ false = rw (← b) (all-below l.claims r.body (w.literals r o.1)) in
      or_no _ _ (or_no _ _ (or_no _ _ (over_no _ _ most) (over_no _ _ few)) (not_below-no _ _ head)) body

  pub ask-good : (q : ℕ) → q < length l.questions → bad_ask l q ≡ false
  ask-good q k =
      let m = at_in (record { worker = 0; claim = 0 }) l.questions q k in
      let most : q + 1 ≤ most_questions = omega (arith, w.questions_most) in
      or_no _ _ (or_no _ _ (over_no _ _ most) (not_below-no _ _ (w.askers (ask_in l q) m))) (not_below-no _ _ (w.asked (ask_in l q) m))

  pub first_good : Accepted ≡ check_first l
  unfolding check_first
  first_good = pass _ _ _ _ (over_no _ _ w.claims_most) (pass _ _ _ _ (under-no _ _ w.workers_least) (pass _ _ _ _ (over_no _ _ w.workers_most) refl))

  pub within-numbers : Accepted ≡ check_numbers l
  unfolding check_numbers check_rules check_asks
  within-numbers = join _ _ first_good (join _ _ (scan_none (bad_rule l) _ _ _ rule-good) (scan_none (bad_ask l) _ _ _ ask-good))

pub lines-within : (l : Lines) (room : ℕ) → (Accepted ≡ check_lines l room) ↔ (InLimits l × (job_size l ≤ room))
unfolding check_lines check_room
lines-within l room = (
  λ e. let p = both (check_numbers l) (check_room l room) e in
      (accepted-within l (lines_fit l p.0), under_le _ _ (row-no _ _ _ (both _ _ p.1).0)),
  λ q. join (check_numbers l) (check_room l room) (within-numbers l q.0) (pass _ _ _ _ (under-no _ _ q.1) refl),
)
