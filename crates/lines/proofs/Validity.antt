-- The job of lines that row 15 accepts is valid, and the check of a job takes it. Assumes nothing.
--   RuleFits l i, AskFits l q   what an accepted rule line has, and a question line
--   LinesFit l                  what accepted lines have; lines_fit
--   rules-most, asks_most       their counts are within the limits
--   rule_of, ask_of             what each rule and each question among them has; literal-below   and each literal
--   lines-below, lines-valid    their heads are below A; their job is valid
--   job-valid, job-taken        the same from the answer of row 15; rows 1 to 8 accept the job's bytes
use Prim.Native.Nat.{ℕ, zero, suc, ◌+◌, ◌<◌, ◌≤◌}
use mathlib.Core.List.Memᴰ
use mathlib.Core.List.{List, [], ◌∷◌, map}
use mathlib.Core.Path.{◌≡◌, refl, sym, ◌∙◌, ap}
use mathlib.Core.Logic.{⊎_elim}
use mathlib.Core.Bool.{true, false, ◌||◌, true≢false}
use native.Mathlib.Omega.{arith}
use lib.ListN.{length, get_or, take, length-map}
use lib.Seq.{take_all}
use Rattle.base.specs.Compare.{over, not_below}
use Rattle.base.proofs.Bools.{neither}
use Rattle.base.proofs.Compare.{over_le, under_le, not_below_lt}
use Rattle.job.proofs.Rows.{both, row-no, scan_all}
use Rattle.job.proofs.Accepted.{accepted}
use Rattle.job.proofs.Encoding.{encoded_well_formed}
use Rattle.job.specs.Checks.{check_job}
use Rattle.job.specs.Job.{claim_of, Rule, body_count, ◌if◌, most_claims, most_rules, most_literals, most_workers, most_questions}
use Rattle.job.specs.Encoding.{Valid, encode, ◌∈◌}
use Rattle.job.specs.declared.Literal.{Literal}
use Rattle.job.specs.declared.Question.{Question}
use Rattle.job.specs.Check.{Accepted}
use Rattle.lines.specs.Lines.{RuleLine, Lines, as_rule, typed, job_from}
use Rattle.lines.specs.Checks.{check_first, check_rules, check_asks, check_numbers, rule_in, bad_rule, ask_in, bad_ask, some_not_below}
use Rattle.lines.proofs.Sorted.{Below, sorted-length, sorted-bodies, sorted-rise, sorted_in}

-- what a rule line and a question line have
pub record RuleFits (l : Lines) (i : ℕ) : Type 0 where
  pub rules_most : i + 1 ≤ most_rules
  pub literals_most : body_count (take (i + 1) (typed l)) ≤ most_literals
  pub head : (rule_in l i).head < l.claims
  pub literals : some_not_below l.claims (rule_in l i).body ≡ false

pub record AskFits (l : Lines) (q : ℕ) : Type 0 where
  pub questions_most : q + 1 ≤ most_questions
  pub asker : (ask_in l q).worker < l.workers
  pub asked : (ask_in l q).claim < l.claims

pub record LinesFit (l : Lines) : Type 0 where
  pub claims_most : l.claims ≤ most_claims
  pub workers_least : 1 ≤ l.workers
  pub workers_most : l.workers ≤ most_workers
  pub rule : (i : ℕ) → i < length l.rules → RuleFits l i
  pub ask : (q : ℕ) → q < length l.questions → AskFits l q

pub rule_fits : (l : Lines) (i : ℕ) → bad_rule l i ≡ false → RuleFits l i
rule_fits l i e =
    let a = over (i + 1) most_rules in
    let b = over (body_count (take (i + 1) (typed l))) most_literals in
    let c = not_below (rule_in l i).head l.claims in
    let p = neither (a || b || c) (some_not_below l.claims (rule_in l i).body) e in
    let q = neither (a || b) c p.0 in
    let r = neither a b q.0 in
    record { rules_most = over_le _ _ r.0; literals_most = over_le _ _ r.1; head = not_below_lt _ _ q.1; literals = p.1 }

pub ask-fits : (l : Lines) (q : ℕ) → bad_ask l q ≡ false → AskFits l q
ask-fits l q e =
    let a = over (q + 1) most_questions in
    let b = not_below (ask_in l q).worker l.workers in
    let p = neither (a || b) (not_below (ask_in l q).claim l.claims) e in
    let r = neither a b p.0 in
    record { questions_most = over_le _ _ r.0; asker = not_below_lt _ _ r.1; asked = not_below_lt _ _ p.1 }

pub lines_fit : (l : Lines) → Accepted ≡ check_numbers l → LinesFit l
unfolding check_numbers check_first check_rules check_asks
lines_fit l e =
    let p = both _ _ e in
    let f = both _ _ p.0 in
    let g = both _ _ f.1 in
    let h = both _ _ g.1 in
    let r = both _ _ p.1 in
    record {
      claims_most = over_le _ _ (row-no _ _ _ f.0);
      workers_least = under_le _ _ (row-no _ _ _ g.0);
      workers_most = over_le _ _ (row-no _ _ _ h.0);
      rule = λ i k. rule_fits l i (scan_all (bad_rule l) _ _ _ r.0 i k);
      ask = λ q k. ask-fits l q (scan_all (bad_ask l) _ _ _ r.1 q k);
    }

-- a member stands at a place
record Stands {A : Type 0} (d : A) (xs : List A) (x : A) : Type 0 where
  at : ℕ
  low : at < length xs
  here : get_or xs at d ≡ x

mem-stands : {A : Type 0} (d x : A) (xs : List A) → x ∈ xs → Stands d xs x
mem-stands d x xs (Memᴰ.head e) = record { at = 0; low = omega arith; here = sym e }
mem-stands d x xs (Memᴰ.tail {xs = ys} m) =
    let s = mem-stands d x ys m in
    record { at = suc s.at; low = omega arith; here = s.here }

below_of : (a : ℕ) (d : Rule) (rs : List Rule) → ((i : ℕ) → i < length rs → (get_or rs i d).head < a) → Below a rs
below_of a d [] h = tt
below_of a d (r ∷ rs) h = (h 0 (omega arith), below_of a d rs (λ i k. h (suc i) (omega arith)))

pub literal-below : (a : ℕ) (ms : List Literal) → some_not_below a ms ≡ false → (m : Literal) → m ∈ ms → claim_of m < a
unfolding some_not_below
literal-below a [] e m i = absurd (Memᴰ.not-nil i)
literal-below a (x ∷ xs) e m i =
    let p = neither (not_below (claim_of x) a) (some_not_below a xs) e in
    ⊎_elim (λ q. rw q (not_below_lt _ _ p.0)) (λ t. literal-below a xs p.1 m t) (Memᴰ.cases_cons i)

pub typed_size : (l : Lines) → length (typed l) ≡ length l.rules
typed_size l = length-map l.rules as_rule

-- no typed rule is a missing record
typed_present : (rs : List RuleLine) (r : Rule) → r ∈ map as_rule rs → r.missing ≡ true → r.body ≡ []
typed_present [] r m e = absurd (Memᴰ.not-nil m)
typed_present (x ∷ xs) r m e =
    ⊎_elim (λ q. absurd (true≢false (sym e ∙ ap (λ (y : Rule). y.missing) q))) (λ t. typed_present xs r t e) (Memᴰ.cases_cons m)

pub rules-most : (l : Lines) (n : ℕ) → length (typed l) ≡ n → ((i : ℕ) → i < n → RuleFits l i) → (n ≤ most_rules) × (body_count (typed l) ≤ most_literals)
unfolding body_count
rules-most l zero e h = (omega arith, rw (none_of (typed l) e) (omega arith))
  where
    none_of : (rs : List Rule) → length rs ≡ 0 → rs ≡ []
    none_of [] q = refl
    none_of (x ∷ xs) q = absurd (omega arith)
rules-most l (suc n) e h =
    let f = h n (omega arith) in
    let q : take (n + 1) (typed l) ≡ typed l = take_all (n + 1) (typed l) (omega arith) in
    (omega arith, rw q at f.literals_most)

pub asks_most : (l : Lines) (n : ℕ) → length l.questions ≡ n → ((q : ℕ) → q < n → AskFits l q) → n ≤ most_questions
asks_most l zero e h = omega arith
asks_most l (suc n) e h = let f = h n (omega arith) in omega arith

module _ (l : Lines) (f : LinesFit l) where
  pub fits_at : (i : ℕ) → i < length (typed l) → RuleFits l i
  fits_at i k = f.rule i (omega (arith, typed_size l))

  pub rule_of : (r : Rule) → r ∈ typed l → (r.head < l.claims) × (some_not_below l.claims r.body ≡ false)
  rule_of r m =
      let s = mem-stands (0 if []) r (typed l) m in
      let g = fits_at s.at s.low in
      (rw s.here at g.head, rw s.here at g.literals)

  pub ask_of : (q : Question) → q ∈ l.questions → (q.worker < l.workers) × (q.claim < l.claims)
  ask_of q m =
      let s = mem-stands (record { worker = 0; claim = 0 }) q l.questions m in
      let g = f.ask s.at s.low in
      (rw s.here at g.asker, rw s.here at g.asked)

  pub lines-below : Below l.claims (typed l)
  lines-below = below_of l.claims (0 if []) (typed l) (λ i k. (fits_at i k).head)

  pub lines-valid : Valid (job_from l)
  lines-valid =
      let b = lines-below in
      let m = rules-most l (length (typed l)) refl fits_at in
      record {
        claims_most = f.claims_most;
        rules_most = omega (arith, sorted-length l.claims (typed l) b, m.0);
        literals_most = omega (arith, sorted-bodies l.claims (typed l) b, m.1);
        workers_least = f.workers_least;
        workers_most = f.workers_most;
        questions_most = asks_most l (length l.questions) refl f.ask;
        heads_rise = sorted-rise l.claims (typed l);
        heads = λ r i. (rule_of r (sorted_in _ _ r i)).0;
        missing = λ r i. typed_present l.rules r (sorted_in _ _ r i);
        literals = λ r i. literal-below l.claims r.body (rule_of r (sorted_in _ _ r i)).1;
        askers = λ q i. (ask_of q i).0;
        asked = λ q i. (ask_of q i).1;
      }

-- the job of accepted lines is valid, and is accepted
pub job-valid : (l : Lines) → Accepted ≡ check_numbers l → Valid (job_from l)
job-valid l e = lines-valid l (lines_fit l e)

pub job-taken : (l : Lines) → Accepted ≡ check_numbers l → Accepted ≡ check_job (encode (job_from l))
job-taken l e = accepted (encode (job_from l)) (encoded_well_formed (job_from l) (job-valid l e))
