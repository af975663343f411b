-- Row 15's place is the first line that takes the text past the limits. Assumes nothing.
--   scan-stop             a scan that refuses stops at the first item at which its test holds
--   rule_same, ask_same   a line's test reads only the lines up to it
--   front-within          the first k lines are within the limits where none of them is at fault
--   past_at               the promise, from rows 15 and 16
--   past_one              there is one such line only
--   past_back             and where there is one, row 15 refuses there
use Prim.Native.Nat.{ℕ, zero, suc, ◌+◌, ◌-◌, ◌<◌, ◌≤◌}
use mathlib.Core.List.{List, []}
use mathlib.Core.Path.{◌≡◌, refl, sym, ◌∙◌, ap}
use mathlib.Core.Logic.{◌⊎◌, inl, inr, ⊎_elim}
use mathlib.Core.Bool.{Bool, true, false, ◌||◌, true≢false}
use native.Mathlib.Omega.{arith}
use lib.ListN.{length, get_or, take}
use lib.Seq.{get_or-take, take-take}
use Rattle.std.proofs.lemmas.List.{take-map, length-take}
use Rattle.base.specs.Compare.{over, not_below}
use Rattle.job.proofs.Rows.{both, join, row-no, scan_none, scan_all}
use Rattle.job.specs.Rows.{◌⨾◌, row, scan}
use Rattle.job.specs.Job.{Rule, body_count, ◌if◌, most_rules, most_literals, most_questions}
use Rattle.job.specs.declared.Question.{Question}
use Rattle.std.specs.Prelude.{Err}
use Rattle.job.specs.Check.{Check, Accepted, Refused}
use Rattle.lines.proofs.Refusals.{same-number, same-place}
use Rattle.lines.specs.Lines.{Lines, as_rule, typed}
use Rattle.lines.specs.Checks.{check_first, check_rules, check_asks, check_room, check_numbers, check_lines, rule_in, bad_rule, bad_ask, some_not_below}
use Rattle.lines.specs.Laws.{InLimits, front, Past}
use Rattle.lines.proofs.Validity.{lines_fit}
use Rattle.lines.proofs.Exactly.{accepted-within, rule-good, ask-good, first_good}

-- which of two checks refuses
part : (x later : Check) (n p : ℕ) → x ⨾ later ≡ Refused n p → (x ≡ Refused n p) ⊎ ((Accepted ≡ x) × (later ≡ Refused n p))
unfolding ◌⨾◌
part Accepted later n p e = inr (refl, e)
part (Err refusal) later n p e = inl e

not-both : (x : Check) (n p : ℕ) → Accepted ≡ x → x ≡ Refused n p → ⊥
not-both x n p a e = let z : ◌≡◌ {A = ℕ} 0 1 = cc in absurd (omega arith)

record Held (b : Bool) (m q n p : ℕ) : Type 0 where
  holds : b ≡ true
  number : n ≡ m
  place : p ≡ q

row-held : (b : Bool) (m q n p : ℕ) → row b m q ≡ Refused n p → Held b m q n p
unfolding row
row-held true m q n p e = record { holds = refl; number = sym (same-number e); place = sym (same-place e) }
row-held false m q n p e = absurd (not-both Accepted n p refl e)

-- a scan that refuses
record Stop (bad : ℕ → Bool) (n : ℕ) (place : ℕ → ℕ) (p : ℕ) : Type 0 where
  at : ℕ
  low : at < n
  is : p ≡ place at
  holds : bad at ≡ true
  none : (j : ℕ) → j < at → bad j ≡ false

none_more : (bad : ℕ → Bool) (i : ℕ) → bad 0 ≡ false → ((j : ℕ) → j < i → bad (suc j) ≡ false) → (j : ℕ) → j < suc i → bad j ≡ false
none_more bad i e h zero l = e
none_more bad i e h (suc j) l = h j (omega arith)

scan-stop : (bad : ℕ → Bool) (n number : ℕ) (place : ℕ → ℕ) (p : ℕ) → scan bad n number place ≡ Refused number p → Stop bad n place p
unfolding scan
scan-stop bad zero number place p e = absurd (not-both Accepted number p refl e)
scan-stop bad (suc n) number place p e =
    ⊎_elim
    (λ f. let h = row-held (bad 0) number (place 0) number p f in
    record { at = 0; low = omega arith; is = h.place; holds = h.holds; none = λ j l. absurd (omega arith) })
    (λ f. let s = scan-stop (λ k. bad (suc k)) n number (λ k. place (suc k)) p f.1 in
    record {
      at = suc s.at;
      low = omega (arith, s.low);
      is = s.is;
      holds = s.holds;
      none = none_more bad s.at (row-no (bad 0) number (place 0) f.0) s.none;
    })
    (part (row (bad 0) number (place 0)) (scan (λ k. bad (suc k)) n number (λ k. place (suc k))) number p e)

-- the first items of a list
taken-low : {A : Type 0} (n : ℕ) (xs : List A) (i : ℕ) → i < length (take n xs) → (i < n) × (i < length xs)
taken-low n xs i l = let e = length-take n xs in (omega (arith, e), omega (arith, e))

low-taken : {A : Type 0} (n : ℕ) (xs : List A) (i : ℕ) → i < n → i < length xs → i < length (take n xs)
low-taken n xs i l k = omega (arith, length-take n xs)

-- a line's test reads only the lines up to it
rule_same : (l : Lines) (k i : ℕ) → i < k - 1 → bad_rule (front k l) i ≡ bad_rule l i
rule_same l k i h =
    let t : typed (front k l) ≡ take (k - 1) (typed l) = sym (take-map as_rule (k - 1) l.rules) in
    let b : take (i + 1) (typed (front k l)) ≡ take (i + 1) (typed l) = ap (λ (x : List Rule). take (i + 1) x) t ∙ take-take (i + 1) (k - 1) (typed l) (omega arith) in
    let r : rule_in (front k l) i ≡ rule_in l i = ap (λ (x : List Rule). get_or x i (0 if [])) t ∙ get_or-take (k - 1) (typed l) i (0 if []) h in
    let a = l.claims in
    ap (λ (x : List Rule). over (i + 1) most_rules || over (body_count x) most_literals || not_below (rule_in (front k l) i).head a || some_not_below a (rule_in (front k l) i).body) b
    ∙ ap (λ (x : Rule). over (i + 1) most_rules || over (body_count (take (i + 1) (typed l))) most_literals || not_below x.head a || some_not_below a x.body) r

ask_same : (l : Lines) (k q : ℕ) → q < k - 1 - length l.rules → bad_ask (front k l) q ≡ bad_ask l q
ask_same l k q h =
    ap (λ (x : Question). over (q + 1) most_questions || not_below x.worker l.workers || not_below x.claim l.claims)
    (get_or-take (k - 1 - length l.rules) l.questions q (record { worker = 0; claim = 0 }) h)

module _ (l : Lines) where
  front-within : (k : ℕ) → Accepted ≡ check_first l → ((i : ℕ) → i < k - 1 → i < length l.rules → bad_rule l i ≡ false) → ((q : ℕ) → q < k - 1 - length l.rules → q < length l.questions → bad_ask l q ≡ false) → InLimits (front k l)
  unfolding check_numbers check_first check_rules check_asks
  front-within k first rules asks =
      let rule : (i : ℕ) → i < length (take (k - 1) l.rules) → bad_rule (front k l) i ≡ false = λ i h. let t = taken-low (k - 1) l.rules i h in rule_same l k i t.0 ∙ rules i t.0 t.1 in
      let n = k - 1 - length l.rules in
      let ask : (q : ℕ) → q < length (take n l.questions) → bad_ask (front k l) q ≡ false = λ q h. let t = taken-low n l.questions q h in ask_same l k q t.0 ∙ asks q t.0 t.1 in
      let all : Accepted ≡ check_numbers (front k l) = join _ _ first (join _ _ (scan_none (bad_rule (front k l)) _ _ _ rule) (scan_none (bad_ask (front k l)) _ _ _ ask)) in
      accepted-within (front k l) (lines_fit (front k l) all)

  one_of : (b : Bool) (later : Check) (k : ℕ) → (later ≡ Refused 15 k → k ≡ 1) → row b 15 1 ⨾ later ≡ Refused 15 k → k ≡ 1
  one_of b later k h e = ⊎_elim (λ f. (row-held b 15 1 15 k f).place) (λ f. h f.1) (part (row b 15 1) later 15 k e)

  first_past : (k : ℕ) → check_first l ≡ Refused 15 k → Past l k
  unfolding check_first
  first_past k e =
      let o : k ≡ 1 = one_of _ _ k (one_of _ _ k (one_of _ _ k (λ f. absurd (not-both Accepted 15 k refl f)))) e in
      record { before = inl o; here = λ w. not-both _ 15 k (first_good (front k l) w) e; line = omega arith }

  rules-past : (k : ℕ) → Accepted ≡ check_first l → check_rules l ≡ Refused 15 k → Past l k
  unfolding check_rules
  rules-past k first e =
      let s = scan-stop (bad_rule l) (length l.rules) 15 (λ i. 2 + i) k e in
      let i = s.at in
      let p : k ≡ 2 + i = s.is in
      let low : i < length l.rules = s.low in
      record {
        before = inr (omega arith, front-within (k - 1) first (λ j h m. s.none j (omega arith)) (λ q h m. absurd (omega arith)));
        here = λ w. true≢false (sym s.holds ∙ sym (rule_same l k i (omega arith)) ∙ rule-good (front k l) w i (low-taken (k - 1) l.rules i (omega arith) low));
        line = omega arith;
      }

  asks-past : (k : ℕ) → Accepted ≡ check_first l → Accepted ≡ check_rules l → check_asks l ≡ Refused 15 k → Past l k
  unfolding check_rules check_asks
  asks-past k first rules e =
      let s = scan-stop (bad_ask l) (length l.questions) 15 (λ q. 2 + length l.rules + q) k e in
      let q = s.at in
      let p : k ≡ 2 + length l.rules + q = s.is in
      let low : q < length l.questions = s.low in
      record {
        before = inr (omega arith, front-within (k - 1) first (λ j h m. scan_all (bad_rule l) _ _ _ rules j m) (λ j h m. s.none j (omega arith)));
        here = λ w. true≢false (sym s.holds ∙ sym (ask_same l k q (omega arith)) ∙ ask-good (front k l) w q (low-taken (k - 1 - length l.rules) l.questions q (omega arith) low));
        line = omega arith;
      }

  numbers-past : (k : ℕ) → check_numbers l ≡ Refused 15 k → Past l k
  unfolding check_numbers
  numbers-past k e =
      ⊎_elim (first_past k)
      (λ f. ⊎_elim (rules-past k f.0) (λ g. asks-past k f.0 g.0 g.1) (part (check_rules l) (check_asks l) 15 k f.1))
      (part (check_first l) (check_rules l ⨾ check_asks l) 15 k e)

room-not : (l : Lines) (room k : ℕ) → check_room l room ≡ Refused 15 k → ⊥
unfolding check_room
room-not l room k e = ⊎_elim (λ f. let h = row-held _ _ _ 15 k f in omega (arith, h.number)) (λ f. not-both Accepted 15 k refl f.1) (part _ _ 15 k e)

pub past_at : (l : Lines) (room k : ℕ) → check_lines l room ≡ Refused 15 k → Past l k
unfolding check_lines
past_at l room k e = ⊎_elim (numbers-past l k) (λ f. absurd (room-not l room k f.1)) (part (check_numbers l) (check_room l room) 15 k e)

module _ (l : Lines) where
  front_less : (m k : ℕ) → k ≤ m → InLimits (front m l) → InLimits (front k l)
  unfolding check_first
  front_less m k h w =
      front-within l k (first_good (front m l) w)
      (λ i a b. sym (rule_same l m i (omega arith)) ∙ rule-good (front m l) w i (low-taken (m - 1) l.rules i (omega arith) b))
      (λ q a b. sym (ask_same l m q (omega arith)) ∙ ask-good (front m l) w q (low-taken (m - 1 - length l.rules) l.questions q (omega arith) b))

  past-least : (p k : ℕ) → Past l p → Past l k → p < k → ⊥
  past-least p k a b h =
      ⊎_elim
      (λ e. ⊎_elim (λ f. omega arith) (λ f. let z : 2 ≤ p = f.0 in omega arith) a.before)
      (λ f. a.here (front_less (k - 1) p (omega arith) f.1))
      b.before

  past_one : (p k : ℕ) → Past l p → Past l k → p ≡ k
  past_one p k a b =
      let x = past-least p k a b in
      let y = past-least k p b a in
      ⊎_elim (λ h. absurd (x h)) (λ h. ⊎_elim (λ g. absurd (y g)) (λ g. omega arith) (split k p)) (split p k)
    where
      split : (u v : ℕ) → (u < v) ⊎ (v ≤ u)
      split zero zero = inr (omega arith)
      split zero (suc v) = inl (omega arith)
      split (suc u) zero = inr (omega arith)
      split (suc u) (suc v) = ⊎_elim (λ h. inl (omega arith)) (λ h. inr (omega arith)) (split u v)

  numbers-accepted : (k : ℕ) → Accepted ≡ check_numbers l → InLimits (front k l)
  unfolding check_numbers check_rules check_asks
  numbers-accepted k e =
      let f = both _ _ e in
      let g = both _ _ f.1 in
      front-within l k f.0 (λ i a b. scan_all (bad_rule l) _ _ _ g.0 i b) (λ q a b. scan_all (bad_ask l) _ _ _ g.1 q b)

is-15 : Check → Type 0
is-15 Accepted = Unit {0}
is-15 (Err refusal) = refusal.number ≡ 15

then-15 : (x y : Check) → is-15 x → is-15 y → is-15 (x ⨾ y)
unfolding ◌⨾◌ is-15
then-15 Accepted y a b = b
then-15 (Err refusal) y a b = a

row-15 : (b : Bool) (p : ℕ) → is-15 (row b 15 p)
unfolding row is-15
row-15 true p = refl
row-15 false p = tt

scan-15 : (bad : ℕ → Bool) (n : ℕ) (place : ℕ → ℕ) → is-15 (scan bad n 15 place)
unfolding scan is-15
scan-15 bad zero place = tt
scan-15 bad (suc n) place = then-15 _ _ (row-15 _ _) (scan-15 (λ k. bad (suc k)) n (λ k. place (suc k)))

numbers-15 : (l : Lines) → is-15 (check_numbers l)
unfolding check_numbers check_first check_rules check_asks is-15
numbers-15 l =
    then-15 _ _ (then-15 _ _ (row-15 _ _) (then-15 _ _ (row-15 _ _) (then-15 _ _ (row-15 _ _) tt)))
    (then-15 _ _ (scan-15 (bad_rule l) _ _) (scan-15 (bad_ask l) _ _))

answer-past : (l : Lines) (k : ℕ) → Past l k → (c : Check) → check_numbers l ≡ c → is-15 c → c ≡ Refused 15 k
unfolding is-15
answer-past l k b Accepted e n = absurd (b.here (numbers-accepted l k (sym e)))
answer-past l k b (Err refusal) e n =
    let f : check_numbers l ≡ Refused 15 refusal.place = e ∙ ap (λ (x : ℕ). Refused x refusal.place) n in
    let z : refusal.place ≡ k = past_one l refusal.place k (numbers-past l refusal.place f) b in
    ap (λ (x : ℕ). Refused x refusal.place) n ∙ ap (Refused 15) z

pub past_back : (l : Lines) (room k : ℕ) → Past l k → check_lines l room ≡ Refused 15 k
unfolding check_lines ◌⨾◌
past_back l room k b = let e = answer-past l k b (check_numbers l) refl (numbers-15 l) in rw e
