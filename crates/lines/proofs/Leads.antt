-- What a part of a text does: from one state to another, past so many lines, with so many numbers. Assumes nothing.
--   Leads keep sc line part sc' line' its   from sc the part leads to sc', and ends the numbers its; `line` lines were begun before it
--   leads_none, leads-join, leads-text      no bytes; two parts; a part written otherwise
--   quiet st bs                             no digit, no number ended, nothing bad, no line begun
--   opening, within                         a word at a line's start, and one within a line
--   num sl n                                the state behind the number n
--   number-leads, behind                    a number, from where it may start; the word behind it
use Prim.Native.Nat.{ℕ, zero, suc, ◌+◌, ◌*◌, ◌-◌, ◌/◌, ◌%◌, ◌<◌, ◌≤◌}
use Rattle.std.specs.Prelude.{Some, None}
use mathlib.Core.List.{List, [], ◌∷◌, ◌++◌, append_assoc}
use mathlib.Core.Path.{◌≡◌, refl, sym, ◌∙◌, ap}
use mathlib.Core.Bool.{Bool, true, false, ◌&&◌, not, true≢false}
use native.Mathlib.Omega.{arith}
use lib.Dec.{eqb}
use borrow.Author.Tests.{ne_eqb, eqb-true}
use Rattle.std.proofs.lemmas.Bool.{not-true}
use Rattle.base.specs.Choose.{pick}
use Rattle.base.proofs.Bools.{and_both}
use Rattle.base.proofs.Choose.{pick_true, pick-false}
use Rattle.base.proofs.Compare.{under-yes, under-no}
use Rattle.job.proofs.Rows.{pass}
use Rattle.writing.specs.Decimal.{decimal, digit}
use Rattle.writing.proofs.Decimal.{Size, small, large, size, decimal-small, decimal-large}
use Rattle.lines.specs.Grammar.{is_digit, first, ended, more, any_line, body_next, step, run, is_bad, line_start}
use Rattle.lines.specs.Fitting.{fits_from}
use Rattle.lines.specs.Numbering.{Scan, digit_by, unless_digit, event_in, Item, item_of, items, Event}
use Rattle.lines.specs.declared.Slot.{Slot}
use Rattle.lines.specs.declared.Slot.TheVariants.{Head, Body}
use Rattle.lines.specs.declared.State.{State}
use Rattle.lines.specs.declared.State.TheVariants.{AnyLine, First, Zero, More, BodyNext}

abbrev pub at : State → ℕ → Scan
at st n = record { state = st; number = n }

pub record Leads (keep : ℕ → ℕ) (sc : Scan) (line : ℕ) (part : List ℕ) (sc' : Scan) (line' : ℕ) (its : List Item) : Type 0 where
  pub numbers : (rest : List ℕ) → items keep sc line (part ++ rest) ≡ its ++ items keep sc' line' rest
  pub fits : (rest : List ℕ) → fits_from sc.state line (part ++ rest) ≡ fits_from sc'.state line' rest

module _ {keep : ℕ → ℕ} where
  pub leads_none : (sc : Scan) (line : ℕ) → Leads keep sc line [] sc line []
  leads_none sc line = record { numbers = λ rest. refl; fits = λ rest. refl }

  pub leads-join :
      {a b c : Scan} {i j k : ℕ} {s t : List ℕ} {xs ys : List Item}
      → Leads keep a i s b j xs → Leads keep b j t c k ys → Leads keep a i (s ++ t) c k (xs ++ ys)
  leads-join {a} {b} {c} {i} {j} {k} {s} {t} {xs} {ys} p q =
      record {
        numbers = λ rest. rw (append_assoc s t rest) (p.numbers (t ++ rest) ∙ rw (q.numbers rest) (sym (append_assoc xs ys _)));
        fits = λ rest. rw (append_assoc s t rest) (p.fits (t ++ rest) ∙ q.fits rest);
      }

  pub leads-text : {a b : Scan} {i j : ℕ} {s t : List ℕ} {xs : List Item} → s ≡ t → Leads keep a i t b j xs → Leads keep a i s b j xs
  leads-text e p = rw e p

  pub leads-to :
      {a b b' : Scan} {i j j' : ℕ} {s : List ℕ} {xs ys : List Item}
      → Leads keep a i s b j xs → b ≡ b' → j ≡ j' → xs ≡ ys → Leads keep a i s b' j' ys
  leads-to p e f g = rw (← e, ← f, ← g) p

  leads-byte :
      (st : State) (n line b : ℕ) → is_bad (step st b) ≡ false
      → Leads keep (at st n) line (b ∷ []) (at (step st b) (digit_by keep n b)) (line + line_start st) (item_of (line + line_start st) (event_in st n b))
  unfolding items fits_from
  leads-byte st n line b h = record { numbers = λ rest. refl; fits = λ rest. sym (pass _ _ _ _ h refl) }

-- a word: no digit, no number ended, nothing bad, and no line begun
abbrev is_nothing : Event → Bool
is_nothing None = true
is_nothing (Some (sl, n)) = false

abbrev silent : State → ℕ → Bool
silent st b = not (is_digit b) && not (is_bad (step st b)) && is_nothing (event_in st 0 b)

abbrev pub quiet : State → List ℕ → Bool
quiet st [] = true
quiet st (b ∷ bs) = silent st b && eqb (line_start st) 0 && quiet (step st b) bs

no_item : (line : ℕ) (e : Event) → is_nothing e ≡ true → item_of line e ≡ []
no_item line None h = refl
no_item line (Some (sl, n)) h = absurd (true≢false (sym h))

digit_none : (keep : ℕ → ℕ) (n b : ℕ) → is_digit b ≡ false → digit_by keep n b ≡ 0
unfolding digit_by
digit_none keep n b e = pick-false _ _ _ e

scan_eq : {st st' : State} {n n' : ℕ} → st ≡ st' → n ≡ n' → at st n ≡ at st' n'
scan_eq p q = cc

module _ {keep : ℕ → ℕ} where
  silent-leads :
      (st : State) (b line line' : ℕ) → silent st b ≡ true → line + line_start st ≡ line'
      → Leads keep (at st 0) line (b ∷ []) (at (step st b) 0) line' []
  silent-leads st b line line' h e =
      let p = and_both (not (is_digit b) && not (is_bad (step st b))) (is_nothing (event_in st 0 b)) h in
      let q = and_both (not (is_digit b)) (not (is_bad (step st b))) p.0 in
      leads-to (leads-byte st 0 line b (not-true _ q.1))
      (scan_eq {st = step st b} refl (digit_none keep 0 b (not-true _ q.0))) e (no_item _ (event_in st 0 b) p.1)

  pub within : (st : State) (bs : List ℕ) (line : ℕ) → quiet st bs ≡ true → Leads keep (at st 0) line bs (at (run st bs) 0) line []
  unfolding run
  within st [] line h = leads_none (at st 0) line
  within st (b ∷ bs) line h =
      let p = and_both (silent st b && eqb (line_start st) 0) (quiet (step st b) bs) h in
      let q = and_both (silent st b) (eqb (line_start st) 0) p.0 in
      leads-join (silent-leads st b line line q.0 (omega (arith, eqb-true (line_start st) 0 q.1))) (within (step st b) bs line p.1)

  pub opening :
      (st : State) (b : ℕ) (bs : List ℕ) (line : ℕ) → line_start st ≡ 1 → silent st b ≡ true → quiet (step st b) bs ≡ true
      → Leads keep (at st 0) line (b ∷ bs) (at (run (step st b) bs) 0) (line + 1) []
  opening st b bs line e h q = leads-join (silent-leads st b line (line + 1) h (omega arith)) (within (step st b) bs (line + 1) q)

-- a number
abbrev pub num : Slot → ℕ → State
num sl zero = Zero sl
num sl (suc n) = More sl

num-some : (sl : Slot) (n : ℕ) → 1 ≤ n → num sl n ≡ More sl
num-some sl zero h = absurd (omega arith)
num-some sl (suc n) h = refl

is_digit_lem : (d : ℕ) → d < 10 → is_digit (48 + d) ≡ true
unfolding is_digit
is_digit_lem d h = pick-false _ _ _ (under-no _ _ (omega arith)) ∙ under-yes _ _ (omega arith)

digit_more : (keep : ℕ → ℕ) (n d : ℕ) → d < 10 → digit_by keep n (48 + d) ≡ keep (10 * n + d)
unfolding digit_by
digit_more keep n d h = let v : 10 * n + (48 + d - 48) ≡ 10 * n + d = omega arith in pick_true _ _ _ (is_digit_lem d h) ∙ ap keep v

-- where a number may start
pub record Begins (st : State) (sl : Slot) : Type 0 where
  pub step_first : (b : ℕ) → b < 58 → step st b ≡ first sl b
  pub silent : (b : ℕ) → event_in st 0 b ≡ None

pub first-begins : (sl : Slot) → Begins (First sl) sl
first-begins sl = record { step_first = λ b l. refl; silent = λ b. refl }

pub any-begins : Begins AnyLine Head
unfolding any_line
any-begins = record { step_first = λ b l. pick-false _ _ _ (ne_eqb b 97 (λ q. omega arith)); silent = λ b. refl }

pub body-begins : Begins BodyNext Body
unfolding body_next
body-begins = record { step_first = λ b l. pick-false _ _ _ (ne_eqb b 110 (λ q. omega arith)); silent = λ b. refl }

num_fine : (sl : Slot) (d : ℕ) → is_bad (num sl d) ≡ false
num_fine sl zero = refl
num_fine sl (suc d) = refl

first_num : (st : State) (sl : Slot) → Begins st sl → (d : ℕ) → d < 10 → step st (48 + d) ≡ num sl d
unfolding first pick
first_num st sl h zero l = h.step_first 48 (omega arith)
first_num st sl h (suc d) l =
    let b : ℕ = 48 + suc d in
    h.step_first b (omega arith) ∙ pick-false _ _ _ (ne_eqb b 48 (λ q. omega arith)) ∙ pick_true _ _ _ (is_digit_lem (suc d) l)

more_num : (sl : Slot) (d : ℕ) → d < 10 → step (More sl) (48 + d) ≡ More sl
unfolding more
more_num sl d l = pick_true _ _ _ (is_digit_lem d l)

more_silent : (sl : Slot) (n d : ℕ) → d < 10 → event_in (More sl) n (48 + d) ≡ None
unfolding unless_digit
more_silent sl n d l = pick_true _ _ _ (is_digit_lem d l)

module _
    {keep : ℕ → ℕ} (adds : (q r : ℕ) → keep (10 * keep q + r) ≡ keep (10 * q + r)) (st : State) (sl : Slot) (h : Begins st sl)
    (line line' : ℕ) (e : line + line_start st ≡ line')
  where
    one-digit : (d : ℕ) → d < 10 → Leads keep (at st 0) line (digit d ∷ []) (at (num sl d) (keep d)) line' []
    one-digit d l =
        let v : 10 * 0 + d ≡ d = omega arith in
        let s = first_num st sl h d l in
        leads-to (leads-byte st 0 line (48 + d) (ap is_bad s ∙ num_fine sl d))
        (scan_eq s (digit_more keep 0 d l ∙ ap keep v)) e (ap (item_of (line + line_start st)) (h.silent (48 + d)))

    more-digit :
        (n : ℕ) → 10 ≤ n
        → Leads keep (at (num sl (n / 10)) (keep (n / 10))) line' (digit (n % 10) ∷ []) (at (num sl n) (keep n)) line' []
    more-digit n l =
        let v : 10 * (n / 10) + n % 10 ≡ n = omega arith in
        let k : n % 10 < 10 = omega arith in
        let s = more_num sl (n % 10) k in
        rw (num-some sl (n / 10) (omega arith))
        (leads-to (leads-byte (More sl) (keep (n / 10)) line' (48 + n % 10) (ap is_bad s))
        (scan_eq (s ∙ sym (num-some sl n (omega arith))) (digit_more keep (keep (n / 10)) (n % 10) k ∙ adds (n / 10) (n % 10) ∙ ap keep v))
        (omega arith) (ap (item_of (line' + 0)) (more_silent sl (keep (n / 10)) (n % 10) k)))

    number_step :
        (k n : ℕ) → Size n
        → (n / 10 ≤ k → Leads keep (at st 0) line (decimal (n / 10)) (at (num sl (n / 10)) (keep (n / 10))) line' [])
        → n ≤ suc k → Leads keep (at st 0) line (decimal n) (at (num sl n) (keep n)) line' []
    number_step k n (small l) again p = leads-text (decimal-small n l) (one-digit n l)
    number_step k n (large l) again p = leads-text (decimal-large n l) (leads-join (again (omega arith)) (more-digit n l))

    number_by : (k n : ℕ) → n ≤ k → Leads keep (at st 0) line (decimal n) (at (num sl n) (keep n)) line' []
    number_by zero n p = leads-text (decimal-small n (omega arith)) (one-digit n (omega arith))
    number_by (suc k) n p = number_step k n (size n) (number_by k (n / 10)) p

    pub number-leads : (n : ℕ) → Leads keep (at st 0) line (decimal n) (at (num sl n) (keep n)) line' []
    number-leads n = number_by n n (omega arith)

-- the word behind a number
abbrev pub item : ℕ → Slot → ℕ → Item
item line sl n = record { line = line; slot = sl; value = n }

abbrev pub ends : Slot → List ℕ → Bool
ends sl [] = false
ends sl (b ∷ bs) = not (is_digit b) && not (is_bad (ended sl b)) && quiet (ended sl b) bs

abbrev pub behind_all : Slot → List ℕ → State
behind_all sl [] = First sl
behind_all sl (b ∷ bs) = run (ended sl b) bs

num-ended : (sl : Slot) (n b : ℕ) → is_digit b ≡ false → step (num sl n) b ≡ ended sl b
unfolding more
num-ended sl zero b e = refl
num-ended sl (suc n) b e = pick-false _ _ _ e

num_event : (sl : Slot) (n v b : ℕ) → is_digit b ≡ false → event_in (num sl n) v b ≡ Some (sl, v)
unfolding unless_digit
num_event sl zero v b e = pick-false _ _ _ e
num_event sl (suc n) v b e = pick-false _ _ _ e

num-within : (sl : Slot) (n : ℕ) → line_start (num sl n) ≡ 0
num-within sl zero = refl
num-within sl (suc n) = refl

pub behind :
    {keep : ℕ → ℕ} (sl : Slot) (n v line : ℕ) (bs : List ℕ) → ends sl bs ≡ true
    → Leads keep (at (num sl n) v) line bs (at (behind_all sl bs) 0) line (item line sl v ∷ [])
behind sl n v line [] h = absurd (true≢false (sym h))
behind {keep} sl n v line (b ∷ bs) h =
    let p = and_both (not (is_digit b) && not (is_bad (ended sl b))) (quiet (ended sl b) bs) h in
    let q = and_both (not (is_digit b)) (not (is_bad (ended sl b))) p.0 in
    let d = not-true _ q.0 in
    let s = num-ended sl n b d in
    let j : line + line_start (num sl n) ≡ line = omega (arith, num-within sl n) in
    leads-join
    (leads-to (leads-byte (num sl n) v line b (ap is_bad s ∙ not-true _ q.1)) (scan_eq s (digit_none keep v b d)) j
    (ap (item_of (line + line_start (num sl n))) (num_event sl n v b d) ∙ ap (λ (i : ℕ). item i sl v ∷ []) j))
    (within (ended sl b) bs line p.1)
