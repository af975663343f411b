-- Where row 14 refuses a text: at its first line that doesn't fit. Assumes nothing.
--   refusal         a refusal from any state: in the line that is open, or behind a part that is accepted
--   unfit_at        the place of row 14 is the line that Unfit speaks of
--   unfit_one       there is only one such line
--   unfit-exactly   row 14 refuses there and nowhere else
--   fit_or-unfit    a text says some lines, or has such a line
use Prim.Native.Nat.{ℕ, ◌+◌, ◌<◌, ◌≤◌}
use mathlib.Core.List.{List, [], ◌∷◌, ◌++◌}
use mathlib.Core.Path.{◌≡◌, refl, sym, ◌∙◌, ap}
use mathlib.Core.Logic.{◌↔◌, ◌⊎◌, inl, inr, ⊎_elim}
use mathlib.Core.Bool.{Bool, true, false, true≢false}
use native.Mathlib.Omega.{arith}
use lib.Dec.{eqb}
use Rattle.base.specs.Choose.{pick}
use Rattle.base.specs.Compare.{under}
use Rattle.base.proofs.Choose.{pick_both}
use Rattle.job.specs.Rows.{◌⨾◌, row}
use Rattle.std.specs.Prelude.{Err}
use Rattle.job.specs.Check.{Check, Accepted, Refused}
use Rattle.lines.proofs.Refusals.{same-number, same-place}
use Rattle.job.specs.declared.Question.{Question}
use Rattle.job.proofs.Rows.{pass}
use Rattle.lines.specs.Lines.{Lines, text_of, line_count}
use Rattle.lines.specs.Grammar.{is_digit, after, first, only, ended, any_line, body_next, step, is_bad, line_start}
use Rattle.lines.specs.Fitting.{at_end, fits_from, check_fit}
use Rattle.lines.specs.Laws.{Unfit}
use Rattle.lines.specs.declared.Slot.{Slot}
use Rattle.lines.specs.declared.Slot.TheVariants.{ClaimCount, WorkerCount, Head, Body, NotBody, Asker, Asked}
use Rattle.lines.specs.declared.Word.{Word}
use Rattle.lines.specs.declared.Word.TheVariants.{ClaimsWord, WorkersWord, IfWord, NotWord, AskWord, StopWord, CommaWord}
use Rattle.lines.specs.declared.State.{State}
use Rattle.lines.specs.declared.State.TheVariants.{Bad, FirstLine, AnyLine, AskLine, Letter, First, Zero, More, BodyNext}
use Rattle.lines.proofs.Along.{end_state, text-fits}
use Rattle.lines.proofs.Cases.{only-case, either-case, first-case, more-case, spelled-case}
use Rattle.lines.proofs.Saying.{complete}
use Rattle.lines.proofs.Tails.{never, sound}

-- the start of the text is where no byte leads
abbrev is_start : State → Bool
is_start Bad = false
is_start FirstLine = true
is_start AnyLine = false
is_start AskLine = false
is_start (Letter w k) = false
is_start (First sl) = false
is_start (Zero sl) = false
is_start (More sl) = false
is_start BodyNext = false

abbrev NoStart : State → Type 0
NoStart st = is_start st ≡ false

after_on : (w : Word) → NoStart (after w)
after_on ClaimsWord = refl
after_on WorkersWord = refl
after_on IfWord = refl
after_on NotWord = refl
after_on AskWord = refl
after_on StopWord = refl
after_on CommaWord = refl

ended-on : (sl : Slot) (b : ℕ) → is_bad (ended sl b) ≡ false → NoStart (ended sl b)
ended-on ClaimCount b = only-case NoStart b 32 _ (λ q. refl)
ended-on WorkerCount b = only-case NoStart b 10 _ (λ q. refl)
ended-on Head b = either-case NoStart b 46 _ 32 _ (λ q. refl) (λ q. refl)
ended-on Body b = either-case NoStart b 46 _ 44 _ (λ q. refl) (λ q. refl)
ended-on NotBody b = either-case NoStart b 46 _ 44 _ (λ q. refl) (λ q. refl)
ended-on Asker b = only-case NoStart b 32 _ (λ q. refl)
ended-on Asked b = only-case NoStart b 10 _ (λ q. refl)

first_on : (sl : Slot) (b : ℕ) → is_bad (first sl b) ≡ false → NoStart (first sl b)
first_on sl b = first-case NoStart sl b (λ q. refl) (λ d l u. refl)

step-on : (st : State) (b : ℕ) → is_bad (step st b) ≡ false → NoStart (step st b)
unfolding any_line body_next
step-on Bad b h = refl
step-on FirstLine b h = only-case NoStart b 99 _ (λ q. refl) h
step-on AnyLine b h = pick_both (λ (st : State). is_bad st ≡ false → NoStart st) (eqb b 97) (Letter AskWord 1) (first Head b) (λ e k. refl) (λ e. first_on Head b) h
step-on AskLine b h = only-case NoStart b 97 _ (λ q. refl) h
step-on (Letter w k) b h = spelled-case NoStart w k b (λ q l. refl) (λ q l. after_on w) h
step-on (First sl) b h = first_on sl b h
step-on (Zero sl) b h = ended-on sl b h
step-on (More sl) b h = more-case NoStart sl b (λ d. refl) (λ d. ended-on sl b) h
step-on BodyNext b h = pick_both (λ (st : State). is_bad st ≡ false → NoStart st) (eqb b 110) (Letter NotWord 1) (first Body b) (λ e k. refl) (λ e. first_on Body b) h

-- in the line that is open; or behind a part that is accepted, and where a byte that fits nowhere would be refused too
data Where (st : State) (line : ℕ) (bs : List ℕ) (k : ℕ) : Type 0 where
  here : k ≡ line + line_start st → Where st line bs k
  later :
      (part rest : List ℕ) → bs ≡ part ++ rest → Accepted ≡ fits_from st line part
      → fits_from st line (part ++ (0 ∷ [])) ≡ Refused 14 k → Where st line bs k

record Refusal (st : State) (line : ℕ) (bs : List ℕ) (n k : ℕ) : Type 0 where
  number : n ≡ 14
  least : line + line_start st ≤ k
  place : Where st line bs k

refused-here :
    {st : State} {line : ℕ} {bs : List ℕ} {n k j : ℕ} → Refused 14 j ≡ Refused n k → j ≡ line + line_start st
    → Refusal st line bs n k
refused-here {st} {line} {bs} {n} {k} {j} e q =
    let u = same-place e in record { number = sym (same-number e); least = omega (arith, u); place = here (sym u ∙ q) }

end_refusal : (st : State) (line n k : ℕ) → (is_start st ≡ true → line ≡ 0) → at_end st line ≡ Refused n k → Refusal st line [] n k
end_refusal Bad line n k h e = refused-here e (omega arith)
end_refusal FirstLine line n k h e = refused-here e (omega (arith, h refl))
end_refusal AnyLine line n k h e = never e
end_refusal AskLine line n k h e = never e
end_refusal (Letter w j) line n k h e = refused-here e (omega arith)
end_refusal (First sl) line n k h e = refused-here e (omega arith)
end_refusal (Zero sl) line n k h e = refused-here e (omega arith)
end_refusal (More sl) line n k h e = refused-here e (omega arith)
end_refusal BodyNext line n k h e = refused-here e (omega arith)

-- at a state that a byte leads to: no line starts there, or what was read is accepted
line-open :
    (st : State) (line k : ℕ) → NoStart st → k ≡ line + line_start st
    → (k ≡ line) ⊎ ((Accepted ≡ fits_from st line []) × (fits_from st line (0 ∷ []) ≡ Refused 14 k))
unfolding fits_from any_line first only is_digit under pick row ◌⨾◌
line-open Bad line k h q = inl (omega arith)
line-open FirstLine line k h q = absurd (true≢false h)
line-open AnyLine line k h q = inr (refl, ap (Refused 14) (sym q))
line-open AskLine line k h q = inr (refl, ap (Refused 14) (sym q))
line-open (Letter w j) line k h q = inl (omega arith)
line-open (First sl) line k h q = inl (omega arith)
line-open (Zero sl) line k h q = inl (omega arith)
line-open (More sl) line k h q = inl (omega arith)
line-open BodyNext line k h q = inl (omega arith)

module _ (st : State) (line b : ℕ) (bs : List ℕ) (k : ℕ) (h : is_bad (step st b) ≡ false) where
  fits_cons : (s : List ℕ) {c : Check} → fits_from (step st b) (line + line_start st) s ≡ c → fits_from st line (b ∷ s) ≡ c
  unfolding fits_from
  fits_cons s e = sym (pass _ _ _ _ h (sym e))

  where_cons : Where (step st b) (line + line_start st) bs k → Where st line (b ∷ bs) k
  where_cons (later part rest q p s) = later (b ∷ part) rest (ap (λ (x : List ℕ). b ∷ x) q) (sym (fits_cons part (sym p))) (fits_cons (part ++ (0 ∷ [])) s)
  where_cons (here q) =
      ⊎_elim (λ e. here e) (λ p. later (b ∷ []) bs refl (sym (fits_cons [] (sym p.0))) (fits_cons (0 ∷ []) p.1))
      (line-open (step st b) (line + line_start st) k (step-on st b h) q)

refusal-step :
    (st : State) (line b : ℕ) (bs : List ℕ) (n k : ℕ) (c : Bool) → is_bad (step st b) ≡ c
    → (is_bad (step st b) ≡ false → fits_from (step st b) (line + line_start st) bs ≡ Refused n k → Refusal (step st b) (line + line_start st) bs n k)
    → row c 14 (line + line_start st) ⨾ fits_from (step st b) (line + line_start st) bs ≡ Refused n k → Refusal st line (b ∷ bs) n k
unfolding row ◌⨾◌
refusal-step st line b bs n k true h again e = refused-here e refl
refusal-step st line b bs n k false h again e =
    let r = again h e in
    record { number = r.number; least = omega (arith, r.least); place = where_cons st line b bs k h r.place }

refusal : (bs : List ℕ) (st : State) (line n k : ℕ) → (is_start st ≡ true → line ≡ 0) → fits_from st line bs ≡ Refused n k → Refusal st line bs n k
unfolding fits_from
refusal [] st line n k h e = end_refusal st line n k h e
refusal (b ∷ bs) st line n k h e =
    refusal-step st line b bs n k (is_bad (step st b)) refl
    (λ g. refusal bs (step st b) (line + line_start st) n k (λ t. absurd (true≢false (sym t ∙ step-on st b g)))) e

-- a text of lines at the front
end_open : (qs : List Question) → (NoStart (end_state qs)) × (line_start (end_state qs) ≡ 1)
end_open [] = (refl, refl)
end_open (q ∷ qs) = (refl, refl)

end-stops : (qs : List Question) (line : ℕ) → fits_from (end_state qs) line (0 ∷ []) ≡ Refused 14 (line + 1)
unfolding fits_from any_line first only is_digit under pick row ◌⨾◌
end-stops [] line = refl
end-stops (q ∷ qs) line = refl

front_less : (s : List ℕ) (n k : ℕ) → check_fit s ≡ Refused n k → (l : Lines) (rest : List ℕ) → s ≡ text_of l ++ rest → line_count l < k
unfolding check_fit
front_less s n k e l rest q =
    let o = end_open l.questions in
    let r =
    refusal rest (end_state l.questions) (line_count l) n k (λ t. absurd (true≢false (sym t ∙ o.0)))
    (sym (text-fits l rest) ∙ ap (fits_from FirstLine 0) (sym q) ∙ e) in
    omega (arith, r.least, o.1)

front_count : (part : List ℕ) (l : Lines) (k : ℕ) → part ≡ text_of l → fits_from FirstLine 0 (part ++ (0 ∷ [])) ≡ Refused 14 k → k ≡ line_count l + 1
front_count part l k q s =
    same-place (sym s ∙ ap (λ (x : List ℕ). fits_from FirstLine 0 (x ++ (0 ∷ []))) q ∙ text-fits l (0 ∷ []) ∙ end-stops l.questions (line_count l))

before-line : (s : List ℕ) (k : ℕ) → Where FirstLine 0 s k → (k ≡ 1) ⊎ ((l : Lines) × (rest : List ℕ) × (s ≡ text_of l ++ rest) × (k ≡ line_count l + 1))
unfolding check_fit
before-line s k (here q) = inl q
before-line s k (later part rest q p t) =
    let l = sound part p in
    inr (l.0, rest, q ∙ ap (λ (x : List ℕ). x ++ rest) l.1, front_count part l.0 k l.1 t)

pub unfit_at : (s : List ℕ) (n k : ℕ) → check_fit s ≡ Refused n k → (n ≡ 14) × Unfit s k
unfolding check_fit
unfit_at s n k e =
    let r = refusal s FirstLine 0 n k (λ t. refl) e in (
      r.number,
      record {
        before = before-line s k r.place;
        here = front_less s n k e;
        more = λ l q. absurd (never (complete l ∙ ap check_fit (sym q) ∙ e));
      },
    )

line-least : (s : List ℕ) (j : ℕ) → Unfit s j → 1 ≤ j
line-least s j u = ⊎_elim (λ e. omega arith) (λ p. omega (arith, p.3)) u.before

line_before : (s : List ℕ) (j k : ℕ) → Unfit s j → Unfit s k → j ≤ k
line_before s j k u v = ⊎_elim (λ e. omega (arith, line-least s k v)) (λ p. omega (arith, p.3, v.here p.0 p.1 p.2)) u.before

pub unfit_one : (s : List ℕ) (j k : ℕ) → Unfit s j → Unfit s k → j ≡ k
unfit_one s j k u v = omega (arith, line_before s j k u v, line_before s k j v u)

fit-answer : (s : List ℕ) (c : Check) → check_fit s ≡ c → ((l : Lines) × (s ≡ text_of l)) ⊎ ((k : ℕ) × (check_fit s ≡ Refused 14 k) × Unfit s k)
fit-answer s Accepted e = inl (sound s (sym e))
fit-answer s (Err r) e = let k = r.place in let u = unfit_at s r.number k e in inr (k, e ∙ ap (λ (m : ℕ). Refused m k) u.0, u.1)

pub fit_or-unfit : (s : List ℕ) → ((l : Lines) × (s ≡ text_of l)) ⊎ ((k : ℕ) × (check_fit s ≡ Refused 14 k) × Unfit s k)
fit_or-unfit s = fit-answer s (check_fit s) refl

pub unfit-exactly : (s : List ℕ) (k : ℕ) → (check_fit s ≡ Refused 14 k) ↔ Unfit s k
unfit-exactly s k = (
  λ e. (unfit_at s 14 k e).1,
  λ u.
      ⊎_elim (λ p. absurd (u.more p.0 p.1)) (λ p. p.1 ∙ ap (Refused 14) (unfit_one s p.0 k p.2 u)) (fit_or-unfit s),
)
