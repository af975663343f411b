-- What follows each state of the machine up to the end of a text that row 14 accepts, read from the end. Assumes nothing.
--   Fixed w P bs   bs is the bytes w, and then something that P has
--   Then f P bs    bs is the text f of something, and then something that P has
--   Asks, Lined    whole lines: questions; rules and then questions
--   Tail st bs     bs follows state st
--   tail           what is accepted from a state follows it
--   sound          an accepted text is the text of some lines
use Prim.Native.Nat.{ℕ, ◌+◌, ◌*◌, ◌-◌, ◌/◌, ◌%◌, ◌<◌, ◌≤◌}
use mathlib.Core.List.{List, [], ◌∷◌, ◌++◌, flat_map, append_assoc}
use mathlib.Core.Path.{◌≡◌, refl, ◌∙◌}
use mathlib.Core.Bool.{false}
use native.Mathlib.Omega.{arith}
use native.Mathlib.Numerals.{add-one}
use borrow.Author.Tests.{eqb-true}
use lib.Dec.{eqb}
use lib.ListN.{length, drop, drop_of_length-le}
use lib.Seq.{drop-cons}
use Rattle.base.proofs.Choose.{pick_both}
use Rattle.job.specs.Rows.{row}
use Rattle.job.specs.Check.{Accepted, Refused}
use Rattle.job.specs.declared.Literal.TheVariants.{Plain, Negated}
use Rattle.job.specs.declared.Question.{Question}
use Rattle.job.proofs.Rows.{both, row-no}
use Rattle.writing.specs.Decimal.{decimal}
use Rattle.writing.proofs.Decimal.{decimal-small, decimal-large}
use Rattle.lines.specs.Lines.{Lines, letters, blank, line_end, text_of, literal_text, body_text, rule_text, ask_text}
use Rattle.lines.specs.Grammar.{after, spelled, first, ended, more, any_line, body_next, step, is_bad, line_start}
use Rattle.lines.specs.Fitting.{at_end, fits_from, check_fit}
use Rattle.lines.specs.declared.Slot.{Slot}
use Rattle.lines.specs.declared.Slot.TheVariants.{ClaimCount, WorkerCount, Head, Body, NotBody, Asker, Asked}
use Rattle.lines.specs.declared.Word.{Word}
use Rattle.lines.specs.declared.Word.TheVariants.{ClaimsWord, WorkersWord, IfWord, NotWord, AskWord, StopWord, CommaWord}
use Rattle.lines.specs.declared.State.{State}
use Rattle.lines.specs.declared.State.TheVariants.{Bad, FirstLine, AnyLine, AskLine, Letter, First, Zero, More, BodyNext}
use Rattle.lines.proofs.Along.{comma_text}
use Rattle.lines.proofs.Cases.{digit-least, digit_most, only-case, either-case, first-case, more-case, spelled-case}

record Fixed (w : List ℕ) (P : List ℕ → Type 0) (bs : List ℕ) : Type 0 where
  rest : List ℕ
  text : bs ≡ w ++ rest
  more : P rest

record Then {A : Type 0} (f : A → List ℕ) (P : List ℕ → Type 0) (bs : List ℕ) : Type 0 where
  it : A
  rest : List ℕ
  text : bs ≡ f it ++ rest
  more : P rest

record Asks (bs : List ℕ) : Type 0 where
  questions : List Question
  text : bs ≡ flat_map ask_text questions

abbrev Lined : List ℕ → Type 0
Lined = Then (flat_map rule_text) Asks

abbrev Behind : Slot → List ℕ → Type 0
Behind ClaimCount = Fixed (letters WorkersWord) (Then decimal (Fixed line_end Lined))
Behind WorkerCount = Fixed line_end Lined
Behind Head = Then body_text (Fixed (letters StopWord) Lined)
Behind Body = Then (flat_map comma_text) (Fixed (letters StopWord) Lined)
Behind NotBody = Then (flat_map comma_text) (Fixed (letters StopWord) Lined)
Behind Asker = Fixed blank (Then decimal (Fixed line_end Asks))
Behind Asked = Fixed line_end Asks

abbrev Number : Slot → List ℕ → Type 0
Number sl = Then decimal (Behind sl)

abbrev Literals : List ℕ → Type 0
Literals = Then literal_text (Behind Body)

abbrev AfterWord : Word → List ℕ → Type 0
AfterWord ClaimsWord = Number ClaimCount
AfterWord WorkersWord = Number WorkerCount
AfterWord IfWord = Literals
AfterWord NotWord = Number NotBody
AfterWord AskWord = Number Asker
AfterWord StopWord = Lined
AfterWord CommaWord = Literals

abbrev Tail : State → List ℕ → Type 0
Tail Bad bs = ⊥
Tail FirstLine bs = Fixed (letters ClaimsWord) (Number ClaimCount) bs
Tail AnyLine bs = Lined bs
Tail AskLine bs = Asks bs
Tail (Letter w k) bs = k < length (letters w) → Fixed (drop k (letters w)) (AfterWord w) bs
Tail (First sl) bs = Number sl bs
Tail (Zero sl) bs = Behind sl bs
Tail (More sl) bs = (n : ℕ) → 1 ≤ n → Number sl (decimal n ++ bs)
Tail BodyNext bs = Literals bs

-- one byte more in front
module _ {P : List ℕ → Type 0} where
  fixed_more : {w : List ℕ} {b c : ℕ} {bs : List ℕ} → b ≡ c → Fixed w P bs → Fixed (c ∷ w) P (b ∷ bs)
  fixed_more e f = record { rest = f.rest; text = cc; more = f.more }

  fixed_one : {b c : ℕ} {bs : List ℕ} → b ≡ c → P bs → Fixed (c ∷ []) P (b ∷ bs)
  fixed_one {b} {c} {bs} e p = record { rest = bs; text = cc; more = p }

after_tail : (w : Word) (bs : List ℕ) → Tail (after w) bs → AfterWord w bs
after_tail ClaimsWord bs t = t
after_tail WorkersWord bs t = t
after_tail IfWord bs t = t
after_tail NotWord bs t = t
after_tail AskWord bs t = t
after_tail StopWord bs t = t
after_tail CommaWord bs t = t

spelled_tail : (w : Word) (k b : ℕ) (bs : List ℕ) → is_bad (spelled w k b) ≡ false → Tail (spelled w k b) bs → Tail (Letter w k) (b ∷ bs)
spelled_tail w k b bs =
    spelled-case (λ st. Tail st bs → Tail (Letter w k) (b ∷ bs)) w k b
    (λ q h t l. rw (drop-cons (letters w) k 0 l, ← add-one k) (fixed_more q (t h)))
    (λ q h t l. rw (drop-cons (letters w) k 0 l, ← add-one k, drop_of_length-le (letters w) h) (fixed_one q (after_tail w bs t)))

-- a number
decimal_more : (n d : ℕ) → 1 ≤ n → d < 10 → decimal (10 * n + d) ≡ decimal n ++ ((48 + d) ∷ [])
decimal_more n d h l =
    let q : (10 * n + d) / 10 ≡ n = omega arith in
    let r : (10 * n + d) % 10 ≡ d = omega arith in
    decimal-large (10 * n + d) (omega arith) ∙ rw (q, r)

decimal_byte : (b : ℕ) (bs : List ℕ) → 48 ≤ b → b < 58 → decimal (b - 48) ++ bs ≡ b ∷ bs
decimal_byte b bs h l = let v : 48 + (b - 48) ≡ b = omega arith in rw (decimal-small (b - 48) (omega arith), v)

decimal_digit : (n b : ℕ) (bs : List ℕ) → 1 ≤ n → 48 ≤ b → b < 58 → decimal n ++ (b ∷ bs) ≡ decimal (10 * n + (b - 48)) ++ bs
decimal_digit n b bs h l u =
    let v : 48 + (b - 48) ≡ b = omega arith in
    rw (decimal_more n (b - 48) h (omega arith), append_assoc (decimal n) ((48 + (b - 48)) ∷ []) bs, v)

first_tail : (sl : Slot) (b : ℕ) (bs : List ℕ) → is_bad (first sl b) ≡ false → Tail (first sl b) bs → Number sl (b ∷ bs)
first_tail sl b bs =
    first-case (λ st. Tail st bs → Number sl (b ∷ bs)) sl b
    (λ q t. record { it = 0; rest = bs; text = rw (decimal-small 0 (omega arith), q); more = t })
    (λ d l u t. rw (decimal_byte b bs (omega arith) u) at (t (b - 48) (omega arith)))

-- literals, rules and questions, with what follows them
literals_tail : (b : ℕ) (bs : List ℕ) → Fixed (letters CommaWord) Literals (b ∷ bs) → Behind Body (b ∷ bs)
unfolding flat_map
literals_tail b bs f =
    let m = f.more.more in
    record { it = f.more.it ∷ m.it; rest = m.rest; text = f.text ∙ rw (f.more.text, m.text) (simp append_assoc); more = m.more }

body_tail : (b : ℕ) (bs : List ℕ) → Fixed (letters IfWord) Literals (b ∷ bs) → Behind Head (b ∷ bs)
body_tail b bs f =
    let m = f.more.more in
    record { it = f.more.it ∷ m.it; rest = m.rest; text = f.text ∙ rw (f.more.text, m.text) (simp append_assoc); more = m.more }

rule_tail : (b : ℕ) (bs : List ℕ) → Number Head (b ∷ bs) → Lined (b ∷ bs)
unfolding flat_map
rule_tail b bs n =
    let m = n.more in
    let s = m.more in
    let r = s.more in
    record {
      it = record { head = n.it; body = m.it } ∷ r.it;
      rest = r.rest;
      text = n.text ∙ rw (m.text, s.text, r.text) (simp append_assoc);
      more = r.more;
    }

ask_tail : (b : ℕ) (bs : List ℕ) → Fixed (letters AskWord) (Number Asker) (b ∷ bs) → Asks (b ∷ bs)
unfolding flat_map
ask_tail b bs f =
    let n = f.more in
    let s = n.more in
    let c = s.more in
    let e = c.more in
    record {
      questions = record { worker = n.it; claim = c.it } ∷ e.more.questions;
      text = f.text ∙ rw (n.text, s.text, c.text, e.text, e.more.text) (simp append_assoc);
    }

-- the byte behind a number
literal-ended : (b : ℕ) (bs : List ℕ) → is_bad (ended Body b) ≡ false → Tail (ended Body b) bs → Behind Body (b ∷ bs)
unfolding flat_map
literal-ended b bs =
    either-case (λ st. Tail st bs → Behind Body (b ∷ bs)) b 46 (Letter StopWord 1) 44 (Letter CommaWord 1)
    (λ q t. record { it = []; rest = b ∷ bs; text = refl; more = fixed_more q (t (omega arith)) })
    (λ q t. literals_tail b bs (fixed_more q (t (omega arith))))

ended_tail : (sl : Slot) (b : ℕ) (bs : List ℕ) → is_bad (ended sl b) ≡ false → Tail (ended sl b) bs → Behind sl (b ∷ bs)
ended_tail ClaimCount b bs = only-case (λ st. Tail st bs → Behind ClaimCount (b ∷ bs)) b 32 (Letter WorkersWord 1) (λ q t. fixed_more q (t (omega arith)))
ended_tail WorkerCount b bs = only-case (λ st. Tail st bs → Behind WorkerCount (b ∷ bs)) b 10 AnyLine (λ q t. fixed_one q t)
ended_tail Head b bs =
    either-case (λ st. Tail st bs → Behind Head (b ∷ bs)) b 46 (Letter StopWord 1) 32 (Letter IfWord 1)
    (λ q t. record { it = []; rest = b ∷ bs; text = refl; more = fixed_more q (t (omega arith)) })
    (λ q t. body_tail b bs (fixed_more q (t (omega arith))))
ended_tail Body b bs = literal-ended b bs
ended_tail NotBody b bs = literal-ended b bs
ended_tail Asker b bs = only-case (λ st. Tail st bs → Behind Asker (b ∷ bs)) b 32 (First Asked) (λ q t. fixed_one q t)
ended_tail Asked b bs = only-case (λ st. Tail st bs → Behind Asked (b ∷ bs)) b 10 AskLine (λ q t. fixed_one q t)

more_tail : (sl : Slot) (b : ℕ) (bs : List ℕ) → is_bad (more sl b) ≡ false → Tail (more sl b) bs → Tail (More sl) (b ∷ bs)
more_tail sl b bs =
    more-case (λ st. Tail st bs → Tail (More sl) (b ∷ bs)) sl b
    (λ d t n h. rw (decimal_digit n b bs h (digit-least b d) (digit_most b d)) (t (10 * n + (b - 48)) (omega arith)))
    (λ d e t n h. record { it = n; rest = b ∷ bs; text = refl; more = ended_tail sl b bs e t })

-- one byte
any_tail : (b : ℕ) (bs : List ℕ) → is_bad (any_line b) ≡ false → Tail (any_line b) bs → Lined (b ∷ bs)
unfolding any_line flat_map
any_tail b bs =
    pick_both (λ (st : State). is_bad st ≡ false → Tail st bs → Lined (b ∷ bs)) (eqb b 97) (Letter AskWord 1) (first Head b)
    (λ e h t. record { it = []; rest = b ∷ bs; text = refl; more = ask_tail b bs (fixed_more (eqb-true b 97 e) (t (omega arith))) })
    (λ e h t. rule_tail b bs (first_tail Head b bs h t))

body-next_tail : (b : ℕ) (bs : List ℕ) → is_bad (body_next b) ≡ false → Tail (body_next b) bs → Literals (b ∷ bs)
unfolding body_next
body-next_tail b bs =
    pick_both (λ (st : State). is_bad st ≡ false → Tail st bs → Literals (b ∷ bs)) (eqb b 110) (Letter NotWord 1) (first Body b)
    (λ e h t.
    let f : Fixed (letters NotWord) (Number NotBody) (b ∷ bs) = fixed_more (eqb-true b 110 e) (t (omega arith)) in
    let n = f.more in
    record { it = Negated n.it; rest = n.rest; text = f.text ∙ rw n.text; more = n.more })
    (λ e h t. let n = first_tail Body b bs h t in record { it = Plain n.it; rest = n.rest; text = n.text; more = n.more })

step_tail : (st : State) (b : ℕ) (bs : List ℕ) → is_bad (step st b) ≡ false → Tail (step st b) bs → Tail st (b ∷ bs)
step_tail Bad b bs h t = absurd t
step_tail FirstLine b bs h t = only-case (λ st. Tail st bs → Tail FirstLine (b ∷ bs)) b 99 (Letter ClaimsWord 1) (λ q u. fixed_more q (u (omega arith))) h t
step_tail AnyLine b bs h t = any_tail b bs h t
step_tail AskLine b bs h t = only-case (λ st. Tail st bs → Tail AskLine (b ∷ bs)) b 97 (Letter AskWord 1) (λ q u. ask_tail b bs (fixed_more q (u (omega arith)))) h t
step_tail (Letter w k) b bs h t = spelled_tail w k b bs h t
step_tail (First sl) b bs h t = first_tail sl b bs h t
step_tail (Zero sl) b bs h t = ended_tail sl b bs h t
step_tail (More sl) b bs h t = more_tail sl b bs h t
step_tail BodyNext b bs h t = body-next_tail b bs h t

pub never : {n p : ℕ} {A : Type 0} → Accepted ≡ Refused n p → A
never e = let z : ◌≡◌ {A = ℕ} 0 1 = cc in absurd (omega arith)

end_tail : (st : State) (line : ℕ) → Accepted ≡ at_end st line → Tail st []
unfolding flat_map
end_tail Bad line e = never e
end_tail FirstLine line e = never e
end_tail AnyLine line e = record { it = []; rest = []; text = refl; more = record { questions = []; text = refl } }
end_tail AskLine line e = record { questions = []; text = refl }
end_tail (Letter w k) line e = never e
end_tail (First sl) line e = never e
end_tail (Zero sl) line e = never e
end_tail (More sl) line e = never e
end_tail BodyNext line e = never e

tail : (bs : List ℕ) (st : State) (line : ℕ) → Accepted ≡ fits_from st line bs → Tail st bs
unfolding fits_from
tail [] st line e = end_tail st line e
tail (b ∷ bs) st line e =
    let p = both (row (is_bad (step st b)) 14 (line + line_start st)) (fits_from (step st b) (line + line_start st) bs) e in
    step_tail st b bs (row-no _ _ _ p.0) (tail bs (step st b) (line + line_start st) p.1)

pub sound : (s : List ℕ) → Accepted ≡ check_fit s → (l : Lines) × (s ≡ text_of l)
unfolding check_fit text_of
sound s e =
    let f = tail s FirstLine 0 e in
    let a = f.more in
    let w = a.more in
    let t = w.more in
    let n = t.more in
    let r = n.more in
    let q = r.more in (
      record { claims = a.it; workers = t.it; rules = r.it; questions = q.questions },
      f.text ∙ rw (a.text, w.text, t.text, n.text, r.text, q.text) (simp append_assoc),
    )
