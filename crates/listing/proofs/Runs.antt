-- A line from the texts that it was written by, one after the other; and lines after lines. Assumes nothing.
--   Run a n s b                      s is written, and takes at most n bytes
--   run-start, run_more, run_none    the first text; one more; none yet
--   least                            the buffer's length
--   refusal_written, claim_written, answer_written, question_written, count_written   a line, or a count of the tally
--   claims_none, claims-more         lines of claims: none yet; one more
--   counts_none, -more, _whole       counts of the tally: none yet; one more; the whole line
--   first_lines s t k, first_none, _more, -whole   the lines of the first k questions: none yet; one more; all
use Prim.Native.Nat.{ℕ, zero, suc, ◌+◌, ◌*◌, ◌≤◌, ◌<◌}
use mathlib.Core.Path.{◌≡◌, refl, sym, ◌∙◌, ap, ap₂}
use mathlib.Core.List.{List, [], ◌∷◌, ◌++◌, flat_map, append_assoc, append-nil}
use native.Mathlib.Nat.{zero-add, add-zero}
use native.Mathlib.Numerals.{add-one}
use native.Mathlib.Omega.{arith}
use lib.ListN.{length, take, drop, get_or, length-append, length-drop, take-append-drop}
use lib.Seq.{take-length}
use Rattle.base.specs.Span.{span}
use Rattle.base.specs.Lists.{upto}
use Rattle.base.proofs.Span.{length-span, span_snoc}
use Rattle.writing.specs.Decimal.{decimal}
use Rattle.writing.specs.Written.{wrote}
use Rattle.writing.specs.Writes.{Writes, HasRoom}
use Rattle.writing.specs.declared.writer.Writer.{Writer}
use Rattle.writing.proofs.Decimal.{length-room}
use Rattle.writing.proofs.Writing.{writes_none, writes-writes}
use Rattle.job.specs.Bytes.{half}
use Rattle.job.specs.Job.{Job}
use Rattle.job.specs.Accepted.{WellFormed}
use Rattle.job.specs.Format.{claims, rules, literals, workers, questions, question_byte, question_at, job_of}
use Rattle.job.specs.declared.Question.{Question}
use Rattle.table.specs.declared.Reading.{Reading}
use Rattle.table.specs.Reading.{reading_of}
use Rattle.table.specs.Layout.{mark, answer_at, answer, mark_of_value}
use Rattle.listing.specs.Text.{blank, line_end, refused_word, tally_word, name_of}
use Rattle.listing.specs.Listing.{refusal_line, claim_line, count_text, tally_line, answer_line, question_line, question_lines, line_of}
use Rattle.listing.proofs.Names.{name-room}

-- what is written makes no buffer shorter
wrote-least : (buf : List ℕ) (at : ℕ) (text : List ℕ) → length buf ≤ length (wrote buf at text)
unfolding wrote
wrote-least buf at text =
    omega (
      arith,
      length-append (take at buf) text,
      length-append (take at buf ++ text) (drop (at + length text) buf),
      length-append (take at buf) (drop at buf),
      ap length (take-append-drop at buf),
      length-drop at buf,
      length-drop (at + length text) buf,
    )

pub least : {a b : Writer} {s : List ℕ} → Writes a b s → length a.buf.now ≤ length b.buf.now
least {a} {b} {s} p = omega (arith, ap length p.put.bytes, wrote-least a.buf.now a.at s)

pub record Run (a : Writer) (n : ℕ) (s : List ℕ) (b : Writer) : Type 0 where
  pub writes : Writes a b s
  pub few : length s ≤ n

pub run-start : {a b : Writer} (n : ℕ) {s : List ℕ} → length s ≤ n → Writes a b s → Run a n s b
run-start n h p = record { writes = p; few = h }

pub run_more :
    {a b c : Writer} {n : ℕ} {s t : List ℕ} (k : ℕ) → HasRoom a n → length t ≤ k → Run a n s b → Writes b c t
    → Run a (n + k) (s ++ t) c
run_more {a = a} {b = b} {c = c} {s = s} {t = t} k h l p q =
    record { writes = writes-writes a b s (omega arith) p.writes c t q; few = omega (arith, length-append s t) }

module _ {a b₁ b₂ b₃ b₄ b₅ : Writer} where
  pub refusal_written :
      {number place : ℕ} → HasRoom a 60 → number < 18446744073709551616 → place < 18446744073709551616
      → Writes a b₁ refused_word → Writes b₁ b₂ (decimal number) → Writes b₂ b₃ (blank ∷ [])
      → Writes b₃ b₄ (decimal place) → Writes b₄ b₅ (line_end ∷ []) → Writes a b₅ (refusal_line number place)
  refusal_written {number = number} {place = place} h m l p₁ p₂ p₃ p₄ p₅ =
      let q₁ : Run a 8 refused_word b₁ = run-start 8 (omega arith) p₁ in
      let q₂ : Run a 28 (refused_word ++ decimal number) b₂ = run_more 20 (omega arith) (length-room number m) q₁ p₂ in
      let q₃ : Run a 29 (refused_word ++ decimal number ++ (blank ∷ [])) b₃ = run_more 1 (omega arith) (omega arith) q₂ p₃ in
      let q₄ : Run a 49 (refused_word ++ decimal number ++ (blank ∷ []) ++ decimal place) b₄ =
      run_more 20 (omega arith) (length-room place l) q₃ p₄ in
      let q₅ : Run a 50 (refusal_line number place) b₅ = run_more 1 (omega arith) (omega arith) q₄ p₅ in
      q₅.writes

module _ {a b₁ b₂ b₃ b₄ : Writer} where
  pub claim_written :
      (t : List ℕ) (c : ℕ) {m : ℕ} {v : Reading} → HasRoom a 31 → c < 18446744073709551616 → m ≡ mark t c → v ≡ reading_of m
      → Writes a b₁ (decimal c) → Writes b₁ b₂ (blank ∷ []) → Writes b₂ b₃ (name_of v)
      → Writes b₃ b₄ (line_end ∷ []) → Writes a b₄ (claim_line t c)
  claim_written t c {m = m} {v = v} h l q g p₁ p₂ p₃ p₄ =
      let w : v ≡ reading_of (mark t c) = g ∙ ap reading_of q in
      let q₁ : Run a 20 (decimal c) b₁ = run-start 20 (length-room c l) p₁ in
      let q₂ : Run a 21 (decimal c ++ (blank ∷ [])) b₂ = run_more 1 (omega arith) (omega arith) q₁ p₂ in
      let q₃ : Run a 30 (decimal c ++ (blank ∷ []) ++ name_of v) b₃ = run_more 9 (omega arith) (name-room v) q₂ p₃ in
      let q₄ : Run a 31 (decimal c ++ (blank ∷ []) ++ name_of v ++ (line_end ∷ [])) b₄ =
      run_more 1 (omega arith) (omega arith) q₃ p₄ in
      rw w at q₄.writes

pub claim-room : (t : List ℕ) (c : ℕ) → c < 18446744073709551616 → length (claim_line t c) ≤ 31
claim-room t c l =
    let v : Reading = reading_of (mark t c) in
    omega (
      arith,
      length-room c l,
      name-room v,
      length-append (decimal c) (blank ∷ []),
      length-append (decimal c ++ (blank ∷ [])) (name_of v),
      length-append (decimal c ++ (blank ∷ []) ++ name_of v) (line_end ∷ []),
    )

-- nothing yet, and one line more of claims
pub run_none : {A : Type 0} (f : A → List ℕ) (a : Writer) → Run a 0 (flat_map f []) a
unfolding flat_map
run_none f a = record { writes = writes_none a; few = omega arith }

pub flat_map_snoc : {A : Type 0} (f : A → List ℕ) (xs : List A) (x : A) → flat_map f (xs ++ (x ∷ [])) ≡ flat_map f xs ++ f x
unfolding flat_map
flat_map_snoc f [] x = append-nil (f x)
flat_map_snoc f (y ∷ ys) x = ap (λ (l : List ℕ). f y ++ l) (flat_map_snoc f ys x) ∙ sym (append_assoc (f y) (flat_map f ys) (f x))

pub claims_none : (t : List ℕ) (a : Writer) → Run a 0 (flat_map (claim_line t) (upto 0)) a
unfolding span
claims_none t a = run_none (claim_line t) a

pub claims-more :
    (t : List ℕ) {a b b' : Writer} (c : ℕ) → c < 18446744073709551616 → HasRoom a (31 * c)
    → Run a (31 * c) (flat_map (claim_line t) (upto c)) b → Writes b b' (claim_line t c)
    → Run a (31 * (c + 1)) (flat_map (claim_line t) (upto (c + 1))) b'
claims-more t c l h p q =
    let e : upto (c + 1) ≡ upto c ++ (c ∷ []) =
    ap upto (add-one c) ∙ span_snoc (λ k. k) 0 c ∙ ap (λ (k : ℕ). upto c ++ (k ∷ [])) (zero-add c) in
    let g : flat_map (claim_line t) (upto (c + 1)) ≡ flat_map (claim_line t) (upto c) ++ claim_line t c =
    ap (flat_map (claim_line t)) e ∙ flat_map_snoc (claim_line t) (upto c) c in
    let m : 31 * (c + 1) ≡ 31 * c + 31 = omega arith in
    rw (g, m) (run_more 31 h (claim-room t c l) p q)

-- the counts of a tally
pub counts_none : (ns : List ℕ) (a : Writer) → Run a 0 (flat_map count_text (take 0 ns)) a
counts_none ns a = run_none count_text a

take_more : (xs : List ℕ) (i : ℕ) → i < length xs → take (suc i) xs ≡ take i xs ++ (get_or xs i 0 ∷ [])
take_more [] i h = absurd (omega arith)
take_more (x ∷ xs) zero h = refl
take_more (x ∷ xs) (suc i) h = ap (λ (l : List ℕ). x ∷ l) (take_more xs i (omega arith))

pub counts-more :
    (ns : List ℕ) {a b b' : Writer} (i : ℕ) → i < length ns → HasRoom a (21 * i)
    → Run a (21 * i) (flat_map count_text (take i ns)) b → Writes b b' (count_text (get_or ns i 0)) × (b'.at ≤ b.at + 21)
    → Run a (21 * (i + 1)) (flat_map count_text (take (i + 1) ns)) b'
counts-more ns i l h p q =
    let n : ℕ = get_or ns i 0 in
    let s : List ℕ = flat_map count_text (take i ns) in
    let e : flat_map count_text (take (i + 1) ns) ≡ s ++ count_text n =
    ap (λ (k : ℕ). flat_map count_text (take k ns)) (add-one i)
    ∙ ap (flat_map count_text) (take_more ns i l)
    ∙ flat_map_snoc count_text (take i ns) n in
    let m : 21 * (i + 1) ≡ 21 * i + 21 = omega arith in
    let few : length (count_text n) ≤ 21 = omega arith in
    rw (e, m) (run_more 21 h few p q.0)

pub counts_whole :
    (ns : List ℕ) {a b₁ b₂ b₃ : Writer} {i : ℕ} → length ns ≡ 8 → i ≡ 8 → HasRoom a 200 → Writes a b₁ tally_word
    → Run b₁ (21 * i) (flat_map count_text (take i ns)) b₂ → Writes b₂ b₃ (line_end ∷ []) → Writes a b₃ (tally_line ns)
counts_whole ns {a = a} {b₁ = b₁} {b₂ = b₂} {b₃ = b₃} {i = i} l q h p m z =
    let e : take i ns ≡ ns = ap (λ (k : ℕ). take k ns) (q ∙ sym l) ∙ take-length ns in
    let w : flat_map count_text (take i ns) ≡ flat_map count_text ns = ap (flat_map count_text) e in
    let n : Writes b₁ b₂ (flat_map count_text ns) = rw w at m.writes in
    let few : length (flat_map count_text ns) ≤ 168 = omega (arith, ap length w) in
    let q₁ : Run a 5 tally_word b₁ = run-start 5 (omega arith) p in
    let q₂ : Run a 173 (tally_word ++ flat_map count_text ns) b₂ = run_more 168 (omega arith) few q₁ n in
    let q₃ : Run a 174 (tally_line ns) b₃ = run_more 1 (omega arith) (omega arith) q₂ z in
    q₃.writes

pub count_written :
    {n : ℕ} {a b₁ b₂ : Writer} → HasRoom a 21 → n < 18446744073709551616
    → Writes a b₁ (blank ∷ []) → Writes b₁ b₂ (decimal n) → Writes a b₂ (count_text n) × (b₂.at ≤ a.at + 21)
count_written {n = n} {a = a} {b₁ = b₁} {b₂ = b₂} h l p q =
    (writes-writes a b₁ (blank ∷ []) (omega arith) p b₂ (decimal n) q, omega (arith, length-room n l))

-- questions
module _ {a b₁ b₂ b₃ b₄ b₅ b₆ : Writer} where
  pub answer_written :
      (w c : ℕ) (v : Reading) → HasRoom a 52 → w < 18446744073709551616 → c < 18446744073709551616
      → Writes a b₁ (decimal w) → Writes b₁ b₂ (blank ∷ []) → Writes b₂ b₃ (decimal c)
      → Writes b₃ b₄ (blank ∷ []) → Writes b₄ b₅ (name_of v) → Writes b₅ b₆ (line_end ∷ [])
      → Writes a b₆ (answer_line w c v)
  answer_written w c v h fw fc p₁ p₂ p₃ p₄ p₅ p₆ =
      let q₁ : Run a 20 (decimal w) b₁ = run-start 20 (length-room w fw) p₁ in
      let q₂ : Run a 21 (decimal w ++ (blank ∷ [])) b₂ = run_more 1 (omega arith) (omega arith) q₁ p₂ in
      let q₃ : Run a 41 (decimal w ++ (blank ∷ []) ++ decimal c) b₃ = run_more 20 (omega arith) (length-room c fc) q₂ p₃ in
      let q₄ : Run a 42 (decimal w ++ (blank ∷ []) ++ decimal c ++ (blank ∷ [])) b₄ =
      run_more 1 (omega arith) (omega arith) q₃ p₄ in
      let q₅ : Run a 51 (decimal w ++ (blank ∷ []) ++ decimal c ++ (blank ∷ []) ++ name_of v) b₅ =
      run_more 9 (omega arith) (name-room v) q₄ p₅ in
      let q₆ : Run a 52 (answer_line w c v) b₆ = run_more 1 (omega arith) (omega arith) q₅ p₆ in
      q₆.writes

pub answer-room :
    (w c : ℕ) (v : Reading) → w < 18446744073709551616 → c < 18446744073709551616 → length (answer_line w c v) ≤ 52
answer-room w c v l m =
    omega (
      arith,
      length-room w l,
      length-room c m,
      name-room v,
      length-append (decimal w) (blank ∷ []),
      length-append (decimal w ++ (blank ∷ [])) (decimal c),
      length-append (decimal w ++ (blank ∷ []) ++ decimal c) (blank ∷ []),
      length-append (decimal w ++ (blank ∷ []) ++ decimal c ++ (blank ∷ [])) (name_of v),
      length-append (decimal w ++ (blank ∷ []) ++ decimal c ++ (blank ∷ []) ++ name_of v) (line_end ∷ []),
    )

-- the line of question k, by what was read
pub question_written :
    (s t : List ℕ) (k : ℕ) {a w x : ℕ} {g : Question} {v : Reading} {b b' : Writer}
    → g ≡ question_at s (rules s) (literals s) k
    → a ≡ claims s → w ≡ workers s → x ≡ get_or t (answer_at a w k) 0 → {n : ℕ} → n ≡ mark_of_value x → v ≡ reading_of n
    → Writes b b' (answer_line g.worker g.claim v) → Writes b b' (line_of s t k)
unfolding job_of
question_written s t k {v = v} eg ea ew ex en ev p =
    let y : v ≡ reading_of (mark_of_value (get_or t (answer_at (claims s) (workers s) k) 0)) =
    ev ∙ ap reading_of (en ∙ ap (λ (n : ℕ). mark_of_value n) (ex ∙ ap₂ (λ (a' w' : ℕ). get_or t (answer_at a' w' k) 0) ea ew)) in
    rw (eg, y) at p

-- lines of questions, one more at the end
lines_snoc :
    (j : Job) (t : List ℕ) (a : ℕ) (xs : List Question) (q : Question)
    → question_lines j t a (xs ++ (q ∷ [])) ≡ question_lines j t a xs ++ question_line j t (a + length xs) q
unfolding question_lines
lines_snoc j t a [] q = append-nil (question_line j t a q) ∙ ap (λ (k : ℕ). question_line j t k q) (sym (add-zero a))
lines_snoc j t a (y ∷ ys) q =
    let e : a + 1 + length ys ≡ a + suc (length ys) = omega arith in
    ap (λ (l : List ℕ). question_line j t a y ++ l) (lines_snoc j t (a + 1) ys q)
    ∙ sym (append_assoc (question_line j t a y) (question_lines j t (a + 1) ys) (question_line j t (a + 1 + length ys) q))
    ∙ ap (λ (k : ℕ). question_line j t a y ++ question_lines j t (a + 1) ys ++ question_line j t k q) e

-- the lines of the first k questions
module _ (s t : List ℕ) where
  abbrev pub first_lines : ℕ → List ℕ
  first_lines k = question_lines (job_of s) t 0 (span (question_at s (rules s) (literals s)) 0 k)

  pub first_none : (a : Writer) → Run a 0 (first_lines 0) a
  unfolding span question_lines
  first_none a = record { writes = writes_none a; few = omega arith }

  first_snoc : (k : ℕ) → first_lines (k + 1) ≡ first_lines k ++ line_of s t k
  first_snoc k =
      let f : ℕ → Question = question_at s (rules s) (literals s) in
      let e : 0 + k ≡ k = omega arith in
      let n : 0 + length (span f 0 k) ≡ k = omega (arith, length-span f 0 k) in
      ap (λ (i : ℕ). first_lines i) (add-one k)
      ∙ ap (question_lines (job_of s) t 0) (span_snoc f 0 k)
      ∙ lines_snoc (job_of s) t 0 (span f 0 k) (f (0 + k))
      ∙ ap₂ (λ (i h : ℕ). first_lines k ++ question_line (job_of s) t i (f h)) n e

  line-room : WellFormed s → (k : ℕ) → k < questions s → length (line_of s t k) ≤ 52
  line-room w k h =
      answer-room (half s (question_byte (rules s) (literals s) k)) (half s (question_byte (rules s) (literals s) k + 2))
      (reading_of (mark_of_value (answer (job_of s) t k)))
      (omega (arith, w.asker k h, w.sized.workers_most)) (omega (arith, w.asked k h, w.sized.claims_most))

  pub first_more :
      {a b b' : Writer} → WellFormed s → (k : ℕ) → k < questions s → HasRoom a (52 * k)
      → Run a (52 * k) (first_lines k) b → Writes b b' (line_of s t k) → Run a (52 * (k + 1)) (first_lines (k + 1)) b'
  first_more w k l h p q =
      let m : 52 * (k + 1) ≡ 52 * k + 52 = omega arith in
      rw (first_snoc k, m) (run_more 52 h (line-room w k l) p q)

  pub first-whole :
      {a b : Writer} {k : ℕ} → k ≡ questions s → Writes a b (first_lines k)
      → Writes a b (question_lines (job_of s) t 0 (job_of s).questions)
  unfolding job_of
  first-whole e p = rw e at p
