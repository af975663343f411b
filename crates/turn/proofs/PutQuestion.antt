-- A worker puts its next question: what the code read, and the turn that the definition says. Assumes nothing.
use Prim.Native.Nat.{ℕ, zero, suc, ◌+◌, ◌<◌, ◌≤◌}
use mathlib.Core.Path.{◌≡◌, sym, ◌∙◌, ap, ap₂, subst⁻¹}
use mathlib.Core.Bool.{true, false}
use mathlib.Core.List.{List}
use native.Mathlib.Omega.{arith}
use borrow.Author.Tests.{eq-eqb, ne_eqb, le-leb, lt-leb}
use lib.Dec.{leb}
use lib.ListN.{length, get_or, set}
use Rattle.base.specs.Span.{span}
use Rattle.base.proofs.Choose.{pick_true, pick-false}
use Rattle.job.specs.Job.{Job, most_claims}
use Rattle.job.specs.Format.{claims, workers, rules, literals, questions, question_at, job_of}
use Rattle.job.specs.Accepted.{WellFormed}
use Rattle.job.specs.declared.Question.{Question}
use Rattle.job.proofs.Parts.{Asked}
use Rattle.table.specs.Questions.{asked_by, claim_asked, question_claim}
use Rattle.table.specs.Layout.{opened, mark, complete, answered, kept, answer_at, answered_at, awaited_at, newest_at, newest_word, true_mark, value_of}
use Rattle.table.specs.Newest.{newer, NewestKept}
use Rattle.table.proofs.Sizes.{sizes}
use Rattle.table.specs.Ranges.{InRange}
use Rattle.turn.proofs.Making.{made_as, made_kept, made-renewed}
use Rattle.turn.proofs.Cursors.{opened-few}
use Rattle.turn.proofs.Places.{place-low}
use Rattle.turn.proofs.ThirdWords.{await-kept, answered-kept, answer-kept, open_kept}
use Rattle.turn.specs.Turn.{Turned, open_claim, ask_turn, keeping}
use Rattle.turn.specs.Ready.{Made}
use Rattle.turn.specs.declared.Kind.TheVariants.{Idle, Opened, Waits, Answered}

-- the claim of a question by its position
claim-asked : (f : ℕ → Question) (a n k : ℕ) → k < n → claim_asked (span f a n) k ≡ (f (a + k)).claim
unfolding span claim_asked
claim-asked f a zero k h = absurd (omega arith)
claim-asked f a (suc n) zero h = let e : a ≡ a + 0 = omega arith in ap (λ (x : ℕ). (f x).claim) e
claim-asked f a (suc n) (suc k) h =
    let e : suc a + k ≡ a + suc k = omega arith in
    claim-asked f (suc a) n k (omega arith) ∙ ap (λ (x : ℕ). (f x).claim) e

-- a fresh claim is left, so fewer than all are opened
pub fresh_left : (s t : List ℕ) → WellFormed s → InRange (job_of s) t → (c : ℕ) → c < claims s → mark t c ≡ 0 → opened t < most_claims
unfolding job_of
fresh_left s t f r c h e = omega (arith, opened-few (job_of s) t r c h e, f.sized.claims_most)

-- w puts question n, at position k, of claim c, whose mark is m
module _ (s t : List ℕ) (w n k : ℕ) (q : Question) (m : ℕ) (good : WellFormed s) (K : NewestKept (job_of s) t) (small : w < workers s) (count_is : n ≡ answered (job_of s) t w) (more : n < length (asked_by (job_of s) w)) (next : k ≡ get_or (asked_by (job_of s) w) n 0) (read : Asked s k q) (marked-is : m ≡ mark t q.claim) where
  pub real : k < questions s
  real = omega (arith, place-low (job_of s) w n more, (sizes s).questions_are)

  pub claim-low : q.claim < claims s
  claim-low = omega (arith, read.claim_is, good.asked k real)

  left : leb (length (asked_by (job_of s) w)) (answered (job_of s) t w) ≡ false
  left = lt-leb (length (asked_by (job_of s) w)) (answered (job_of s) t w) (omega (arith, more))

  position : get_or (asked_by (job_of s) w) (answered (job_of s) t w) 0 ≡ k
  position = ap (λ (x : ℕ). get_or (asked_by (job_of s) w) x 0) (sym count_is) ∙ sym next

  claim_is : question_claim (job_of s) w (answered (job_of s) t w) ≡ q.claim
  unfolding question_claim job_of
  claim_is =
      let e : 0 + k ≡ k = omega arith in
      ap (claim_asked (job_of s).questions) position ∙ (claim-asked (question_at s (rules s) (literals s)) 0 (questions s) k real ∙ (ap (λ (x : ℕ). (question_at s (rules s) (literals s) x).claim) e ∙ sym read.claim_is))

  mark_is : mark t (question_claim (job_of s) w (answered (job_of s) t w)) ≡ m
  mark_is = ap (mark t) claim_is ∙ sym marked-is

  whole : true_mark ≤ m → complete t (question_claim (job_of s) w (answered (job_of s) t w)) ≡ true
  whole h = le-leb true_mark (mark t (question_claim (job_of s) w (answered (job_of s) t w))) (omega (arith, mark_is))

  part : m < true_mark → complete t (question_claim (job_of s) w (answered (job_of s) t w)) ≡ false
  part h = lt-leb true_mark (mark t (question_claim (job_of s) w (answered (job_of s) t w))) (omega (arith, mark_is))

  pub puts-answered : true_mark ≤ m → {a b : ℕ} → a ≡ claims s → b ≡ workers s → Made (keeping (job_of s) (ask_turn (job_of s) t w)) Answered (set (set t (answer_at a b k) (value_of m)) (answered_at a w) (n + 1))
  unfolding ask_turn job_of
  puts-answered h {a} {b} e f =
      let r : ℕ → ℕ → ℕ → ℕ → ℕ → Turned = λ a b k m n. record { kind = Answered; table = set (set t (answer_at a b k) (value_of m)) (answered_at a w) (n + 1) } in
      made_kept (job_of s)
      (subst⁻¹ (λ (x : ℕ). NewestKept (job_of s) (set (set t (answer_at x b k) (value_of m)) (answered_at x w) (n + 1))) e
      (subst⁻¹ (λ (x : ℕ). NewestKept (job_of s) (set (set t (answer_at (claims s) x k) (value_of m)) (answered_at (claims s) w) (n + 1))) f
      (answered-kept (answer-kept K k (value_of m)) w (n + 1))))
      (made_as Answered _
      (pick-false _ _ _ left ∙ (pick_true _ _ _ (whole h)
      ∙ (ap (λ (x : ℕ). r (claims s) (workers s) x (mark t (question_claim (job_of s) w (answered (job_of s) t w))) (answered (job_of s) t w)) position
      ∙ (ap (λ (x : ℕ). r (claims s) (workers s) k x (answered (job_of s) t w)) mark_is
      ∙ (ap (λ (x : ℕ). r (claims s) (workers s) k m x) (sym count_is) ∙ ap₂ (λ (x y : ℕ). r x y k m n) (sym e) (sym f)))))))

  -- the claim that w opens, and its third word, in a table for a claims
  pub puts-opened : m ≡ 0 → InRange (job_of s) t → {a : ℕ} → a ≡ claims s → {u : List ℕ} → u ≡ set (open_claim t w q.claim) (newest_at a w) (newer (open_claim t w q.claim) q.claim (get_or t (newest_at a w) 0)) → Made (keeping (job_of s) (ask_turn (job_of s) t w)) Opened u
  unfolding ask_turn
  puts-opened e r {a} g {u} h =
      let z = sizes s in
      let b = q.claim in
      let y : u ≡ set (open_claim t w b) (newest_word (job_of s) w) (newer (open_claim t w b) b (kept (job_of s) t w)) =
      h ∙ ap (λ (x : ℕ). set (open_claim t w b) (newest_at x w) (newer (open_claim t w b) b (get_or t (newest_at x w) 0))) (g ∙ sym z.claims_are) in
      let l : w < (job_of s).workers = omega arith in
      made-renewed (job_of s) w (newer (open_claim t w b) b (kept (job_of s) t w)) l
      (subst⁻¹ (NewestKept (job_of s)) y (open_kept K l (omega (arith, claim-low)) (sym marked-is ∙ e) r.room)) y
      (made_as Opened _
      (pick-false _ _ _ left ∙ (pick-false _ _ _ (part (omega arith)) ∙ (pick_true _ _ _ (eq-eqb _ _ (mark_is ∙ e)) ∙ ap (λ (x : ℕ). record { kind = Opened; table = open_claim t w x }) claim_is))))

  pub puts-waits : (m ≡ 0 → ⊥) → m < true_mark → {a : ℕ} → a ≡ claims s → Made (keeping (job_of s) (ask_turn (job_of s) t w)) Waits (set t (awaited_at a w) (q.claim + 1))
  unfolding ask_turn job_of
  puts-waits d h {a} e =
      made_kept (job_of s) (subst⁻¹ (λ (x : ℕ). NewestKept (job_of s) (set t (awaited_at x w) (q.claim + 1))) e (await-kept K w (q.claim + 1)))
      (made_as Waits _
      (pick-false _ _ _ left ∙ (pick-false _ _ _ (part h) ∙ (pick-false _ _ _ (ne_eqb _ _ (λ z. d (sym mark_is ∙ z))) ∙ ap₂ (λ (x y : ℕ). record { kind = Waits; table = set t (awaited_at y w) (x + 1) }) claim_is (sym e)))))

pub puts_none : (j : Job) (t : List ℕ) (w n : ℕ) → NewestKept j t → n ≡ answered j t w → length (asked_by j w) ≤ n → Made (keeping j (ask_turn j t w)) Idle t
unfolding ask_turn
puts_none j t w n K e none = made_kept j K (made_as Idle t (pick_true _ _ _ (le-leb (length (asked_by j w)) (answered j t w) (omega arith))))
