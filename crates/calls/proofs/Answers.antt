-- Along a run, a worker's turns of kind answered are counted by its word, and the answers they tell are the verdicts. Assumes nothing.
--   value-of     the reading of a complete claim is its verdict
--   times_grow   w's word grows by w's turns of kind answered
--   answer-run   the answer of w's question k, among the turns after which it is answered
use mathlib.Core.Path.{◌≡◌, refl, sym, ◌∙◌, ap, ap₂}
use mathlib.Core.Logic.{by_cases}
use mathlib.Core.Bool.{Bool, true, false, ◌&&◌}
use mathlib.Core.List.Memᴰ
use mathlib.Core.List.{List, [], ◌∷◌}
use Prim.Native.Nat.{ℕ, suc, ◌+◌, ◌-◌, ◌≤◌, ◌<◌}
use native.Mathlib.Omega.{arith}
use native.Mathlib.Nat.{zero-add}
use native.Mathlib.Decide.{ℕ_discrete}
use borrow.Author.Tests.{eq-eqb, ne_eqb}
use lib.Dec.{eqb}
use Rattle.base.specs.Choose.{pick}
use Rattle.base.proofs.Bools.{and_no}
use Rattle.base.proofs.Choose.{pick_true, pick-false}
use Rattle.job.specs.Job.{Job}
use Rattle.semantics.specs.Model.{byte_of}
use Rattle.table.specs.Questions.{question_claim}
use Rattle.table.specs.Layout as W
use Rattle.table.specs.Reading.{reading_of, reading_value}
use Rattle.table.proofs.Shown.{mark_most, reading-value}
use Rattle.turn.specs.Turn.{kind_number, turn, run_table}
use Rattle.calls.specs.Lists.{Event, run_events, answers, times, answer_at, Complete}
use Rattle.turn.specs.declared.Kind.{Kind}
use Rattle.turn.specs.declared.Kind.TheVariants.{Idle, Woke, Opened, Waits, Took, Passed, Completed, Answered}
use Rattle.turn.proofs.Jobs.{JobOk}
use Rattle.steps.proofs.Verdicts.{verdict_in}
use Rattle.steps.proofs.Counted.{Counted, turn-counted}
use Rattle.steps.proofs.Runs.{Made, made-turn, Low}

-- kinds by their numbers
pub kind-answered : (k : Kind) → kind_number k ≡ 7 → k ≡ Answered
kind-answered Idle e = absurd (omega arith)
kind-answered Woke e = absurd (omega arith)
kind-answered Opened e = absurd (omega arith)
kind-answered Waits e = absurd (omega arith)
kind-answered Took e = absurd (omega arith)
kind-answered Passed e = absurd (omega arith)
kind-answered Completed e = absurd (omega arith)
kind-answered Answered e = refl

pub kind_idle : (k : Kind) → kind_number k ≡ 0 → k ≡ Idle
kind_idle Idle e = refl
kind_idle Woke e = absurd (omega arith)
kind_idle Opened e = absurd (omega arith)
kind_idle Waits e = absurd (omega arith)
kind_idle Took e = absurd (omega arith)
kind_idle Passed e = absurd (omega arith)
kind_idle Completed e = absurd (omega arith)
kind_idle Answered e = absurd (omega arith)

-- the marks of a table that turns made
module _ {j : Job} (J : JobOk j) {t : List ℕ} (M : Made j t) where
  pub shown-value : (c : ℕ) → c < j.claims → reading_value (reading_of (W.mark t c)) ≡ W.value_of (W.mark t c)
  shown-value c h = reading-value (W.mark t c) (mark_most j t c (omega (arith, J.few)) (M.range.claim c h))

  pub complete-mark : (c : ℕ) → c < j.claims → Complete t c → W.true_mark ≤ W.mark t c
  complete-mark c h d = omega (arith, shown-value c h)

  pub mark-complete : (c : ℕ) → c < j.claims → W.true_mark ≤ W.mark t c → Complete t c
  mark-complete c h d = omega (arith, shown-value c h)

  pub value-of : (c : ℕ) → c < j.claims → W.true_mark ≤ W.mark t c → reading_value (reading_of (W.mark t c)) ≡ byte_of (verdict_in j c)
  value-of c h d = omega (arith, shown-value c h, M.verdicts.marks c h d)

-- what u's turn is to w's count
data Effect (j : Job) (t : List ℕ) (e : Event) (w : ℕ) : Type 0 where
  counts : answers e w ≡ true → W.answered j e.table w ≡ suc (W.answered j t w) → Effect j t e w
  keeps : answers e w ≡ false → W.answered j e.table w ≡ W.answered j t w → Effect j t e w

abbrev event : Job → List ℕ → ℕ → Event
event j t u = record { worker = u; kind = (turn j t u).kind; table = (turn j t u).table }

module _ (j : Job) (J : JobOk j) where
  effect : (t : List ℕ) → Made j t → (u : ℕ) → u < j.workers → (w : ℕ) → w < j.workers → Effect j t (event j t u) w
  unfolding answers
  effect t M u g w h = go (turn-counted j J t M.range u g)
    where
      go : Counted j t u (turn j t u) → Effect j t (event j t u) w
      go c =
          by_cases (ℕ_discrete u w)
          (λ e.
          by_cases (ℕ_discrete (kind_number (turn j t u).kind) 7)
          (λ k.
          counts (ap₂ ◌&&◌ (eq-eqb u w e) (eq-eqb (kind_number (turn j t u).kind) 7 k))
          (ap (W.answered j (turn j t u).table) (sym e) ∙ c.more (kind-answered (turn j t u).kind k) ∙ omega (arith, ap (W.answered j t) e)))
          (λ k.
          keeps (and_no (eqb u w) _ (ne_eqb (kind_number (turn j t u).kind) 7 k))
          (ap (W.answered j (turn j t u).table) (sym e) ∙ c.same (λ q. k (ap kind_number q)) ∙ ap (W.answered j t) e)))
          (λ n. keeps (ap (λ (b : Bool). b && eqb (kind_number (turn j t u).kind) 7) (ne_eqb u w n)) (c.others w h (λ e. n (sym e))))

  pub times_grow : (ws t : List ℕ) → Made j t → Low j ws → (w : ℕ) → w < j.workers → times (run_events j t ws) w + W.answered j t w ≡ W.answered j (run_table j t ws) w
  unfolding run_events run_table times
  times_grow [] t M l w h = zero-add (W.answered j t w)
  times_grow (u ∷ ws) t M l w h =
      let g = l u (Memᴰ.head refl) in
      go _ _ (times_grow ws (turn j t u).table (made-turn j J t M u g) (λ v i. l v (Memᴰ.tail i)) w h) (effect t M u g w h)
    where
      go : (n m : ℕ) → n + W.answered j (turn j t u).table w ≡ m → Effect j t (event j t u) w → pick (answers (event j t u) w) 1 0 + n + W.answered j t w ≡ m
      go n m e (counts a c) = let p : ◌≡◌ {A = ℕ} (pick (answers (event j t u) w) 1 0) 1 = pick_true _ _ _ a in omega arith
      go n m e (keeps a c) = let p : ◌≡◌ {A = ℕ} (pick (answers (event j t u) w) 1 0) 0 = pick-false _ _ _ a in omega arith

  pub answer-run : (ws t : List ℕ) → Made j t → Low j ws → (w k : ℕ) → w < j.workers → W.answered j t w ≤ k → k < W.answered j (run_table j t ws) w → answer_at (run_events j t ws) w (k - W.answered j t w) (question_claim j w k) ≡ byte_of (verdict_in j (question_claim j w k))
  unfolding run_events run_table answer_at
  answer-run [] t M l w k h a b = absurd (omega arith)
  answer-run (u ∷ ws) t M l w k h a b =
      let g = l u (Memᴰ.head refl) in
      let M' = made-turn j J t M u g in
      go M' (λ a. answer-run ws (turn j t u).table M' (λ v i. l v (Memᴰ.tail i)) w k h a b) (effect t M u g w h)
    where
      c : ℕ
      c = question_claim j w k

      es : List Event
      es = run_events j (turn j t u).table ws

      go : Made j (turn j t u).table → (W.answered j (turn j t u).table w ≤ k → answer_at es w (k - W.answered j (turn j t u).table w) c ≡ byte_of (verdict_in j c)) → Effect j t (event j t u) w → pick (answers (event j t u) w) (pick (eqb (k - W.answered j t w) 0) (reading_value (reading_of (W.mark (turn j t u).table c))) (answer_at es w (k - W.answered j t w - 1) c)) (answer_at es w (k - W.answered j t w) c) ≡ byte_of (verdict_in j c)
      go M' ih (counts y n) =
          pick_true _ _ _ y
          ∙ by_cases (ℕ_discrete k (W.answered j t w))
          (λ e.
          let i : k < W.answered j (turn j t u).table w = omega arith in
          pick_true _ _ _ (eq-eqb (k - W.answered j t w) 0 (omega arith))
          ∙ value-of J M' c (J.question w k (omega (arith, M'.range.answers w h))) (M'.verdicts.met w k h i))
          (λ e.
          pick-false _ _ _ (ne_eqb (k - W.answered j t w) 0 (λ z. e (omega arith)))
          ∙ (ap (λ (m : ℕ). answer_at es w m c) (omega arith) ∙ ih (omega arith)))
      go M' ih (keeps y n) = pick-false _ _ _ y ∙ (ap (λ (m : ℕ). answer_at es w m c) (omega arith) ∙ ih (omega arith))
